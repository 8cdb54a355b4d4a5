use Rattle.std.proofs.Common.{◌∙◌, ap, sym, subst}
use Rattle.torn_block.specs.Layout.{cluster_version}
use Rattle.attempt.specs.DeviceCalls.{IsWithin, device_call_of}
use Rattle.standings.specs.Epochs.{whole_length}
use Rattle.standings.specs.Past.{MayCall}
use Rattle.coming.specs.declared.notes.Notes.{Notes}
use Rattle.coming.specs.Coming.{Knows, RaisesTowards, call_due, image_of}
use Rattle.coming.proofs.Going.{may_by}
use Rattle.coming.proofs.Rising.{rises_by}
use Rattle.coming.proofs.coming.Coming.call.Goals as goal

pub returns-clause-due : goal.returns-clause-due
returns-clause-due c = c.call.ensures.due ∙ ap call_due c.self.view_is

pub returns-clause-may : goal.returns-clause-may
returns-clause-may c n host past knows =
    let p = c.self.inside.notes in
    subst (MayCall n host past) (sym c.call.ensures.due)
    (may_by p c.self.invariant (ap (λ (m : Notes). m.end) c.self.view_is ∙ c.requires) n host past (subst (Knows n host past) (sym c.self.view_is) knows))

pub returns-clause-rises : goal.returns-clause-rises
returns-clause-rises c n host past knows =
    let p = c.self.inside.notes in
    subst (λ (m : Notes). RaisesTowards n host past m (device_call_of cluster_version c.call.result)) c.self.view_is
    (subst (RaisesTowards n host past p) (sym c.call.ensures.due)
    (rises_by p c.self.invariant (ap (λ (m : Notes). m.end) c.self.view_is ∙ c.requires) n host past (subst (Knows n host past) (sym c.self.view_is) knows)))

pub returns-clause-range : goal.returns-clause-range
returns-clause-range c = subst (λ (m : Notes). IsWithin cluster_version (whole_length (image_of m)) c.call.result) c.self.view_is c.call.ensures.range
