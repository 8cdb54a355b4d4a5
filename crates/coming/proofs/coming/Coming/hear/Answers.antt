use Rattle.std.proofs.Common.{◌++◌, ◌∷◌, [], ◌<◌, ap, sym, subst}
use Rattle.torn_block.specs.Layout.{cluster_version}
use Rattle.paxos_block.specs.Places.{image_length}
use Rattle.attempt.specs.DeviceCalls.{device_answer}
use Rattle.standings.specs.Past.{made}
use Rattle.coming.specs.declared.notes.Notes.{Notes}
use Rattle.coming.specs.Bound.{Tells, calls_left, number_after}
use Rattle.coming.specs.Coming.{IsSame, Knows, call_due}
use Rattle.coming.proofs.Going.{known}
use Rattle.coming.proofs.coming.Coming.hear.Goals as goal

pub returns-clause-same : goal.returns-clause-same
returns-clause-same c = subst (λ (m : Notes). IsSame m c.hear.new.self) c.self.view_is c.hear.ensures.same

pub returns-clause-knows : goal.returns-clause-knows
returns-clause-knows c n host past knows =
    let p = c.self.inside.notes in
    let answer = device_answer c.args.heard.now in
    subst (λ (m : Notes). Knows n host (past ++ made (call_due m) answer ∷ []) c.hear.new.self) c.self.view_is
    (known p c.hear.new.self past (past ++ made (call_due p) answer ∷ []) n host (c.hear.ensures.keeps past) (ap (image_length cluster_version) c.hear.ensures.same.slots) c.hear.ensures.same.host (subst (Knows n host past) (sym c.self.view_is) knows))

pub returns-clause-fewer : goal.returns-clause-fewer
returns-clause-fewer c number tells =
    let answer = device_answer c.args.heard.now in
    subst (λ (m : Notes). calls_left (number_after m answer number) c.hear.new.self < calls_left number m) c.self.view_is
    (c.hear.ensures.fewer number (subst (λ (m : Notes). Tells m.stage m answer number) (sym c.self.view_is) tells))
