use Rattle.std.proofs.Common.{◌≡◌, ◌∙◌, ◌++◌, ◌∷◌, [], None, ap, sym, subst, arith}
use Rattle.attempt.specs.Heard.{Fits}
use Rattle.torn_block.specs.Layout.{cluster_version}
use Rattle.attempt.specs.DeviceCalls.{heard_of}
use Rattle.migration.specs.Heard.{at_first}
use Rattle.migration.specs.Kept.{LeadsTo, device_answer, call_due}
use Rattle.migration.specs.declared.notes.Notes.{Notes}
use Rattle.migration.proofs.Fitting.{length-schedule}
use Rattle.migration.proofs.Going.{leads_on, bounded}
use Rattle.migration.proofs.migrator.Migrator.hear.Goals as goal

pub returns-clause-leads : goal.returns-clause-leads
returns-clause-leads c s answers leads =
    let n = c.self.inside.notes in
    let before = subst (LeadsTo s answers) (sym c.self.view_is) leads in
    let going : n.end ≡ None = ap (λ (m : Notes). m.end) c.self.view_is ∙ c.requires.going in
    let fits = subst (λ (m : Notes). Fits (call_due m).1 (heard_of cluster_version c.args.heard.now)) (sym c.self.view_is) c.requires.fits in
    leads_on s answers n c.hear.new.self c.args.heard.now c.self.invariant going c.hear.ensures.same fits c.hear.ensures.hears before

pub returns-clause-bound : goal.returns-clause-bound
returns-clause-bound c s answers leads =
    let all = bounded (at_first s) (answers ++ device_answer c.args.heard.now ∷ []) (returns-clause-leads c s answers leads).history in
    omega (arith, all, length-schedule s)
