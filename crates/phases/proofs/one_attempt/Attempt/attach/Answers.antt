use Rattle.std.proofs.Common.{◌≡◌, ◌<◌, ◌∙◌, ℕ, None, subst, ap, length, slice_set, arith}
use Rattle.attempt.specs.Answers.{Booted}
use Rattle.phases.specs.declared.phase.Stage.TheVariants as stage
use Rattle.phases.specs.Inside.{notes_in}
use Rattle.phases.specs.Moves.{Takes}
use Rattle.phases.specs.Notes.{Notes, visit_at}
use Rattle.phases.proofs.Answering.{takes_boot}
use Rattle.phases.proofs.one_attempt.Attempt.attach.Goals as goal

pub returns-clause-follows : goal.returns-clause-follows
returns-clause-follows g c =
    let n = notes_in g.L.Layout.version g.L.Layout.spelled c.self.inside in
    let going : n.end ≡ None = ap (λ (m : Notes). m.end) c.self.view_is ∙ c.requires.going in
    let at = ap (λ (m : Notes). m.stage) c.self.view_is ∙ c.requires.stage in
    let room : n.disk < length n.visits = omega arith in
    let at_disk : n.disk ≡ c.from.result = omega arith in
    let new : ℕ → Notes = λ k. record n { visits = slice_set n.visits k (record (visit_at n.visits k) { boot = c.args.boot }); stage = stage.Syncing } in
    subst (λ (m : Notes). Takes (Booted c.args.boot.number) m (new c.from.result)) c.self.view_is
    (subst (λ (k : ℕ). Takes (Booted c.args.boot.number) n (new k)) at_disk (takes_boot n going at room c.args.boot))
