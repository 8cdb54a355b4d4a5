use Rattle.std.proofs.Common.{◌≡◌, ◌<◌, ◌∙◌, ◌+◌, ℕ, true, false, None, subst, ap, length, slice_set, arith}
use Rattle.attempt.specs.Answers.{Heard, is_bad, more}
use Rattle.phases.specs.Inside.{notes_in}
use Rattle.phases.specs.Moves.{IsPassed, Takes}
use Rattle.phases.specs.Notes.{Notes, visit_at}
use Rattle.phases.proofs.Answering.{visiting, drops}
use Rattle.phases.proofs.one_attempt.Attempt.drop_disk.Goals as goal

pub returns-clause-follows : goal.returns-clause-follows
returns-clause-follows g c =
    let n = notes_in g.L.Layout.version g.L.Layout.spelled c.self.inside in
    let going : n.end ≡ None = ap (λ (m : Notes). m.end) c.self.view_is ∙ c.requires in
    let room : n.disk < length n.visits = omega arith in
    let at : n.disk ≡ c.from.result = omega arith in
    subst (λ (m : Notes). (x : Heard) → is_bad x ≡ true → Takes x m c.go_on.new.self) c.self.view_is
    (λ x bad f order is. c.go_on.ensures.follows (more f n.disk x)
    (subst (λ (k : ℕ). IsPassed n.phase (more f n.disk x) (record n { visits = slice_set n.visits k (record (visit_at n.visits k) { left = false }) }) (n.disk + 1)) at (drops n.phase f n (visiting f n going is) order room x bad)))
