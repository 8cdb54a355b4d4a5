use Rattle.std.proofs.Common.{◌≡◌, ◌≤◌, None}
use Rattle.attempt.specs.Answers.{Answers}
use Rattle.phases.specs.Moves.{IsPassed, phases_left}
use Rattle.phases.proofs.one_attempt.Attempt.go_on.Given as goal

abbrev pub invariant-loop-self : goal.invariant-loop-self
invariant-loop-self g l = record {
  of : l.self.of ≡ l.initial.self.of;
  going : l.self.end ≡ None;
  from : l.from ≤ l.self.of.disks;
  passed : (f : Answers) → IsPassed l.initial.self.phase f l.initial.self l.fn.from → IsPassed l.self.phase f l.self l.from;
}

abbrev pub decreases-loop-self : goal.decreases-loop-self
decreases-loop-self g l = phases_left l.self.phase
