use Rattle.std.proofs.Common.{◌≡◌}
use Rattle.attempt.specs.Answers.{Answers}
use Rattle.phases.specs.Moves.{IsPassed}
use Rattle.phases.proofs.one_attempt.Attempt.visit_next.Given as goal

abbrev pub invariant-loop-disk : goal.invariant-loop-disk
invariant-loop-disk g l = record {
  of : l.self.of ≡ l.initial.self.of;
  phase : l.self.phase ≡ l.initial.self.phase;
  end : l.self.end ≡ l.initial.self.end;
  passed : (f : Answers) → IsPassed l.initial.self.phase f l.initial.self l.fn.from → IsPassed l.initial.self.phase f l.self l.disk;
}
