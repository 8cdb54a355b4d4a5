use Rattle.bench.specs.WholeAttempt.{IsOnImages}
use Rattle.bench.proofs.whole_attempt.WholeAttempt.commit.Given as goal

abbrev pub invariant-calls : goal.invariant-calls
invariant-calls l = IsOnImages l.attempt
