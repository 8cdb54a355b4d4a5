use Rattle.std.proofs.Common.{◌≡◌, vec_len}
use Rattle.bench.proofs.whole_attempt.WholeAttemptBenchmark.new.Given as goal

abbrev pub invariant-images : goal.invariant-images
invariant-images l = vec_len l.images ≡ l.counter
