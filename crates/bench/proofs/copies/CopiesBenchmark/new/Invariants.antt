use Rattle.std.proofs.Common.{◌≡◌, vec_len}
use Rattle.bench.proofs.copies.CopiesBenchmark.new.Given as goal

abbrev pub invariant-buffers : goal.invariant-buffers
invariant-buffers l = vec_len l.buffers ≡ l.counter
