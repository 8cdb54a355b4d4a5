use Rattle.std.proofs.Common.{◌≡◌, ◌+◌, length}
use Rattle.bench.proofs.disk_calls.DiskCallsBenchmark.run.Given as goal

abbrev pub invariant-calls : goal.invariant-calls
invariant-calls g l = l.first + 2048 ≡ length l.self.disk.disk.bytes
