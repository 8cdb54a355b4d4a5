use Rattle.std.proofs.Common.{◌≡◌, length}
use Rattle.torn_block.specs.declared.layout.TheConstants.{ROW_LENGTH}
use Rattle.bench.proofs.decode_row.DecodeRowBenchmark.new.Given as goal

abbrev pub invariant-hosts : goal.invariant-hosts
invariant-hosts l = length l.disk.disk.bytes ≡ ROW_LENGTH

abbrev pub invariant-copies : goal.invariant-copies
invariant-copies l = length l.disk.disk.bytes ≡ ROW_LENGTH
