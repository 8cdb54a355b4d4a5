use Rattle.std.proofs.Common.{◌≡◌, length}
use Rattle.torn_block.specs.declared.layout.TheConstants.{COPY_LENGTH}
use Rattle.bench.proofs.block_write.write_block.Given as goal

abbrev pub invariant-calls : goal.invariant-calls
invariant-calls l = record {
  bytes : length l.disk.disk.bytes ≡ length l.initial.disk.disk.bytes;
  size : l.steps.size ≡ COPY_LENGTH;
}
