use Rattle.std.proofs.Common.{◌-◌, ◌≡◌, ◌≤◌}
use Rattle.torn_block.specs.declared.layout.TheConstants.{HEADER_LENGTH}
use Rattle.attempt.specs.Looking.{OnlyReads}
use Rattle.folders.specs.Finishing.{ReadsZeros}
use Rattle.folders.specs.Formatting.{MakesOnly}
use Rattle.log_folders.proofs.unfinished.reads_zeros.Given as goal

abbrev pub invariant-loop-at : goal.invariant-loop-at
invariant-loop-at g l = record {
  within : l.at ≤ l.size;
  device : g.D.Disk.device l.device ≡ g.D.Disk.device l.initial.device;
  zeros : ReadsZeros g.D.Disk.gives l.boot.number HEADER_LENGTH l.at l.initial.device l.device;
  read : MakesOnly g.D.Disk.gives OnlyReads l.initial.device l.device;
}

abbrev pub decreases-loop-at : goal.decreases-loop-at
decreases-loop-at g l = l.size - l.at
