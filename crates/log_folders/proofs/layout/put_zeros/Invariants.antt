use Rattle.std.proofs.Common.{◌-◌, ◌≡◌, ◌≤◌, ℕ, List}
use Rattle.folders.specs.Formatting.{MakesOnly}
use Rattle.folders.specs.Layout.{WritesZeros}
use Rattle.log_folders.specs.Formatting.{OpensNoGate}
use Rattle.log_folders.proofs.layout.put_zeros.Given as goal

abbrev pub invariant-loop-at : goal.invariant-loop-at
invariant-loop-at g l = record {
  within : l.at ≤ l.size;
  device : g.D.Disk.device l.device ≡ g.D.Disk.device l.initial.device;
  zeros : WritesZeros g.D.Disk.gives l.boot.number 0 l.at l.initial.device l.device;
  closed : (header : List ℕ) → MakesOnly g.D.Disk.gives (OpensNoGate header) l.initial.device l.device;
}

abbrev pub decreases-loop-at : goal.decreases-loop-at
decreases-loop-at g l = l.size - l.at
