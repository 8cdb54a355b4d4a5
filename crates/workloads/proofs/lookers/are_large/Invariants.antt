use Rattle.std.specs.Prelude.{slice_get}
use Rattle.std.proofs.Common.{◌≡◌, ◌≤◌, ◌<◌, ℕ, Some, length}
use Rattle.disk.specs.Simulated.{SimState}
use Rattle.workloads.proofs.lookers.are_large.Given as goal

abbrev pub invariant-disks : goal.invariant-disks
invariant-disks l = (k : ℕ) (d : SimState) → k < l.at → slice_get l.disks.items k ≡ Some d → l.size ≤ length d.disk.bytes
