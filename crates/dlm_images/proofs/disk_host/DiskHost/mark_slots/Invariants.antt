use Rattle.std.proofs.Common.{◌≡◌, ◌≤◌, ◌-◌, length}
use Rattle.dlm_images.specs.Marking.{HasMarkedFrom}
use Rattle.dlm_images.proofs.disk_host.DiskHost.mark_slots.Given as goal

abbrev pub invariant-loop-slot : goal.invariant-loop-slot
invariant-loop-slot g l = record {
  marks : HasMarkedFrom g.D.Disk.gives l.first (l.slot - l.first) l.marked l.initial.self l.self;
  disks : length l.self.disks ≡ length l.initial.self.disks;
  few : l.marked ≤ l.slot - l.first;
}
