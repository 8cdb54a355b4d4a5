use Rattle.std.proofs.Common.{◌-◌, ◌≡◌, ◌≤◌}
use Rattle.endless_image.specs.Sizes.{area_size}
use Rattle.folders.specs.Layout.{WritesZeros}
use Rattle.in_place.proofs.in_place_disk.put_zeros_behind.Given as goal

abbrev pub invariant-loop-at : goal.invariant-loop-at
invariant-loop-at g l = record {
  within : l.at ≤ l.size;
  device : g.D.Disk.device l.device ≡ g.D.Disk.device l.initial.device;
  zeros : WritesZeros g.D.Disk.gives l.boot.number (area_size l.slots) l.at l.initial.device l.device;
}

abbrev pub decreases-loop-at : goal.decreases-loop-at
decreases-loop-at g l = l.size - l.at
