use Rattle.std.proofs.Common.{◌≤◌, ◌-◌}
use Rattle.epoch_images.specs.Marking.{MarksFrom}
use Rattle.epoch_images.proofs.epoch_disk_host.EpochDiskHost.mark_places.Given as goal

abbrev pub invariant-loop-place : goal.invariant-loop-place
invariant-loop-place g l = record {
  marks : MarksFrom g.D.Disk.gives l.first (l.place - l.first) l.marked l.initial.self l.self;
  few : l.marked ≤ l.place - l.first;
  within : l.place - l.first ≤ l.end - l.first;
}
