use Rattle.std.proofs.Common.{◌≡◌, length}
use Rattle.endless_image.specs.Sizes.{size_of}
use Rattle.folders.specs.Finishing.{HaveSize}
use Rattle.folders.specs.Formatting.{FirstBecame}
use Rattle.in_place.specs.InPlaceImages.{BecameBy, IsFound}
use Rattle.in_place.proofs.in_place_disks.look_at_all.Given as goal

abbrev pub invariant-loop-disk : goal.invariant-loop-disk
invariant-loop-disk g l = record {
  due : length l.due ≡ 7;
  found : FirstBecame (BecameBy (λ disk of old new. IsFound g.D.Disk.gives l.set disk of old new) l.due) l.disk l.initial.devices l.devices;
  sizes : HaveSize g.D.Disk.device (size_of l.set.slots) l.devices;
}
