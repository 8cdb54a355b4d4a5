use Rattle.endless_image.specs.Sizes.{size_of}
use Rattle.folders.specs.Finishing.{HaveSize}
use Rattle.folders.specs.Formatting.{FirstBecame}
use Rattle.in_place.specs.InPlaceImages.{BecameBy, IsMadeReady}
use Rattle.in_place.proofs.in_place_disks.make_all_ready.Given as goal

abbrev pub invariant-loop-disk : goal.invariant-loop-disk
invariant-loop-disk g l = record {
  done : FirstBecame (BecameBy (λ disk of old new. IsMadeReady g.D.Disk.gives l.slots of old new) l.due) l.disk l.initial.devices l.devices;
  sizes : HaveSize g.D.Disk.device (size_of l.slots) l.devices;
}
