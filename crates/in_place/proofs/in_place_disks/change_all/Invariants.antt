use Rattle.torn_block.specs.declared.layout.TheConstants.{HEADER_LENGTH}
use Rattle.endless_image.specs.InPlace.{AllDone}
use Rattle.folders.specs.Formatting.{FirstBecame, HaveRoom}
use Rattle.in_place.specs.InPlaceImages.{BecameBy, calls_of}
use Rattle.in_place.proofs.in_place_disks.change_all.Given as goal

abbrev pub invariant-loop-disk : goal.invariant-loop-disk
invariant-loop-disk g l = record {
  done : FirstBecame (BecameBy (λ disk of old new. AllDone g.D.Disk.gives (calls_of of) old new) l.due) l.disk l.initial.devices l.devices;
  large : HaveRoom g.D.Disk.device HEADER_LENGTH l.devices;
}
