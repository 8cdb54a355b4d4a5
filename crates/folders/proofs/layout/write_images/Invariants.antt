use Rattle.std.proofs.Common.{◌≡◌, length}
use Rattle.torn_block.specs.Layout.{cluster_version}
use Rattle.paxos_block.specs.Places.{image_length}
use Rattle.folders.specs.Layout.{header_of}
use Rattle.folders.specs.Formatting.{AreClosed, EachBecame, HaveRoom, MakesOnly, OpensNoGate}
use Rattle.folders.proofs.layout.write_images.Given as goal

abbrev pub invariant-loop-disk : goal.invariant-loop-disk
invariant-loop-disk g l = record {
  boots : length l.boots ≡ 7;
  closed : AreClosed g.D.Disk.gives l.fn.config l.fn.cluster l.boots l.disk l.initial.devices l.devices;
  calls : EachBecame (λ disk old new. MakesOnly g.D.Disk.gives (OpensNoGate (header_of l.fn.config l.fn.cluster disk)) old new) l.initial.devices l.devices;
  room : HaveRoom g.D.Disk.device (image_length cluster_version l.fn.config.slots) l.devices;
}
