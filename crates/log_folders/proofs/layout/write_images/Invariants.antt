use Rattle.std.proofs.Common.{◌≡◌, length}
use Rattle.folders.specs.Formatting.{EachBecame, HaveRoom, MakesOnly}
use Rattle.log_folders.specs.Formatting.{AreClosed, OpensNoGate}
use Rattle.log_folders.specs.NewSets.{header_for, size_for}
use Rattle.log_folders.proofs.layout.write_images.Given as goal

abbrev pub invariant-loop-disk : goal.invariant-loop-disk
invariant-loop-disk g l = record {
  boots : length l.boots ≡ 7;
  closed : AreClosed g.D.Disk.gives l.fn.set l.boots l.disk l.initial.devices l.devices;
  calls : EachBecame (λ disk old new. MakesOnly g.D.Disk.gives (OpensNoGate (header_for l.fn.set disk)) old new) l.initial.devices l.devices;
  room : HaveRoom g.D.Disk.device (size_for l.fn.set) l.devices;
}
