use Rattle.folders.specs.Finishing.{OpensFound}
use Rattle.folders.specs.Formatting.{FirstBecame, HaveRoom}
use Rattle.log_folders.proofs.unfinished.finish.Given as goal

abbrev pub invariant-loop-disk : goal.invariant-loop-disk
invariant-loop-disk g l = record {
  opened : FirstBecame (λ disk old new. OpensFound g.D.Disk.gives old new) l.disk l.initial.devices l.devices;
  room : HaveRoom g.D.Disk.device 1 l.devices;
}
