use Rattle.folders.specs.Formatting.{AreOpened, EachBecame, HaveRoom, MakesOnly, OpensGate}
use Rattle.log_folders.proofs.layout.open_gates.Given as goal

abbrev pub invariant-loop-disk : goal.invariant-loop-disk
invariant-loop-disk g l = record {
  opened : AreOpened g.D.Disk.gives l.fn.boots l.disk l.initial.devices l.devices;
  calls : EachBecame (λ disk old new. MakesOnly g.D.Disk.gives OpensGate old new) l.initial.devices l.devices;
  room : HaveRoom g.D.Disk.device 1 l.devices;
}
