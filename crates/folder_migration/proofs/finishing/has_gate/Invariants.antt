use Rattle.folder_migration.specs.Gates.{HaveNoGate}
use Rattle.folder_migration.proofs.finishing.has_gate.Given as goal

abbrev pub invariant-loop-disk : goal.invariant-loop-disk
invariant-loop-disk g l = HaveNoGate g.D.Disk.gives g.D.Disk.device l.fn.config l.fn.cluster l.fn.gate l.disk l.initial.images l.images
