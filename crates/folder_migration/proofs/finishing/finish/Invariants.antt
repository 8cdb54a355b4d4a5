use Rattle.folder_migration.specs.Gates.{AreLeftOpen}
use Rattle.folder_migration.proofs.finishing.finish.Given as goal

abbrev pub invariant-loop-disk : goal.invariant-loop-disk
invariant-loop-disk g l = AreLeftOpen g.D.Disk.gives g.D.Disk.device l.fn.config l.fn.cluster l.disk l.initial.images l.images
