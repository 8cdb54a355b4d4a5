use Rattle.folders.proofs.Opening.{AreResized}
use Rattle.log_folders.proofs.endless_folder.resize.Given as goal

abbrev pub invariant-loop-disk : goal.invariant-loop-disk
invariant-loop-disk g l = AreResized l.size l.disk l.initial.disks.items l.disks.items
