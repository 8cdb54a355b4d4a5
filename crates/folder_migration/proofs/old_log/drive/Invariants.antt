use Rattle.std.proofs.Common.{◌≡◌, ◌-◌, length, vec_capacity}
use Rattle.folder_migration.specs.Recovery.{AreLarge}
use Rattle.folder_migration.specs.declared.old_log.TheConstants.{MOST_STEPS}
use Rattle.folder_migration.proofs.Recovering.{IsUnderWay}
use Rattle.folder_migration.proofs.old_log.drive.Given as goal

abbrev pub invariant-loop-done : goal.invariant-loop-done
invariant-loop-done g l = record {
  under_way : IsUnderWay g.D.Disk.gives l.initial.learner.shape l.initial.disks l.learner l.disks l.log.items (MOST_STEPS - l._done);
  capacity : vec_capacity l.log ≡ vec_capacity l.initial.log;
  as_many : length l.disks ≡ length l.initial.disks;
  large : AreLarge g.D.Disk.device l.initial.learner.shape.slots l.disks;
}
