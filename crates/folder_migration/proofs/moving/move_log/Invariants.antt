use Rattle.std.proofs.Common.{◌≡◌, length}
use Rattle.migration.specs.Kept.{setup_by}
use Rattle.folder_migration.specs.Moving.{AreLarge}
use Rattle.folder_migration.proofs.Calling.{IsMoving}
use Rattle.folder_migration.proofs.moving.move_log.Given as goal

abbrev pub invariant-loop-made : goal.invariant-loop-made
invariant-loop-made g l = record {
  moving : IsMoving g.D.Disk.gives (setup_by l.fn.config l.fn.cluster l.fn.log.items) l.initial.disks l.migrator l.disks l._made;
  as_many : length l.disks ≡ length l.initial.disks;
  large : AreLarge g.D.Disk.device l.fn.config.slots l.disks;
}
