use Rattle.std.proofs.Common.{arith, refl}
use Rattle.migration.specs.declared.end.End.TheVariants.{Migrated, MigrationFailed}
use Rattle.folder_migration.proofs.Writing.{writes}
use Rattle.folder_migration.proofs.migrating.migrate_disks.Goals as goal

pub returns-in-Migrated-clause-written : goal.returns-in-Migrated-clause-written
returns-in-Migrated-clause-written g c =
    writes g.D.Disk.gives g.E.Disk.gives _ c.args.config c.args.new_config c.args.cluster c.args.disks.now c.recover_log.new.disks c.in_ok-log.log.items c.in_ok-images.images.items c.deref_mut.result.now c.move_log.new.disks
    c.len-commands.result Migrated c.in_ok-log.ensures.recovered (c.in_ok-images.images, c.in_ok-images.ensures, refl) c.deref_mut.ensures.value c.in-Migrated.ensures.moved (omega arith)

pub returns-clause-stopped : goal.returns-clause-stopped
returns-clause-stopped g c = (
  c.len-commands.result,
  writes g.D.Disk.gives g.E.Disk.gives _ c.args.config c.args.new_config c.args.cluster c.args.disks.now c.recover_log.new.disks c.in_ok-log.log.items c.in_ok-images.images.items c.deref_mut.result.now c.move_log.new.disks
      c.len-commands.result MigrationFailed c.in_ok-log.ensures.recovered (c.in_ok-images.images, c.in_ok-images.ensures, refl) c.deref_mut.ensures.value c.in-MigrationFailed.ensures.moved (omega arith),
)
