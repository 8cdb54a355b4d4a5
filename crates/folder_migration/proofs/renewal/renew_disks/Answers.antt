use Rattle.std.proofs.Common.{◌≡◌, ◌<◌, None, arith, refl, rules}
use Rattle.migration.specs.declared.end.End.TheVariants.{Migrated, MigrationFailed}
use Rattle.folder_migration.specs.Renewing.{first_with_locks}
use Rattle.folder_migration.proofs.Renewing.{carries}
use Rattle.folder_migration.proofs.renewal.renew_disks.Goals as goal

pub returns-in-Migrated-clause-renewed : goal.returns-in-Migrated-clause-renewed
returns-in-Migrated-clause-renewed g c =
    let lockless : first_with_locks c.args.leave.now c.table-table.result.now ≡ None = search rules in
    let free : c.len-commands.result < c.args.config.slots = omega (arith, c.if-len-from.false, c.len.ensures, c.from.ensures, c.slots.ensures.value, c.len-commands.ensures) in
    carries g.E.Disk.gives _ c.args.config c.args.cluster c.args.leave.now c.args.host.now.core.prefix c.table-table.result.now c.in-Ok.log.items c.in_ok-images.images.items c.deref_mut.result.now c.move_log.new.disks
    c.len-commands.result Migrated c.table-table.ensures lockless c.in-Ok.ensures.commands ((c.in_ok-images.images, c.in_ok-images._kept), c.in_ok-images.ensures, refl) c.deref_mut.ensures.value c.in-Migrated.ensures.moved (omega arith) free

pub returns-clause-stopped : goal.returns-clause-stopped
returns-clause-stopped g c =
    let lockless : first_with_locks c.args.leave.now c.table-table.result.now ≡ None = search rules in
    let free : c.len-commands.result < c.args.config.slots = omega (arith, c.if-len-from.false, c.len.ensures, c.from.ensures, c.slots.ensures.value, c.len-commands.ensures) in (
      c.len-commands.result,
      carries g.E.Disk.gives _ c.args.config c.args.cluster c.args.leave.now c.args.host.now.core.prefix c.table-table.result.now c.in-Ok.log.items c.in_ok-images.images.items c.deref_mut.result.now c.move_log.new.disks
          c.len-commands.result MigrationFailed c.table-table.ensures lockless c.in-Ok.ensures.commands ((c.in_ok-images.images, c.in_ok-images._kept), c.in_ok-images.ensures, refl) c.deref_mut.ensures.value c.in-MigrationFailed.ensures.moved (omega arith) free,
    )
