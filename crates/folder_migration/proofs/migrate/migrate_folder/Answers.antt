use Rattle.std.proofs.Common.{◌≤◌, arith, rules, subst}
use Rattle.folders.specs.SetFaults.{IsFormatFault}
use Rattle.folder_migration.specs.Migrating.{AreBlank, AreNotBegun, MayFail}
use Rattle.folder_migration.proofs.Writing.{stops}
use Rattle.folder_migration.proofs.migrate.migrate_folder.Goals as goal

pub migrate_disks-requires-clause-made : goal.migrate_disks-requires-clause-made
migrate_disks-requires-clause-made g c = λ made post. let blank : AreBlank c.in_ok-config.config made.items = search rules in (blank.as_many, λ k d is. (blank.each k d is).room)

pub returns-in_err-commands-clause-fault : goal.returns-in_err-commands-clause-fault
returns-in_err-commands-clause-fault g c =
    let images = c.in_ok-images.images in
    let config = c.in_ok-config.config in
    let few : c.in_ok-config.config.disks ≤ 7 = omega (arith, c.disks-disks.ensures.value, c.disks-disks.ensures.range) in
    let not_begun : AreNotBegun config images.cluster = search rules in
    let fails : MayFail c.args.slots c.in_err-commands.field-0.0 =
    stops c.args.slots images.config config images.cluster images.disks.items c.deref_mut.result.now c.migrate_disks.new.disks _ _ c.in_err-commands.field-0.0 images.found c.in_ok-images.ensures.opened
    c.in_ok-config.ensures.new.0 c.in_ok-config.ensures.new.1 c.deref_mut.ensures.value not_begun few c.in_err-commands.ensures.stopped
    (λ images made. let post = made.1 in let blank : AreBlank c.in_ok-config.config made.0.items = search rules in subst (AreBlank c.in_ok-config.config) made.2 blank)
    (λ x post. let is : IsFormatFault c.in_ok-config.config.disks x = search rules in is) in
    search rules
