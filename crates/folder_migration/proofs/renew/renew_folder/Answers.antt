use Rattle.std.proofs.Common.{◌≡◌, rules}
use Rattle.std.proofs.lemmas.Result.{err_from_is_err_and}
use Rattle.folder_migration.specs.RenewingFolders.{MayNotRenew}
use Rattle.folder_migration.proofs.RenewingFolders.{has_renewed, may_not, recovers_from}
use Rattle.folder_migration.proofs.renew.renew_folder.Goals as goal

pub returns-in_err-commands-clause-fault : goal.returns-in_err-commands-clause-fault
returns-in_err-commands-clause-fault g c =
    let images = c.in_ok-images.images in
    let other : ¬ (images.cluster ≡ c.args.cluster) = search rules in
    let recovers = recovers_from c.args.host c.args.cluster images.cluster images.config images.found images.disks.items c.in_ok-over.over c.renew_over.new.host c.in_ok-images.ensures.opened other c.in_ok-over.ensures.disks
    c.in_ok-over.ensures.fresh c.renew_over.ensures.recovered in
    let fails : MayNotRenew c.args.host c.args.config c.args.cluster c.args.leave.now c.in_err-commands.field-0.0 =
    may_not c.args.host c.args.config images.config c.args.cluster c.args.leave.now c.slots-slots.result c.in_ok-over.over c.renew_over.new.host c.in_err-commands.field-0.0 recovers c.slots-slots.ensures.value c.in_err-commands.ensures.stopped in
    let p = err_from_is_err_and c.from_residual-in_err-commands.result c.from_residual-in_err-commands.ensures.1 in
    rw (p.1, p.2) fails

pub returns-clause-came_to : goal.returns-clause-came_to
returns-clause-came_to g c =
    let images = c.in_ok-images.images in
    let other : ¬ (images.cluster ≡ c.args.cluster) = search rules in
    let recovers = recovers_from c.args.host c.args.cluster images.cluster images.config images.found images.disks.items c.in_ok-over.over c.renew_over.new.host c.in_ok-images.ensures.opened other c.in_ok-over.ensures.disks
    c.in_ok-over.ensures.fresh c.renew_over.ensures.recovered in
    has_renewed c.args.host c.args.config images.config c.args.cluster c.args.leave.now c.slots-slots.result c.in_ok-commands.commands c.disks-disks.result c.in_ok-over.over c.renew_over.new.host recovers c.slots-slots.ensures.value
    c.in_ok-commands.ensures.full c.in_ok-commands.ensures.renewed c.disks-disks.ensures.value
