use Rattle.std.proofs.Common.{◌≡◌, length, rules, subst}
use Rattle.folder_migration.specs.Migrating.{AreBlank}
use Rattle.folder_migration.specs.RenewingFolders.{IsNewFault}
use Rattle.folder_migration.proofs.RenewingFolders.{ends_over}
use Rattle.folder_migration.proofs.renew.renew_over.Goals as goal

pub renew_disks-requires-clause-made : goal.renew_disks-requires-clause-made
renew_disks-requires-clause-made g c = λ made post. let blank : AreBlank c.args.config made.0.items = search rules in (blank.as_many, λ k d is. (blank.each k d is).room)

pub returns-clause-stopped : goal.returns-clause-stopped
returns-clause-stopped g c =
    let full : length c.recover.new.self.core.prefix ≡ c.args.slots = search rules in
    ends_over c.args.slots c.args.config c.args.cluster c.args.leave.now c.recover.new.self _ _ c.renew_disks.result full
    (λ images made. let post = made.1 in let blank : AreBlank c.args.config made.0.0.items = search rules in subst (AreBlank c.args.config) made.2 blank)
    (λ fault post. let is : IsNewFault c.args.config.disks fault = search rules in is) c.renew_disks.ensures.stopped
