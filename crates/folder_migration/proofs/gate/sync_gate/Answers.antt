use Rattle.folder_migration.proofs.Opened.{syncing_ends}
use Rattle.folder_migration.proofs.gate.sync_gate.Goals as goal

pub returns-clause-fault : goal.returns-clause-fault
returns-clause-fault g c =
    syncing_ends g.D.Disk.gives c.args.device.now c.attach.new.self c.sync.new.self c.in_ok-boot.boot.number c.sync.result c.in_ok-boot.ensures.gives c.sync.ensures.gives
