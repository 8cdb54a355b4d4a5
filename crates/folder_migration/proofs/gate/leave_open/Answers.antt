use Rattle.folder_migration.proofs.Opened.{left_unsure}
use Rattle.folder_migration.specs.declared.gate.Gate.TheVariants.{Closed}
use Rattle.folder_migration.proofs.gate.leave_open.Goals as goal

pub returns-in-Closed-clause-fault : goal.returns-in-Closed-clause-fault
returns-in-Closed-clause-fault g c =
    left_unsure g.D.Disk.gives c.args.header.now (g.D.Disk.device c.args.device.now).size Closed c.args.device.now c.find_gate.new.device c.open_gate.new.device c.open_gate.result c.in-Closed.ensures.found c.open_gate.ensures.fault
