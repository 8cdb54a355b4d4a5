use Rattle.folder_migration.proofs.Opened.{writing_failed, opening_ends}
use Rattle.folder_migration.proofs.gate.open_gate.Goals as goal

pub returns-in_err-write-clause-fault : goal.returns-in_err-write-clause-fault
returns-in_err-write-clause-fault g c =
    writing_failed g.D.Disk.gives c.args.device.now c.attach.new.self c.write.new.self c.in_ok-boot.boot.number c.in_err-write.field-0.0 c.from_residual-in_err-write.result
    c.from_residual-in_err-write.ensures.1 c.in_ok-boot.ensures.gives c.in_err-write.ensures.gives

pub returns-clause-fault : goal.returns-clause-fault
returns-clause-fault g c =
    opening_ends g.D.Disk.gives c.args.device.now c.attach.new.self c.write.new.self c.sync.new.self c.in_ok-boot.boot.number c.sync.result c.in_ok-boot.ensures.gives c.in_ok-write.ensures.gives
    c.sync.ensures.gives
