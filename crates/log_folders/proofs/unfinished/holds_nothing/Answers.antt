use Rattle.disk.specs.Disk.{Attach}
use Rattle.attempt.specs.Looking.{OnlyReads}
use Rattle.folders.specs.Finishing.{not_attached}
use Rattle.folders.proofs.Laying.{on_err, one_call, together}
use Rattle.folders.proofs.OnlyReading.{holds_more, holds_unread}
use Rattle.log_folders.proofs.unfinished.holds_nothing.Goals as goal

pub returns-in_err-boot-clause-read : goal.returns-in_err-boot-clause-read
returns-in_err-boot-clause-read g c = one_call g.D.Disk.gives OnlyReads c.args.device.now c.attach.new.self Attach tt _ c.in_err-boot.ensures.gives

pub returns-clause-read : goal.returns-clause-read
returns-clause-read g c =
    together g.D.Disk.gives OnlyReads c.args.device.now c.attach.new.self c.reads_zeros.new.device (one_call g.D.Disk.gives OnlyReads c.args.device.now c.attach.new.self Attach tt _ c.in_ok-boot.ensures.gives) c.reads_zeros.ensures.read

pub returns-in_err-boot-clause-failed : goal.returns-in_err-boot-clause-failed
returns-in_err-boot-clause-failed g c = on_err _ (not_attached c.in_err-boot.field-0.0 c.in_err-boot.ensures.gives) c.from_residual.result

pub returns-clause-more : goal.returns-clause-more
returns-clause-more g c = holds_more g.D.Disk.gives c.args.device.now c.attach.new.self c.reads_zeros.new.device c.in_ok-boot.boot.number c.in_ok-boot.ensures.gives c.reads_zeros.result c.reads_zeros.ensures.more

pub returns-clause-failed : goal.returns-clause-failed
returns-clause-failed g c = holds_unread g.D.Disk.gives c.args.device.now c.attach.new.self c.reads_zeros.new.device c.in_ok-boot.boot.number c.in_ok-boot.ensures.gives c.reads_zeros.result c.reads_zeros.ensures.failed
