use Rattle.c_host.proofs.Ended.{looks, markings, opened, operations}
use Rattle.c_host.proofs.law.ends_are_told.Goals as goal

pub returns-clause-opened : goal.returns-clause-opened
returns-clause-opened g c = opened

pub returns-clause-operations : goal.returns-clause-operations
returns-clause-operations g c = operations g.D.Disk.gives

pub returns-clause-markings : goal.returns-clause-markings
returns-clause-markings g c = markings g.D.Disk.gives

pub returns-clause-looks : goal.returns-clause-looks
returns-clause-looks g c = looks g.D.Disk.gives
