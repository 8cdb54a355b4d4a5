use Rattle.sectors.proofs.SectorLaws.{name_naming, stamp_naming, block_naming}
use Rattle.sectors.proofs.law.names_come_back.Goals as goal

pub returns-clause-name : goal.returns-clause-name
returns-clause-name c = name_naming

pub returns-clause-stamp : goal.returns-clause-stamp
returns-clause-stamp c = stamp_naming

pub returns-clause-block : goal.returns-clause-block
returns-clause-block c = block_naming
