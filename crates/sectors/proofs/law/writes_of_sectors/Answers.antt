use Rattle.sectors.proofs.SectorLaws.{is_torn, is_mixed}
use Rattle.sectors.proofs.law.writes_of_sectors.Goals as goal

pub returns-clause-whole : goal.returns-clause-whole
returns-clause-whole c = is_torn

pub returns-clause-mixed : goal.returns-clause-mixed
returns-clause-mixed c = is_mixed
