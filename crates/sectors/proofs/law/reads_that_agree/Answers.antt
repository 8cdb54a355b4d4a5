use Rattle.sectors.proofs.Moving.{agrees}
use Rattle.sectors.proofs.law.reads_that_agree.Goals as goal

pub returns : goal.returns
returns c = agrees
