use Rattle.sectors.proofs.Moving.{moments}
use Rattle.sectors.proofs.law.rows_are_moments.Goals as goal

pub returns : goal.returns
returns c = moments
