use Rattle.sectors.proofs.Moving.{rises}
use Rattle.sectors.proofs.law.writes_raise.Goals as goal

pub returns : goal.returns
returns c = rises
