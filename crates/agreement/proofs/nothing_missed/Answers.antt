use Rattle.agreement.proofs.Missing.{nothing_missed}
use Rattle.agreement.proofs.nothing_missed.Goals as goal

pub returns : goal.returns
returns g c = nothing_missed
