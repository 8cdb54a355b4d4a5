use Rattle.race.proofs.Following.{agrees, apart}
use Rattle.race.proofs.laws.races_agree.Goals as goal

pub returns-clause-agree : goal.returns-clause-agree
returns-clause-agree c = agrees

pub returns-clause-apart : goal.returns-clause-apart
returns-clause-apart c = λ hosts h g slot answers agree d reply other race. apart hosts answers agree race h g slot d reply other
