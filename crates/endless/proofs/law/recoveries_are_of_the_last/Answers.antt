use Rattle.endless.proofs.Lived.{recoveries_are_of_the_last}
use Rattle.endless.proofs.law.recoveries_are_of_the_last.Goals as goal

pub returns : goal.returns
returns c = recoveries_are_of_the_last
