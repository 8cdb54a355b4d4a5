use Rattle.host.specs.Host.{Marks}
use Rattle.world.proofs.Histories.{under_way}
use Rattle.world.proofs.law.markings_hear_histories.Goals as goal

pub returns-clause-now : goal.returns-clause-now
returns-clause-now c = λ c' log h m t run running marks. (under_way c' log h m (Marks t) run running marks).history

pub returns-clause-nine : goal.returns-clause-nine
returns-clause-nine c = λ c' log h m t some run running marks. (under_way c' log h m (Marks t) run running marks).few some
