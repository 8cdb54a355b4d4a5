use Rattle.host.specs.Host.{Beats}
use Rattle.world.proofs.Histories.{under_way, busy_call}
use Rattle.world.proofs.law.beats_hear_histories.Goals as goal

pub returns : goal.returns
returns c = record {
  now = λ c' log h m heard run running beats. (under_way c' log h m (Beats heard) run running beats).history;
  nine = λ c' log h m heard some run running beats. (under_way c' log h m (Beats heard) run running beats).few some;
  due = busy_call;
}
