use Rattle.host.specs.Host.{Attempts}
use Rattle.world.proofs.Histories as histories
use Rattle.world.proofs.law.attempts_hear_histories.Goals as goal

pub returns : goal.returns
returns c = record {
  now = histories.history;
  due = λ c' log h m t. histories.has_call c' log h m (Attempts t);
  at_entries = histories.heard_then;
  committed = histories.committed;
}
