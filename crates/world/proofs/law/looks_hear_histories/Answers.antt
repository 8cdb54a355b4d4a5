use Rattle.host.specs.Host.{Looks}
use Rattle.world.proofs.Histories.{under_way}
use Rattle.world.proofs.Looking as looking
use Rattle.world.proofs.law.looks_hear_histories.Goals as goal

pub returns : goal.returns
returns c = record {
  now = λ c' log h m t run running looks. (under_way c' log h m (Looks t) run running looks).history.history;
  two = λ c' log h m t some run running looks. (under_way c' log h m (Looks t) run running looks).few some;
  first = λ c' log h m t some run running looks. (under_way c' log h m (Looks t) run running looks).history.first some;
  fits = looking.fits;
  at_entries = looking.heard_then;
}
