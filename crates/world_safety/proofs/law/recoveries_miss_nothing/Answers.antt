use Rattle.world_safety.proofs.Claims.Begun.{all_begun}
use Rattle.world_safety.proofs.Claims.Growing.{none_shorter}
use Rattle.world_safety.proofs.Claims.Recovering.{empty_shows, misses_nothing}
use Rattle.world_safety.proofs.law.recoveries_miss_nothing.Goals as goal

pub returns : goal.returns
returns c = record {
  begun = all_begun;
  empty = empty_shows;
  nothing = misses_nothing;
  no_shorter = none_shorter;
}
