use Rattle.world_safety.proofs.Claims.Growing.{log_grows}
use Rattle.world_safety.proofs.Claims.Safety.{headline, headline_of_events, headline_of_migrated}
use Rattle.world_safety.proofs.law.one_log_and_nothing_lost.Goals as goal

pub returns : goal.returns
returns c = record {
  headline = headline;
  events = headline_of_events;
  migrated = headline_of_migrated;
  grows = log_grows;
}
