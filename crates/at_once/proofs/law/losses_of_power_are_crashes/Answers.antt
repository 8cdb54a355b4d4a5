use Rattle.at_once.proofs.Losses.{losses_are_crashes, losses_are_joined, losses_after_migration_are_crashes, losses_after_migration_are_joined}
use Rattle.at_once.proofs.law.losses_of_power_are_crashes.Goals as goal

pub returns : goal.returns
returns c = record {
  crashes = losses_are_crashes;
  joins = losses_are_joined;
  migrated_crashes = losses_after_migration_are_crashes;
  migrated_joins = losses_after_migration_are_joined;
}
