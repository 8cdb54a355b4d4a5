use Rattle.at_once.proofs.Filling.{at_once_makes_a_run, after_migration_makes_a_run}
use Rattle.at_once.proofs.Headless.{laid_out_holds_nothing}
use Rattle.at_once.proofs.Migrated.{migrated_holds_log}
use Rattle.at_once.proofs.Parting.{runs_are_at_once}
use Rattle.at_once.proofs.law.calls_made_at_once_make_a_run.Goals as goal

pub returns : goal.returns
returns c = record {
  makes = at_once_makes_a_run;
  migrated = after_migration_makes_a_run;
  all = runs_are_at_once;
  blank = laid_out_holds_nothing;
  held = migrated_holds_log;
}
