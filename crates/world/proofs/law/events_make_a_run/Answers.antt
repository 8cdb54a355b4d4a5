use Rattle.world.proofs.Runs as runs
use Rattle.world.proofs.law.events_make_a_run.Goals as goal

pub returns : goal.returns
returns c = record {
  follows = runs.follows;
  run = runs.run_is_fresh;
  migrated = runs.run_after_is_run;
  one_more = runs.one_more;
  one_answer_more = runs.one_answer_more;
}
