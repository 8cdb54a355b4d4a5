use Rattle.world.specs.Happens.{run, run_after}
use Rattle.world.proofs.Runs.{run_is_run, run_after_is_run}
use Rattle.world.proofs.Safe as safe
use Rattle.world.proofs.law.safe_lists_have_one_log.Goals as goal

pub returns : goal.returns
returns c = record {
  one = safe.one_log;
  prefixes = safe.one_begins_other;
  events = λ headline shape events. headline shape (run shape events) (run_is_run shape events);
  migrated = λ headline shape log events can. headline shape (run_after shape log events) (run_after_is_run shape log events can);
}
