use Rattle.world.proofs.ShortRuns.{recovered, only_recovery}
use Rattle.world.proofs.examples.empty_log_is_recovered.Goals as goal

pub returns-clause-recovered : goal.returns-clause-recovered
returns-clause-recovered c = recovered

pub returns-clause-only_then : goal.returns-clause-only_then
returns-clause-only_then c = only_recovery
