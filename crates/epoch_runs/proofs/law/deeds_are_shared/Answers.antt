use Rattle.epoch_runs.proofs.Hosts.{tasks_are_the_same}
use Rattle.epoch_runs.proofs.OneLog.{kept_deeds, kept_deeds_over_losses}
use Rattle.epoch_runs.proofs.Shared.{deeds_are_shared, deeds_are_shared_over_losses}
use Rattle.epoch_runs.proofs.law.deeds_are_shared.Goals as goal

pub returns : goal.returns
returns c = record { shared = deeds_are_shared; power = deeds_are_shared_over_losses; one_log = kept_deeds; one_log_on = kept_deeds_over_losses; tasks = tasks_are_the_same }
