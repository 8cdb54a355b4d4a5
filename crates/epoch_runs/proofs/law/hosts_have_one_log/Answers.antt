use Rattle.epoch_runs.proofs.Keeping.{hosts_keep_to_epochs, hosts_have_one_log, hosts_keep_to_epochs_over_losses, hosts_have_one_log_over_losses}
use Rattle.epoch_runs.proofs.law.hosts_have_one_log.Goals as goal

pub returns : goal.returns
returns c = record { keeps = hosts_keep_to_epochs; one_log = hosts_have_one_log; keeps_on = hosts_keep_to_epochs_over_losses; one_log_on = hosts_have_one_log_over_losses }
