use Rattle.epochs_at_once.proofs.Joined.{hosts_have_one_log, hosts_have_one_log_over_losses, at_start}
use Rattle.epochs_at_once.proofs.Recovering.{tasks_recover}
use Rattle.epochs_at_once.proofs.law.hosts_at_once_have_one_log.Goals as goal

pub returns : goal.returns
returns c = record { one_log = hosts_have_one_log; one_log_on = hosts_have_one_log_over_losses; fresh = at_start; recovers = tasks_recover }
