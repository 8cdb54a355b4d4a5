use Rattle.late_syncs.proofs.Epochs.{late_syncs_are_losses_on, late_syncs_have_one_log_on}
use Rattle.late_syncs.proofs.Files.{late_syncs_are_losses, late_syncs_have_one_log}
use Rattle.late_syncs.proofs.law.late_syncs_have_one_log.Goals as goal

pub returns : goal.returns
returns c = record {
  losses = late_syncs_are_losses;
  one_log = late_syncs_have_one_log;
  endless = late_syncs_are_losses_on;
  endless_log = late_syncs_have_one_log_on;
}
