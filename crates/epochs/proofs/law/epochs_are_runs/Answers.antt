use Rattle.epochs.proofs.OneLog.{epochs_are_at_once, epochs_are_over_losses, epochs_are_runs, pasts_are_shared, pasts_are_shared_over_losses}
use Rattle.epochs.proofs.law.epochs_are_runs.Goals as goal

pub returns : goal.returns
returns c = record { at_once = epochs_are_at_once; runs = epochs_are_runs; losses = epochs_are_over_losses; pasts = pasts_are_shared; pasts_on = pasts_are_shared_over_losses }
