use Rattle.epochs_at_once.proofs.Parting.{at_once_goes, over_losses_goes, goes_at_once, goes_over_losses}
use Rattle.epochs_at_once.proofs.law.calls_made_at_once_go.Goals as goal

pub returns : goal.returns
returns c = record { goes = at_once_goes; all = goes_at_once; power = over_losses_goes; all_power = goes_over_losses }
