use Rattle.epoch_runs.proofs.Ahead.{nobody_gets_ahead, nobody_gets_ahead_over_losses, fresh_disks_may_be_replaced}
use Rattle.epoch_runs.proofs.law.nobody_gets_ahead.Goals as goal

pub returns : goal.returns
returns c = record { model = nobody_gets_ahead; power = nobody_gets_ahead_over_losses; fresh = fresh_disks_may_be_replaced }
