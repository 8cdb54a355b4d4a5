use Rattle.epoch_runs.specs.World.{model_crashes, power_losses}
use Rattle.epoch_runs.proofs.Order.{order_is_kept}
use Rattle.epoch_runs.proofs.law.order_is_kept.Goals as goal

pub returns : goal.returns
returns c = record { model = order_is_kept model_crashes; power = order_is_kept power_losses }
