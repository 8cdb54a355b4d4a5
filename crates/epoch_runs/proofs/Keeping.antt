-- Hosts of all epochs keep to the epochs, so all that they do is one log without an end.
use Rattle.standings.specs.Epochs.{whole_length}
use Rattle.endless.proofs.Alike.{shared_as_runs, shared_over_losses_as_runs}
use Rattle.epochs.proofs.Deeds.{model_leaves, power_leaves}
use Rattle.epoch_deeds.specs.Knowing.{image_of}
use Rattle.epoch_runs.specs.Laws.{HostsKeepToEpochs, HostsHaveOneLog, HostsKeepToEpochsOverLosses, HostsHaveOneLogOverLosses}
use Rattle.epoch_runs.specs.Living.{lived_of}
use Rattle.epoch_runs.specs.World.{model_crashes, power_losses}
use Rattle.epoch_runs.proofs.Carrying.{carries_first, has_room}
use Rattle.epoch_runs.proofs.Numbers.{model_settles, power_settles}
use Rattle.epoch_runs.proofs.OneLog.{kept_deeds, kept_deeds_over_losses}
use Rattle.epoch_runs.proofs.Shared.{model_sound, power_sound, deeds_are_shared, deeds_are_shared_over_losses}
use Rattle.epoch_runs.proofs.Turning.{in_turn}

pub hosts_keep_to_epochs : HostsKeepToEpochs
hosts_keep_to_epochs c entries long goes =
    let shared = deeds_are_shared c entries goes in
    let as_runs = shared_as_runs c (whole_length (image_of c)) shared.0 (lived_of c entries) shared.1 in
    record {
      in_turn = in_turn model_crashes model_sound model_leaves model_settles c entries goes;
      carries = carries_first model_crashes c entries goes as_runs;
      fits = has_room model_crashes c entries goes as_runs long;
    }

pub hosts_have_one_log : HostsHaveOneLog
hosts_have_one_log c entries long goes = kept_deeds c entries goes (hosts_keep_to_epochs c entries long goes)

-- over losses of power
pub hosts_keep_to_epochs_over_losses : HostsKeepToEpochsOverLosses
hosts_keep_to_epochs_over_losses c entries long goes few =
    let shared = deeds_are_shared_over_losses c entries goes few in
    let as_runs = shared_over_losses_as_runs c (whole_length (image_of c)) shared.0 (lived_of c entries) shared.1 in
    record {
      in_turn = in_turn power_losses power_sound power_leaves power_settles c entries goes;
      carries = carries_first power_losses c entries goes as_runs;
      fits = has_room power_losses c entries goes as_runs long;
    }

pub hosts_have_one_log_over_losses : HostsHaveOneLogOverLosses
hosts_have_one_log_over_losses c entries long goes few = kept_deeds_over_losses c entries goes few (hosts_keep_to_epochs_over_losses c entries long goes few)
