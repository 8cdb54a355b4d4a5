-- Where hosts keep to the epochs, what they do is one log without an end.
use Rattle.endless.proofs.Shared.{shared_have_one_log, shared_over_losses}
use Rattle.standings.specs.Epochs.{whole_length}
use Rattle.epoch_deeds.specs.Knowing.{image_of}
use Rattle.epoch_runs.specs.Laws.{KeptDeedsHaveOneLog, KeptDeedsHaveOneLogOverLosses}
use Rattle.epoch_runs.specs.Living.{lived_of}
use Rattle.epoch_runs.proofs.Shared.{deeds_are_shared, deeds_are_shared_over_losses}

pub kept_deeds : KeptDeedsHaveOneLog
kept_deeds c entries goes keeps =
    let shared = deeds_are_shared c entries goes in
    shared_have_one_log c (whole_length (image_of c)) shared.0 (lived_of c entries) shared.1 keeps

pub kept_deeds_over_losses : KeptDeedsHaveOneLogOverLosses
kept_deeds_over_losses c entries goes few keeps =
    let shared = deeds_are_shared_over_losses c entries goes few in
    shared_over_losses c (whole_length (image_of c)) shared.0 (lived_of c entries) shared.1 keeps
