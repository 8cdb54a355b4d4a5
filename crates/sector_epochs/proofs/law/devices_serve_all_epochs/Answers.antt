use Rattle.sector_epochs.proofs.Over.{devices_serve, new_devices_show}
use Rattle.sector_epochs.proofs.law.devices_serve_all_epochs.Goals as goal

pub returns : goal.returns
returns c = record { serves = devices_serve; blank = new_devices_show }
