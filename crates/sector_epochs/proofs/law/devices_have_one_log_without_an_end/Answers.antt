use Rattle.sector_epochs.proofs.Over.{devices_have_one_log}
use Rattle.sector_epochs.proofs.law.devices_have_one_log_without_an_end.Goals as goal

pub returns : goal.returns
returns c = devices_have_one_log
