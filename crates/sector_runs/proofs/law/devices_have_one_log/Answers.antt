use Rattle.sector_runs.proofs.OneLog.{devices_have_one_log}
use Rattle.sector_runs.proofs.law.devices_have_one_log.Goals as goal

pub returns : goal.returns
returns c = devices_have_one_log
