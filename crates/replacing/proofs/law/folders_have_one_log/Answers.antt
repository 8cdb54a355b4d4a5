use Rattle.replacing.proofs.Folders.{folders_have_one_log, folders_have_one_log_over_losses}
use Rattle.replacing.proofs.Headers.{headers_tell, model_headers_say, power_headers_say}
use Rattle.replacing.proofs.law.folders_have_one_log.Goals as goal

pub returns : goal.returns
returns c = record { model = folders_have_one_log; power = folders_have_one_log_over_losses; headers = model_headers_say; headers_on = power_headers_say; told = headers_tell }
