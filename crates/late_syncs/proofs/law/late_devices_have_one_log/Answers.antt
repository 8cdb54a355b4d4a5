use Rattle.late_syncs.proofs.Devices.{late_devices_have_one_log, late_devices_have_one_log_on}
use Rattle.late_syncs.proofs.law.late_devices_have_one_log.Goals as goal

pub returns : goal.returns
returns c = record { one_log = late_devices_have_one_log; endless_log = late_devices_have_one_log_on }
