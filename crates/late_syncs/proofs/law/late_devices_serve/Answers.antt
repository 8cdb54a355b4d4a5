use Rattle.late_syncs.proofs.Devices.{late_devices_serve, devices_may_be_late}
use Rattle.late_syncs.proofs.law.late_devices_serve.Goals as goal

pub returns : goal.returns
returns c = record { serves = late_devices_serve; all = devices_may_be_late }
