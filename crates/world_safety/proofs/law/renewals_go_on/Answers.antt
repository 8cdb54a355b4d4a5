use Rattle.world_safety.proofs.Claims.Renewing.{full_logs_are_final, recoveries_go_on, recoveries_go_on_without}
use Rattle.world_safety.proofs.law.renewals_go_on.Goals as goal

pub returns : goal.returns
returns c = record { full = full_logs_are_final; renewed = recoveries_go_on; left_out = recoveries_go_on_without }
