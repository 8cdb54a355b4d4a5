use Rattle.sweep_safety.proofs.Right.{recoveries_are_right, recoveries_go_by_one_log}
use Rattle.sweep_safety.proofs.law.recoveries_are_right.Goals as goal

pub returns : goal.returns
returns c = record { right = recoveries_are_right; one_log = recoveries_go_by_one_log }
