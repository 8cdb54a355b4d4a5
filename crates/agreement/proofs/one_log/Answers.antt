use Rattle.agreement.proofs.Slots.{holds_all_reached, one_value_each, one_log}
use Rattle.agreement.proofs.one_log.Goals as goal

pub returns-clause-chosen : goal.returns-clause-chosen
returns-clause-chosen g c = one_value_each

pub returns-clause-learned : goal.returns-clause-learned
returns-clause-learned g c = λ disks ms is_history. (holds_all_reached disks ms is_history).learned

pub returns-clause-one : goal.returns-clause-one
returns-clause-one g c = one_log
