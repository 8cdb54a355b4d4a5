use Rattle.agreement.proofs.Runs.{places, holds_reached}
use Rattle.agreement.proofs.Agreeing.{binds_greater, stays_chosen, one_chosen_at}
use Rattle.agreement.specs.Event.{state_after}
use Rattle.agreement.proofs.agreement.Goals as goal

pub returns-clause-greater : goal.returns-clause-greater
returns-clause-greater g c = λ disks events is_run. binds_greater disks (state_after events) (holds_reached disks events is_run)

pub returns-clause-stays : goal.returns-clause-stays
returns-clause-stays g c = λ disks early late is_run. stays_chosen disks early late (places disks early late is_run)

pub returns-clause-one : goal.returns-clause-one
returns-clause-one g c = λ disks early late is_run. one_chosen_at disks early late (places disks early late is_run)
