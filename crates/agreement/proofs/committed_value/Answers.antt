use Rattle.agreement.proofs.Runs.{places, holds_reached}
use Rattle.agreement.proofs.Agreeing.{commits_chosen, binds_later, binds_earlier}
use Rattle.agreement.specs.Event.{state_after}
use Rattle.agreement.proofs.committed_value.Goals as goal

pub returns-clause-chosen : goal.returns-clause-chosen
returns-clause-chosen g c = λ disks events is_run. commits_chosen disks (state_after events) (holds_reached disks events is_run)

pub returns-clause-later : goal.returns-clause-later
returns-clause-later g c = λ disks early late is_run. binds_later disks early late (places disks early late is_run)

pub returns-clause-earlier : goal.returns-clause-earlier
returns-clause-earlier g c = λ disks early late is_run. binds_earlier disks early late (places disks early late is_run)
