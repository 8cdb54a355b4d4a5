use Rattle.agreement.proofs.Runs.{places}
use Rattle.agreement.proofs.Agreeing.{one_proposal}
use Rattle.agreement.proofs.one_proposal.Goals as goal

pub returns-clause-stays : goal.returns-clause-stays
returns-clause-stays g c = λ disks early late is_run. (places disks early late is_run).grows.proposed

pub returns-clause-one : goal.returns-clause-one
returns-clause-one g c = λ disks early late is_run. one_proposal disks early late (places disks early late is_run)
