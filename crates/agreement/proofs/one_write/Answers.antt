use Rattle.agreement.specs.Event.{state_after}
use Rattle.agreement.proofs.Runs.{holds_reached}
use Rattle.agreement.proofs.Writing.{writes_at_rest}
use Rattle.agreement.proofs.one_write.Goals as goal

pub returns : goal.returns
returns g c = λ disks events is_run. writes_at_rest disks (state_after events) (holds_reached disks events is_run)
