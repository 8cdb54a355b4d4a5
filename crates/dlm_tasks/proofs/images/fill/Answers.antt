-- It is refused as the filling is. The host's number is locked meanwhile.
use Rattle.std.proofs.Common.{inr}
use Rattle.dlm_tasks.specs.Refusing.{IsNotFilled, MayNotFill}
use Rattle.dlm_tasks.proofs.Refusing.{as_part, known}
use Rattle.dlm_tasks.proofs.images.fill.Goals as goal

pub returns-clause-refused : goal.returns-clause-refused
returns-clause-refused g c = as_part (IsNotFilled c.args.host) (MayNotFill g.R.File.TryLock.held c.args.host) c.fill.result c.fill.ensures.refused (λ fault is. inr is)

pub returns-clause-locked : goal.returns-clause-locked
returns-clause-locked g c = known _ (c.in_ok-images._lock, c.in_ok-images.ensures.locked) c.fill.result
