-- It is refused as the task over a log of either kind is. The host's number is locked meanwhile.
use Rattle.std.proofs.Common.{inl, inr}
use Rattle.dlm_tasks.specs.Refusing.{IsNotSubmitted, MayNotSubmit, RefusesEndlessSubmission}
use Rattle.dlm_tasks.specs.declared.images.TheConstants.{TRIES}
use Rattle.dlm_tasks.proofs.Refusing.{as_part, known}
use Rattle.dlm_tasks.proofs.images.submit.Goals as goal

pub returns-in-Ending-clause-refused : goal.returns-in-Ending-clause-refused
returns-in-Ending-clause-refused g c =
    as_part (IsNotSubmitted TRIES c.args.command) (MayNotSubmit g.R.File.TryLock.held TRIES c.args.command) c.submit.result c.submit.ensures.refused (λ fault is. inr (inl is))

pub returns-in-Ending-clause-locked : goal.returns-in-Ending-clause-locked
returns-in-Ending-clause-locked g c = known _ (c.in_ok-folder._lock, c.in_ok-folder.ensures.locked) c.submit.result

pub returns-clause-refused : goal.returns-clause-refused
returns-clause-refused g c =
    as_part (RefusesEndlessSubmission TRIES c.args.command) (MayNotSubmit g.R.File.TryLock.held TRIES c.args.command) c.submit-in-Endless.result c.submit-in-Endless.ensures.refused (λ fault is. inr (inr is))

pub returns-clause-locked : goal.returns-clause-locked
returns-clause-locked g c = known _ (c.in_ok-folder._lock, c.in_ok-folder.ensures.locked) c.submit-in-Endless.result
