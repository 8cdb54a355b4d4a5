-- Why a folder is not found or opened, or the host's number not locked.
use Rattle.std.proofs.Common.{inl, inr, refl}
use Rattle.dlm_tasks.specs.Faults.{of_folder, of_lock}
use Rattle.dlm_tasks.specs.Refusing.{IsNotLocked}
use Rattle.dlm_tasks.proofs.Refusing.{fault_is}
use Rattle.dlm_tasks.proofs.images.locked_log.Goals as goal

pub returns-in_err-folder-clause-fault : goal.returns-in_err-folder-clause-fault
returns-in_err-folder-clause-fault g c =
    let cause = c.in_err-folder.field-0.0 in
    fault_is (IsNotLocked g.R.File.TryLock.held c.args.host) (of_folder cause) (inl (cause, inl c.in_err-folder.ensures.fault, refl)) c.from_residual.result c.from_residual.ensures.1

pub returns-in_err-images-clause-fault : goal.returns-in_err-images-clause-fault
returns-in_err-images-clause-fault g c =
    let cause = c.in_err-images.field-0.0 in
    fault_is (IsNotLocked g.R.File.TryLock.held c.args.host) (of_folder cause) (inl (cause, inr c.in_err-images.ensures.fault, refl)) c.from_residual-in_err-images.result c.from_residual-in_err-images.ensures.1

pub returns-in_err-lock-clause-fault : goal.returns-in_err-lock-clause-fault
returns-in_err-lock-clause-fault g c =
    let cause = c.in_err-lock.field-0.0 in
    fault_is (IsNotLocked g.R.File.TryLock.held c.args.host) (of_lock cause) (inr (cause, (c.in_err-lock.ensures.fault, c.in_err-lock.ensures.in_use), refl)) c.from_residual-in_err-lock.result
    c.from_residual-in_err-lock.ensures.1
