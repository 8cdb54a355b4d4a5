-- Why the images are not opened once more, or no host is made.
use Rattle.std.proofs.Common.{inl, inr, refl}
use Rattle.dlm_tasks.specs.Faults.{of_folder}
use Rattle.dlm_tasks.specs.Refusing.{IsNotReopened}
use Rattle.dlm_tasks.proofs.Refusing.{fault_is}
use Rattle.dlm_tasks.proofs.ending.host_in.Goals as goal

pub returns-in_err-images-clause-fault : goal.returns-in_err-images-clause-fault
returns-in_err-images-clause-fault g c =
    let cause = c.in_err-images.field-0.0 in
    fault_is IsNotReopened (of_folder cause) (inr (cause, c.in_err-images.ensures.fault, refl)) c.from_residual.result c.from_residual.ensures.1

pub returns-in_err-over-clause-fault : goal.returns-in_err-over-clause-fault
returns-in_err-over-clause-fault g c =
    fault_is IsNotReopened c.in_err-over.field-0.0 (inl c.in_err-over.ensures.fault) c.from_residual-in_err-over.result c.from_residual-in_err-over.ensures.1
