-- The refusal of the recovery is told; or that a picture of the table had no memory.
use Rattle.std.proofs.Common.{ℕ, inl, inr, refl}
use Rattle.dlm_tasks.specs.Endless.{HasBegun}
use Rattle.dlm_tasks.specs.Faults.{of_epoch}
use Rattle.dlm_tasks.specs.Refusing.{IsEndlessNotShown, IsNoMemory}
use Rattle.dlm_tasks.specs.declared.fault.Fault.{Fault}
use Rattle.dlm_tasks.specs.declared.images.TheConstants.{TRIES}
use Rattle.dlm_tasks.proofs.Refusing.{as_part, refused}
use Rattle.dlm_tasks.proofs.without_end.recover_table.Goals as goal

pub returns-in_err-length-clause-refused : goal.returns-in_err-length-clause-refused
returns-in_err-length-clause-refused g c =
    let cause = c.in_err-length.field-0.0 in
    refused (λ (fault : Fault). (number : ℕ) → HasBegun number c.args.host.now → IsEndlessNotShown TRIES number fault) (of_epoch cause)
    (λ number begun. inr (record { looked = c.args.host.now; new = c.recover.new.self; cause = cause; begun = begun; recovers = c.in_err-length.ensures.refused; told = refl }))
    c.from_residual.result c.from_residual.ensures.1

pub returns-clause-refused : goal.returns-clause-refused
returns-clause-refused g c =
    as_part IsNoMemory (λ (fault : Fault). (number : ℕ) → HasBegun number c.args.host.now → IsEndlessNotShown TRIES number fault) c.print_table.result c.print_table.ensures.refused (λ fault is number begun. inl is)
