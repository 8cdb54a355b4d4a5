-- What is printed is how much the recovery learned, and how many of its places have their mark. Or the refusal of the recovery is told.
use Rattle.std.proofs.Common.{ℕ, refl}
use Rattle.dlm_tasks.specs.Endless.{HasBegun}
use Rattle.dlm_tasks.specs.Faults.{of_epoch}
use Rattle.dlm_tasks.specs.Refusing.{RefusesEndlessRecovery}
use Rattle.dlm_tasks.specs.declared.fault.Fault.{Fault}
use Rattle.dlm_tasks.specs.declared.images.TheConstants.{TRIES}
use Rattle.dlm_tasks.proofs.Refusing.{refused}
use Rattle.dlm_tasks.proofs.without_end.mark_through.Goals as goal

pub returns-in_err-log-clause-refused : goal.returns-in_err-log-clause-refused
returns-in_err-log-clause-refused g c =
    let cause = c.in_err-log.field-0.0 in
    refused (λ (fault : Fault). (number : ℕ) → HasBegun number c.args.host.now → RefusesEndlessRecovery TRIES number fault) (of_epoch cause)
    (λ number begun. record { looked = c.args.host.now; new = c.recover_and_mark.new.self; cause = cause; begun = begun; recovers = c.in_err-log.ensures.refused; told = refl })
    c.from_residual.result c.from_residual.ensures.1

pub returns-clause-written : goal.returns-clause-written
returns-clause-written g c = λ number begun. record {
  looked = c.args.host.now;
  new = c.recover_and_mark.new.self;
  known = c.in_ok-log.ensures.marked.0;
  upto = c.in_ok-log.log.length;
  marked = c.in_ok-log.log.marked;
  begun = begun;
  marks = c.in_ok-log.ensures.marked.1;
  written = c.in_ok-print_marked.ensures;
}
