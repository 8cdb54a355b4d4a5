use Rattle.std.proofs.Common.{ℕ, inr}
use Rattle.std.proofs.lemmas.Result.{on_ok_weaker}
use Rattle.dlm_tasks.specs.Printed.{IsFresh}
use Rattle.dlm_tasks.specs.Refusing.{IsNotMarked, RefusesMarks}
use Rattle.dlm_tasks.specs.declared.fault.Fault.{Fault}
use Rattle.dlm_tasks.specs.declared.images.TheConstants.{TRIES}
use Rattle.dlm_tasks.proofs.Refusing.{as_part}
use Rattle.dlm_tasks.proofs.ending.mark.Goals as goal

pub returns-clause-written : goal.returns-clause-written
returns-clause-written g c = on_ok_weaker c.mark_through.result (λ written. written c.args.host c.in_ok-over.ensures.fresh) c.mark_through.ensures.written

pub returns-clause-refused : goal.returns-clause-refused
returns-clause-refused g c =
    as_part (λ (fault : Fault). (number : ℕ) → IsFresh number c.in_ok-over.over → RefusesMarks TRIES number fault) (IsNotMarked TRIES c.args.host) c.mark_through.result c.mark_through.ensures.refused (λ fault refuses. inr (refuses c.args.host c.in_ok-over.ensures.fresh))
