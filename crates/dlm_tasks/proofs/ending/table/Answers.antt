use Rattle.std.proofs.Common.{ℕ}
use Rattle.std.proofs.lemmas.Result.{on_ok_weaker}
use Rattle.dlm_tasks.specs.Printed.{IsFresh}
use Rattle.dlm_tasks.specs.Refusing.{IsNotShown}
use Rattle.dlm_tasks.specs.declared.fault.Fault.{Fault}
use Rattle.dlm_tasks.specs.declared.images.TheConstants.{TRIES}
use Rattle.dlm_tasks.proofs.Refusing.{as_part}
use Rattle.dlm_tasks.proofs.ending.table.Goals as goal

pub returns-clause-written : goal.returns-clause-written
returns-clause-written g c = on_ok_weaker c.recover_table.result (λ written. written c.args.host c.in_ok-over.ensures.fresh) c.recover_table.ensures.written

pub returns-clause-refused : goal.returns-clause-refused
returns-clause-refused g c =
    as_part (λ (fault : Fault). (number : ℕ) → IsFresh number c.in_ok-over.over → IsNotShown TRIES number fault) (IsNotShown TRIES c.args.host) c.recover_table.result c.recover_table.ensures.refused (λ fault refuses. refuses c.args.host c.in_ok-over.ensures.fresh)
