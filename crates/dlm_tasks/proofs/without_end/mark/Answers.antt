use Rattle.std.proofs.Common.{ℕ}
use Rattle.std.proofs.lemmas.Result.{on_ok_weaker}
use Rattle.dlm_tasks.specs.Endless.{HasBegun}
use Rattle.dlm_tasks.specs.Refusing.{RefusesEndlessRecovery}
use Rattle.dlm_tasks.specs.declared.fault.Fault.{Fault}
use Rattle.dlm_tasks.specs.declared.images.TheConstants.{TRIES}
use Rattle.dlm_tasks.proofs.Refusing.{as_part}
use Rattle.dlm_tasks.proofs.without_end.mark.Goals as goal

pub returns-clause-written : goal.returns-clause-written
returns-clause-written g c = on_ok_weaker c.mark_through.result (λ written. written c.args.host c.begun-host.ensures.begun) c.mark_through.ensures.written

pub returns-clause-refused : goal.returns-clause-refused
returns-clause-refused g c =
    as_part (λ (fault : Fault). (number : ℕ) → HasBegun number c.begun-host.result → RefusesEndlessRecovery TRIES number fault) (RefusesEndlessRecovery TRIES c.args.host) c.mark_through.result c.mark_through.ensures.refused (λ fault refuses. refuses c.args.host c.begun-host.ensures.begun)
