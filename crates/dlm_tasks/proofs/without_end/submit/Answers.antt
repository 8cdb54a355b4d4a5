use Rattle.std.proofs.lemmas.Result.{on_ok_weaker}
use Rattle.dlm_tasks.specs.Endless.{HasBegun}
use Rattle.dlm_tasks.specs.Refusing.{RefusesEndlessSubmission}
use Rattle.dlm_tasks.specs.declared.fault.Fault.{Fault}
use Rattle.dlm_tasks.specs.declared.images.TheConstants.{TRIES}
use Rattle.dlm_tasks.proofs.Refusing.{as_part}
use Rattle.dlm_tasks.proofs.without_end.submit.Goals as goal

pub returns-clause-written : goal.returns-clause-written
returns-clause-written g c = on_ok_weaker c.submit_through.result (λ written. written c.begun-host.ensures.begun) c.submit_through.ensures.written

pub returns-clause-refused : goal.returns-clause-refused
returns-clause-refused g c =
    as_part (λ (fault : Fault). HasBegun c.args.command.host c.begun-host.result → RefusesEndlessSubmission TRIES c.args.command fault) (RefusesEndlessSubmission TRIES c.args.command) c.submit_through.result c.submit_through.ensures.refused (λ fault refuses. refuses c.begun-host.ensures.begun)
