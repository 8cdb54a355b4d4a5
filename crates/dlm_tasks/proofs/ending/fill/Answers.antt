use Rattle.std.proofs.Common.{ℕ, inr}
use Rattle.std.proofs.lemmas.Result.{on_ok_weaker}
use Rattle.host.specs.Host.{fresh}
use Rattle.host.specs.Kept.{LeadsTo}
use Rattle.dlm_tasks.specs.Refusing.{IsNotFilled, RefusesFilling}
use Rattle.dlm_tasks.specs.declared.fault.Fault.{Fault}
use Rattle.dlm_tasks.proofs.Refusing.{as_part}
use Rattle.dlm_tasks.proofs.ending.fill.Goals as goal

pub fill_through-requires : goal.fill_through-requires
fill_through-requires g c = (c.args.host, fresh, c.in_ok-over.ensures.over)

pub returns-clause-written : goal.returns-clause-written
returns-clause-written g c = on_ok_weaker c.fill_through.result (λ written. written c.args.host c.in_ok-over.ensures.over) c.fill_through.ensures.written

pub returns-clause-refused : goal.returns-clause-refused
returns-clause-refused g c =
    as_part (λ (fault : Fault). (number : ℕ) → LeadsTo c.args.images.config number fresh c.in_ok-over.over.core → RefusesFilling number fault) (IsNotFilled c.args.host) c.fill_through.result c.fill_through.ensures.refused (λ fault refuses. inr (refuses c.args.host c.in_ok-over.ensures.over))
