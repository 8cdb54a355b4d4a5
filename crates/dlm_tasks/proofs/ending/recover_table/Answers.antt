-- What is printed is the table after the commands that the recovery learned.
use Rattle.std.proofs.Common.{ℕ, ◌∙◌, inl, inr, refl, subst}
use Rattle.std.proofs.lemmas.Result.{on_ok_weaker}
use Rattle.std.specs.Io.KnownBytes.{Appends}
use Rattle.dlm_tasks.specs.Faults.{of_refusal}
use Rattle.dlm_tasks.specs.Printed.{IsFresh, table_text}
use Rattle.dlm_tasks.specs.Refusing.{IsNoMemory, IsNotShown}
use Rattle.dlm_tasks.specs.declared.fault.Fault.{Fault}
use Rattle.dlm_tasks.specs.declared.images.TheConstants.{TRIES}
use Rattle.dlm_tasks.proofs.Refusing.{as_part, refused}
use Rattle.dlm_tasks.proofs.ending.recover_table.Goals as goal

pub returns-in_err-length-clause-refused : goal.returns-in_err-length-clause-refused
returns-in_err-length-clause-refused g c =
    let cause = c.in_err-length.field-0.0 in
    refused (λ (fault : Fault). (number : ℕ) → IsFresh number c.args.host.now → IsNotShown TRIES number fault) (of_refusal cause)
    (λ number started. inr (record {
      old = c.args.host.now;
      looked = c.look.new.self;
      new = c.recover.new.self;
      refusal = cause;
      started = started;
      looks = c.look.ensures.looked;
      recovers = c.recover.ensures.operated;
      said = c.in_err-length.ensures.refused;
      told = refl;
    }))
    c.from_residual.result c.from_residual.ensures.1

pub returns-clause-written : goal.returns-clause-written
returns-clause-written g c =
    let before = g.O.Write.contents c.args.out.now in
    let after = g.O.Write.contents c.print_table.new.out in
    let shown = c.table.result.now in
    on_ok_weaker c.print_table.result
    (λ written number started. record {
      old = c.args.host.now;
      looked = c.look.new.self;
      new = c.recover.new.self;
      shown = shown;
      started = started;
      looks = c.look.ensures.looked;
      recovers = c.recover.ensures.operated;
      picture = c.table.ensures;
      written = subst (λ (count : ℕ). Appends before after (table_text count shown)) (c.from.ensures ∙ c.in_ok-length.ensures.learned) written;
    })
    c.print_table.ensures.written

pub returns-clause-refused : goal.returns-clause-refused
returns-clause-refused g c =
    as_part IsNoMemory (λ (fault : Fault). (number : ℕ) → IsFresh number c.args.host.now → IsNotShown TRIES number fault) c.print_table.result c.print_table.ensures.refused (λ fault is number started. inl is)
