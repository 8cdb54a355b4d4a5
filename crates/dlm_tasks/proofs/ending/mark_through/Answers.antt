-- What is printed is how much the recovery learned, and how many of its slots have their mark.
use Rattle.std.proofs.Common.{ℕ, ◌∙◌, refl, subst}
use Rattle.std.specs.Io.KnownBytes.{Appends}
use Rattle.dlm_tasks.specs.Faults.{of_refusal}
use Rattle.dlm_tasks.specs.Printed.{IsFresh, marked_text}
use Rattle.dlm_tasks.specs.Refusing.{RefusesMarks}
use Rattle.dlm_tasks.specs.declared.fault.Fault.{Fault}
use Rattle.dlm_tasks.specs.declared.images.TheConstants.{TRIES}
use Rattle.dlm_tasks.proofs.Refusing.{refused}
use Rattle.dlm_tasks.proofs.ending.mark_through.Goals as goal

pub returns-in_err-log-clause-refused : goal.returns-in_err-log-clause-refused
returns-in_err-log-clause-refused g c =
    let cause = c.in_err-log.field-0.0 in
    let cut = c.in_err-log.ensures.refused in
    refused (λ (fault : Fault). (number : ℕ) → IsFresh number c.args.host.now → RefusesMarks TRIES number fault) (of_refusal cause)
    (λ number started. record {
      old = c.args.host.now;
      looked = c.look.new.self;
      new = c.recover_and_mark.new.self;
      marked = cut.0;
      refusal = cause;
      started = started;
      looks = c.look.ensures.looked;
      marks = cut.1.0;
      said = cut.1.1;
      told = refl;
    })
    c.from_residual.result c.from_residual.ensures.1

pub returns-clause-written : goal.returns-clause-written
returns-clause-written g c =
    let before = g.O.Write.contents c.args.out.now in
    let after = g.O.Write.contents c.print_marked.new.out in
    let marked = c.in_ok-log.log.marked in
    λ number started. record {
      old = c.args.host.now;
      looked = c.look.new.self;
      new = c.recover_and_mark.new.self;
      marked = marked;
      started = started;
      looks = c.look.ensures.looked;
      marks = c.in_ok-log.ensures.marked.0;
      written =
          subst (λ (count : ℕ). Appends before after (marked_text count marked)) (c.from-length.ensures ∙ c.in_ok-log.ensures.learned)
          (subst (λ (told : ℕ). Appends before after (marked_text c.from-length.result told)) c.from-marked.ensures c.in_ok-print_marked.ensures);
    }
