-- What is printed is what the host acknowledged, and its slot is marked then. Or the refusal is told.
use Rattle.std.proofs.Common.{ℕ, refl, subst}
use Rattle.std.specs.Io.KnownBytes.{Appends}
use Rattle.disk.specs.FileStates.{FileGives}
use Rattle.host.specs.declared.answer.HostAnswer.TheVariants.{Ack}
use Rattle.folder_migration.proofs.Filling.{tries_used}
use Rattle.dlm_tasks.specs.Faults.{of_refusal}
use Rattle.dlm_tasks.specs.Printed.{Begins, answer_line}
use Rattle.dlm_tasks.specs.Refusing.{RefusesSubmission}
use Rattle.dlm_tasks.specs.declared.fault.Fault.{Fault}
use Rattle.dlm_tasks.specs.declared.images.TheConstants.{TRIES}
use Rattle.dlm_tasks.proofs.Refusing.{refused}
use Rattle.dlm_tasks.proofs.ending.submit_through.Goals as goal

pub returns-in_err-done-clause-refused : goal.returns-in_err-done-clause-refused
returns-in_err-done-clause-refused g c =
    let cause = c.in_err-done.field-0.0 in
    let old = c.args.host.now in
    let new = c.submit_patiently.new.host in
    let used = tries_used FileGives c.args.command TRIES old new c.submit_patiently.result cause c.in_err-done.was c.submit_patiently.ensures.tried c.submit_patiently.ensures.outrun in
    refused (λ (fault : Fault). Begins c.args.command old → RefusesSubmission TRIES c.args.command fault) (of_refusal cause)
    (λ begins. record { begun = old; new = new; refusal = cause; begins = begins; tried = used.0; said = c.in_err-done.ensures.refused; outrun = used.1; told = refl })
    c.from_residual.result c.from_residual.ensures.1

pub returns-clause-written : goal.returns-clause-written
returns-clause-written g c =
    let before = g.O.Write.contents c.args.out.now in
    let after = g.O.Write.contents c.print_ack.new.out in
    let done = c.in_ok-done.done in
    λ begins. record {
      begun = c.args.host.now;
      new = c.submit_patiently.new.host;
      slot = done.slot;
      reply = done.reply;
      begins = begins;
      tried = c.submit_patiently.ensures.tried;
      acknowledged = c.in_ok-done.ensures.acknowledged;
      written = subst (λ (slot : ℕ). Appends before after (answer_line (Ack slot done.reply))) c.from.ensures c.in_ok-print_ack.ensures;
      marked = c.mark.new.self;
      marks = c.mark.ensures.marked;
    }
