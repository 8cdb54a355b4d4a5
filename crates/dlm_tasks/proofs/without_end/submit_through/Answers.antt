-- What is printed is the place and the reply that the host acknowledged the command with, and the place is marked then. Or it is told how the submission ended.
use Rattle.std.proofs.Common.{Option, refl}
use Rattle.disk.specs.FileStates.{FileGives}
use Rattle.epoch_host.specs.declared.answer.EpochAnswer.{EpochAnswer}
use Rattle.epoch_host.specs.declared.task.EpochTask.TheVariants.{Mark}
use Rattle.epoch_images.specs.Working.{HasWorked}
use Rattle.dlm_tasks.specs.Endless.{HasBegun}
use Rattle.dlm_tasks.specs.Faults.{of_epoch}
use Rattle.dlm_tasks.specs.Refusing.{RefusesEndlessSubmission}
use Rattle.dlm_tasks.specs.declared.fault.Fault.{Fault}
use Rattle.dlm_tasks.specs.declared.images.TheConstants.{TRIES}
use Rattle.dlm_tasks.proofs.Refusing.{endless_tries_used, marking_ended, refused}
use Rattle.dlm_tasks.proofs.without_end.submit_through.Goals as goal

pub returns-in_err-placed-clause-refused : goal.returns-in_err-placed-clause-refused
returns-in_err-placed-clause-refused g c =
    let cause = c.in_err-placed.field-0.0 in
    let old = c.args.host.now in
    let new = c.submit_in_turn.new.host in
    let used = endless_tries_used FileGives c.args.command TRIES old new c.submit_in_turn.result cause c.in_err-placed.was c.in_err-placed.ensures.refused c.submit_in_turn.ensures.outrun in
    refused (λ (fault : Fault). HasBegun c.args.command.host old → RefusesEndlessSubmission TRIES c.args.command fault) (of_epoch cause)
    (λ begun. record { looked = old; new = new; cause = cause; begun = begun; tried = used.0; outrun = used.1; told = refl })
    c.from_residual.result c.from_residual.ensures.1

pub returns-clause-written : goal.returns-clause-written
returns-clause-written g c =
    let placed = c.in_ok-placed.placed in
    let new = c.submit_in_turn.new.host in
    let marking = marking_ended (λ (said : Option EpochAnswer). HasWorked FileGives (Mark placed.place) said new c.mark.new.self) c.mark.result c.mark.ensures.counted c.mark.ensures.refused in
    λ begun. record {
      looked = c.args.host.now;
      new = new;
      place = placed.place;
      reply = placed.reply;
      begun = begun;
      tried = c.in_ok-placed.ensures.acknowledged;
      written = c.in_ok-print_ack.ensures;
      marked = c.mark.new.self;
      said = marking.0;
      marks = marking.1;
    }
