-- What C is told where an operation has ended, from how the host says that it ended.
use Rattle.std.proofs.Common.{◌⊎◌, ℕ, List, Option, Some, inl, inr, refl, ap, arith}
use Rattle.disk.specs.Disk.{Call, Answer}
use Rattle.lock_command.specs.declared.command.Command.{Command}
use Rattle.host.specs.declared.answer.HostAnswer.{HostAnswer}
use Rattle.host.specs.declared.answer.HostAnswer.TheVariants.{Ack, Recovered, Looked, Marked, Refused}
use Rattle.host.specs.declared.task.Task.TheVariants.{Look, Mark}
use Rattle.host.specs.Host.{Operation, Submitting, Recovering, fresh, goes_on, starts_marking, looks_on}
use Rattle.host.proofs.Hosts.{idle_is}
use Rattle.dlm_images.specs.Operations.{Ends}
use Rattle.dlm_images.specs.Tasks.{EndsTask}
use Rattle.dlm_images.proofs.Driving.{known_then, operated_ends, marked_ends, looked_ends}
use Rattle.dlm_images.proofs.Ending.{ReadsBack, reads_back}
use Rattle.c_host.specs.Ends.{TellsEnd, TellsLearned, TellsMarked, TellsRefused, HasNumbersInRange, OpenedRest, OperationsTell, MarkingsTell, LooksTell}
use Rattle.c_host.specs.Told.{answer_told, status_told}

-- how an operation has ended is told
tells_end : (o : Operation) (learned : List Command) (said : Option HostAnswer) → Ends o learned said → TellsEnd o learned (answer_told said) (status_told said)
tells_end (Submitting command) learned (Some (Ack slot reply)) ends = inl (record { slot = slot; reply = reply; is = ends; told = refl; returned = refl })
tells_end (Submitting command) learned (Some (Refused refusal)) ends = inr (record { refusal = refusal; told = refl; returned = refl })
tells_end Recovering learned (Some (Recovered count)) ends = inl (ap (λ (n : ℕ). answer_told (Some (Recovered n))) ends, refl)
tells_end Recovering learned (Some (Refused refusal)) ends = inr (record { refusal = refusal; told = refl; returned = refl })
tells_end operation learned said ends = absurd ends

tells_looked : (learned : List Command) (said : Option HostAnswer) → EndsTask Look learned said → TellsLearned learned (answer_told said) (status_told said) ⊎ TellsRefused (answer_told said) (status_told said)
tells_looked learned (Some (Looked count)) ends = inl (ap (λ (n : ℕ). answer_told (Some (Looked n))) ends, refl)
tells_looked learned (Some (Refused refusal)) ends = inr (record { refusal = refusal; told = refl; returned = refl })
tells_looked learned said ends = absurd ends

tells_marked : (slot : ℕ) (learned : List Command) (said : Option HostAnswer) → EndsTask (Mark slot) learned said → TellsMarked (answer_told said) (status_told said)
tells_marked slot learned (Some (Marked count)) ends = inl (count, refl, refl)
tells_marked slot learned (Some (Refused refusal)) ends = inr (record { refusal = refusal; told = refl; returned = refl })
tells_marked slot learned said ends = absurd ends

-- a command whose numbers are in their ranges reads back
reads : (o : Operation) → HasNumbersInRange o → ReadsBack o
reads (Submitting command) fits = reads_back command fits
reads Recovering fits = tt

-- a host that was opened rests
pub opened : OpenedRest
opened c h k leads = record {
  known = record { shape = c; host = h; memory = fresh; leads = leads; tries = omega arith };
  idle = idle_is c h fresh k leads;
}

pub operations : {D : Type 0} (gives : D → Call → Answer → D → Type 0) → OperationsTell gives
operations gives operation tries old new rests fits done = (
  record { known = known_then gives (λ c m. goes_on c m operation tries) old new rests.known done; idle = done.ended },
  tells_end operation new.core.prefix new.core.said (operated_ends gives old new rests.known operation tries (reads operation fits) done),
)

pub markings : {D : Type 0} (gives : D → Call → Answer → D → Type 0) → MarkingsTell gives
markings gives slot old new rests done = (
  record { known = known_then gives (λ c m. starts_marking m slot) old new rests.known done; idle = done.ended },
  (marked_ends gives old new rests.known slot done).0,
  tells_marked slot new.core.prefix new.core.said (marked_ends gives old new rests.known slot done).1,
)

pub looks : {D : Type 0} (gives : D → Call → Answer → D → Type 0) → LooksTell gives
looks gives old new rests done = (
  record { known = known_then gives (λ c m. looks_on c m 0) old new rests.known done; idle = done.ended },
  tells_looked new.core.prefix new.core.said (looked_ends gives old new rests.known done),
)
