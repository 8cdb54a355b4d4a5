-- What a core of an epoch has under way for a task, and what it says once that is over.
use Rattle.std.specs.Prelude.{◌≡◌, ◌<◌, ℕ, List, [], ◌∷◌, ◌++◌, length, Option, Some, None}
use Rattle.lock_command.specs.declared.command.Command.{Command}
use Rattle.lock_command.specs.declared.reply.Reply.{Reply}
use Rattle.host.specs.declared.answer.HostAnswer.{HostAnswer}
use Rattle.host.specs.declared.answer.HostAnswer.TheVariants.{Ack, Recovered, Looked, Beaten, Marked, Refused}
use Rattle.host.specs.declared.task.Task.{Task}
use Rattle.host.specs.declared.task.Task.TheVariants.{Submit, Recover, Look, Beat, Mark}
use Rattle.host.specs.Host.{Operation, Submitting, Recovering, Doing, Attempts, Looks, Beats, Marks as MarksSlot, reply_after}
use Rattle.epoch_host.specs.declared.over.Over.{Over}
use Rattle.epoch_host.specs.declared.stay.Work.{Work}
use Rattle.epoch_host.specs.declared.stay.Work.TheVariants.{Goes, Carries, Marks, Looks as LooksOnly}
use Rattle.epoch_host.specs.Submitting.{Stands}

-- WHAT IS UNDER WAY

-- A core begins this for a task: the task, or what goes before it.
abbrev pub IsFor : Task → Task → Type 0
IsFor task (Submit command tries) = task ≡ Submit command tries
IsFor task (Recover tries) = Unit {0}
IsFor task Look = Unit {0}
IsFor task Beat = task ≡ Beat
IsFor task (Mark slot) = task ≡ Mark slot

-- a command that is submitted is the task's
abbrev pub IsOfTask : Task → Operation → Type 0
IsOfTask task (Submitting command) = (tries : ℕ) × (task ≡ Submit command tries)
IsOfTask task Recovering = Unit {0}

-- So it has this under way, unless it carries a part of the table over.
abbrev pub DoesFor : Task → Work → Option Doing → Type 0
DoesFor task Goes (Some (Attempts t)) = IsOfTask task t.operation
DoesFor task Goes (Some (Looks t)) = Unit {0}
DoesFor task Goes (Some (Beats heard)) = task ≡ Beat
DoesFor task Goes (Some (MarksSlot t)) = task ≡ Mark t.slot
DoesFor task other doing = Unit {0}

-- HOW IT ENDS

-- The command was learned last, in this slot, behind all that carries the table over. The lock table replies so there.
pub record IsPlaced (over : Over) (learned : List Command) (command : Command) (slot : ℕ) (reply : Reply) : Type 0 where
  pub before : List Command
  pub last : learned ≡ before ++ command ∷ []
  pub at : slot ≡ length before
  pub replied : reply ≡ reply_after before command
  pub stands : Stands over before

-- So many commands are learned. All that carries the table over is among them.
pub record AreRead (over : Over) (learned : List Command) (told : ℕ) : Type 0 where
  pub all : told ≡ length learned
  pub stands : Stands over learned

-- So a task ends in an epoch of which this was learned. A recovery that ends there is not of the whole epoch.
abbrev pub EndsTask : Over → (slots : ℕ) → Task → (learned : List Command) → HostAnswer → Type 0
EndsTask over slots task learned (Refused refusal) = Unit {0}
EndsTask over slots (Submit command tries) learned (Ack slot reply) = IsPlaced over learned command slot reply
EndsTask over slots (Recover tries) learned (Recovered told) = AreRead over learned told × (length learned < slots)
EndsTask over slots Look learned (Looked told) = AreRead over learned told
EndsTask over slots Beat learned (Beaten host) = Unit {0}
EndsTask over slots (Mark slot) learned (Marked count) = slot < length learned
EndsTask over slots task learned other = ⊥

-- What a core says once it is idle: of what goes before a task, how much it has learned; of the task itself, how that ended.
abbrev pub SaysFor : Over → (slots : ℕ) → Task → Work → (learned : List Command) → Option HostAnswer → Type 0
SaysFor over slots task work learned None = ⊥
SaysFor over slots task work learned (Some (Refused refusal)) = Unit {0}
SaysFor over slots task work learned (Some (Recovered told)) = told ≡ length learned
SaysFor over slots task work learned (Some (Looked told)) = told ≡ length learned
SaysFor over slots task Goes learned (Some (Ack slot reply)) = EndsTask over slots task learned (Ack slot reply)
SaysFor over slots task (Carries at) learned (Some (Ack slot reply)) = Unit {0}
SaysFor over slots task Marks learned (Some (Ack slot reply)) = ⊥
SaysFor over slots task LooksOnly learned (Some (Ack slot reply)) = ⊥
SaysFor over slots task Goes learned (Some (Beaten host)) = EndsTask over slots task learned (Beaten host)
SaysFor over slots task other learned (Some (Beaten host)) = ⊥
SaysFor over slots task Goes learned (Some (Marked count)) = EndsTask over slots task learned (Marked count)
SaysFor over slots task (Carries at) learned (Some (Marked count)) = ⊥
SaysFor over slots task Marks learned (Some (Marked count)) = Unit {0}
SaysFor over slots task LooksOnly learned (Some (Marked count)) = ⊥
