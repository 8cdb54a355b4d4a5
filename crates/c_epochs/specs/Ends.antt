-- What C is told where a task of a host over all epochs ended.
use Rattle.std.specs.Prelude.{◌≡◌, ◌⊎◌, ℕ, ℤ, Option}
use Rattle.disk.specs.Disk as disk
use Rattle.paxos_block.specs.Shape.{Shape}
use Rattle.attempt.specs.declared.refusal.Refusal.{Refusal}
use Rattle.lock_command.specs.declared.command.Command.{Command}
use Rattle.lock_command.specs.declared.reply.Reply.{Reply}
use Rattle.host.specs.declared.answer.HostAnswer.{HostAnswer}
use Rattle.host.specs.declared.answer.HostAnswer.TheVariants as core
use Rattle.epoch_deeds.specs.Deeds.{Deeds}
use Rattle.epoch_host.specs.declared.answer.EpochAnswer.{EpochAnswer}
use Rattle.epoch_host.specs.declared.answer.EpochAnswer.TheVariants as answers
use Rattle.epoch_host.specs.declared.task.EpochTask.{EpochTask}
use Rattle.epoch_host.specs.declared.task.EpochTask.TheVariants.{Submit, Recover, Look, Beat, Mark}
use Rattle.epoch_host.specs.Ending.{Acknowledges, HasEnded, HasMarked, Learns}
use Rattle.epoch_host.specs.Leading.{LeadsTo}
use Rattle.epoch_images.specs.Working.{Standing, HasDone, HasWorked}
use Rattle.c_host.specs.Numbers.{done, nothing_said, operation_number, status_of}
use Rattle.c_epochs.specs.declared.answer.PlacedAnswer.{PlacedAnswer}
use Rattle.c_epochs.specs.Told.{answer_told, learned_upto, marked_on, nothing_told, placed, status_told}

-- BY WHAT THE HOST DID

-- The core of an epoch learned the command last, in the slot at this place, behind all that carries the table over. C is told the place and the lock table's reply there.
pub record TellsAcknowledged (c : Shape) (h : ℕ) (deeds : Deeds) (command : Command) (answer : PlacedAnswer) (status : ℤ) : Type 0 where
  pub place : ℕ
  pub reply : Reply
  pub is : Acknowledges c h deeds command place reply
  pub told : answer ≡ placed place reply
  pub returned : status ≡ status_of reply

-- All places below this one are learned, and the table is there; C is told the place.
pub record TellsLearned (c : Shape) (h : ℕ) (deeds : Deeds) (said : ℕ → HostAnswer) (answer : PlacedAnswer) (status : ℤ) : Type 0 where
  pub upto : ℕ
  pub is : Learns c h deeds said upto
  pub told : answer ≡ learned_upto upto
  pub returned : status ≡ done

-- On so many disks the host's block of the place is marked; C is told how many.
pub record TellsMarked (c : Shape) (h : ℕ) (deeds : Deeds) (place : ℕ) (answer : PlacedAnswer) (status : ℤ) : Type 0 where
  pub count : ℕ
  pub is : HasMarked c h deeds place count
  pub told : answer ≡ marked_on count
  pub returned : status ≡ done

-- The task was refused, and C is told why, and of no place.
pub record TellsRefused (c : Shape) (h : ℕ) (deeds : Deeds) (task : EpochTask) (answer : PlacedAnswer) (status : ℤ) : Type 0 where
  pub refusal : Refusal
  pub is : HasEnded c h deeds task (answers.Refused refusal)
  pub told : answer ≡ nothing_told
  pub returned : status ≡ operation_number refusal

-- C is told nothing
abbrev pub SaysNothing : PlacedAnswer → ℤ → Type 0
SaysNothing answer status = (answer ≡ nothing_told) × (status ≡ nothing_said)

-- what the task was begun for was done, and C is told so; a beat is none that C may ask for
abbrev pub TellsDone : Shape → (h : ℕ) → Deeds → EpochTask → PlacedAnswer → ℤ → Type 0
TellsDone c h deeds (Submit command tries) = TellsAcknowledged c h deeds command
TellsDone c h deeds (Recover tries) = TellsLearned c h deeds core.Recovered
TellsDone c h deeds Look = TellsLearned c h deeds core.Looked
TellsDone c h deeds Beat = λ answer status. SaysNothing answer status
TellsDone c h deeds (Mark place) = TellsMarked c h deeds place

-- or the task was refused; or it was given up since memory was refused, and C is told nothing
abbrev pub TellsEnd : Shape → (h : ℕ) → Deeds → EpochTask → PlacedAnswer → ℤ → Type 0
TellsEnd c h deeds task answer status = TellsDone c h deeds task answer status ⊎ TellsRefused c h deeds task answer status ⊎ SaysNothing answer status

-- OF EACH TASK

-- Whatever a host did before a task, with what it did for it C is told at its end what came of that.
abbrev pub EndsAreTold : {D : Type 0} → (D → disk.Call → disk.Answer → D → Type 0) → Type 0
EndsAreTold {D = D} gives =
    (task : EpochTask) (said : Option EpochAnswer) (old new : Standing D) → HasWorked gives task said old new
    → HasDone gives old new (λ c h deeds. LeadsTo c h deeds new.host × TellsEnd c h deeds task (answer_told said) (status_told said))
