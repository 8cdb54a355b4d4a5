-- A submission in several tries, each of which is a submission that ends where it is outrun.
use Rattle.std.specs.Prelude.{◌<◌, ◌+◌, ℕ, Option, Some}
use Rattle.disk.specs.Disk.{Call, Answer}
use Rattle.attempt.specs.declared.refusal.Refusal.TheVariants.{Outrun}
use Rattle.lock_command.specs.declared.command.Command.{Command}
use Rattle.epoch_host.specs.declared.answer.EpochAnswer.{EpochAnswer}
use Rattle.epoch_host.specs.declared.answer.EpochAnswer.TheVariants.{Refused}
use Rattle.epoch_host.specs.declared.task.EpochTask.TheVariants.{Submit}
use Rattle.epoch_images.specs.Working.{Standing, HasWorked}

-- so many submissions of the command were outrun, one after the other
pub data AreOutrun {D : Type 0} (gives : D → Call → Answer → D → Type 0) (command : Command) : ℕ → Standing D → Standing D → Type 0 where
  none : (host : Standing D) → AreOutrun gives command 0 host host
  more : (n : ℕ) (old before after : Standing D) → AreOutrun gives command n old before → HasWorked gives (Submit command 1) (Some (Refused Outrun)) before after → AreOutrun gives command (n + 1) old after

-- Fewer submissions than that were outrun, one after the other. Then came the last, after which the host said this.
pub record HasTried {D : Type 0} (gives : D → Call → Answer → D → Type 0) (command : Command) (tries : ℕ) (said : Option EpochAnswer) (old new : Standing D) : Type 0 where
  pub outrun : ℕ
  pub before : Standing D
  pub few : outrun < tries
  pub lost : AreOutrun gives command outrun old before
  pub last : HasWorked gives (Submit command 1) said before new
