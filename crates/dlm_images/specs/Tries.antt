-- A submission in several tries, each of which is a submission that ends where it is outrun.
use Rattle.std.specs.Prelude.{◌≡◌, ◌<◌, ◌+◌, ℕ, Some}
use Rattle.disk.specs.Disk.{Call, Answer}
use Rattle.lock_command.specs.declared.command.Command.{Command}
use Rattle.attempt.specs.declared.refusal.Refusal.TheVariants.{Outrun}
use Rattle.host.specs.Host.{Submitting}
use Rattle.host.specs.declared.answer.HostAnswer.TheVariants.{Refused}
use Rattle.dlm_images.specs.Operations.{Standing, HasOperated}

-- so many submissions of the command were outrun, one after the other
pub data AreOutrun {D : Type 0} (gives : D → Call → Answer → D → Type 0) (command : Command) : ℕ → Standing D → Standing D → Type 0 where
  none : (host : Standing D) → AreOutrun gives command 0 host host
  more : (n : ℕ) (old before after : Standing D) → AreOutrun gives command n old before → HasOperated gives (Submitting command) 1 before after → after.core.said ≡ Some (Refused Outrun) → AreOutrun gives command (n + 1) old after

-- Fewer submissions than that were outrun, one after the other, and then came the last.
pub record HasTried {D : Type 0} (gives : D → Call → Answer → D → Type 0) (command : Command) (tries : ℕ) (old new : Standing D) : Type 0 where
  pub outrun : ℕ
  pub before : Standing D
  pub few : outrun < tries
  pub lost : AreOutrun gives command outrun old before
  pub last : HasOperated gives (Submitting command) 1 before new
