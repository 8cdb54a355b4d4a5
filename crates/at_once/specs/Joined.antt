-- One log of what several hosts keep, each of which has done its own part of what was done at once.
use Rattle.std.specs.Prelude.{◌≡◌, ◌+◌, ◌<◌, ◌≤◌, ℕ, true, List, length, take, slice_get, Some}
use Rattle.lock_command.specs.declared.command.Command.{Command}
use Rattle.lock_command.specs.declared.reply.Reply.{Reply}
use Rattle.paxos_block.specs.Shape.{Shape}
use Rattle.host.specs.Host.{reply_after}
use Rattle.host.specs.Kept.{Kept}
use Rattle.host.specs.declared.answer.HostAnswer.TheVariants.{Recovered}
use Rattle.host.specs.declared.task.Task.TheVariants.{Recover}
use Rattle.world.specs.Entry.{Filled, Begin, of_host, is_of}
use Rattle.world.specs.Chosen.{IsCallOf, migrated}
use Rattle.world.specs.Headline.{IsPrefix}
use Rattle.dlm_images.specs.Operations.{IsAcknowledged}
use Rattle.at_once.specs.AtOnce.{IsRunOf}
use Rattle.at_once.specs.Deeds.{HasDone}

-- by place i of the list the host has come to keep this
abbrev pub HasCome : Shape → List Filled → ℕ → ℕ → Kept → Type 0
HasCome c log i h kept = HasDone c h kept (of_host h (take i log))

-- A recovery of the host begins at entry i and ends with entry j, all of whose own entries in between are device calls. It says that it has
-- learned n commands, and keeps this then.
pub record HasRecovered (c : Shape) (log : List Filled) (i j h n : ℕ) (kept : Kept) : Type 0 where
  pub tries : ℕ
  pub begins : slice_get log i ≡ Some (Begin h (Recover tries))
  pub order : i ≤ j
  pub calls : (k : ℕ) (e : Filled) → i < k → k ≤ j → slice_get log k ≡ Some e → is_of h e ≡ true → IsCallOf h e
  pub entry : Filled
  pub last : slice_get log j ≡ Some entry
  pub own : is_of h entry ≡ true
  pub come : HasCome c log (j + 1) h kept
  pub said : kept.said ≡ Some (Recovered n)

-- Whatever hosts keep, at any place, goes by these commands.
pub record IsJoined (c : Shape) (log : List Filled) (commands : List Command) : Type 0 where
  -- those that were migrated begin them
  pub begun : IsPrefix (migrated log) commands
  -- what a host has learned begins them
  pub learned : (i h : ℕ) (kept : Kept) → HasCome c log i h kept → IsPrefix kept.prefix commands
  -- a command that was acknowledged stands at its slot, and its reply is the lock table's after the commands before it
  pub acknowledged : (i h : ℕ) (kept : Kept) (command : Command) (slot : ℕ) (reply : Reply) → HasCome c log i h kept →
      IsAcknowledged command slot reply kept.prefix → (slice_get commands slot ≡ Some command) × (reply ≡ reply_after (take slot commands) command)
  -- a recovery has learned as many commands of the log as it says
  pub recovered : (i j h n : ℕ) (kept : Kept) → HasRecovered c log i j h n kept → (n ≤ length commands) × (kept.prefix ≡ take n commands)
  -- all that were migrated are among these,
  pub moved : (i j h n : ℕ) (kept : Kept) → HasRecovered c log i j h n kept → IsPrefix (migrated log) kept.prefix
  -- and no fewer than any host had learned before it began, also one that has stopped since;
  pub holds : (k i j g h n : ℕ) (other kept : Kept) → k ≤ i → HasCome c log k g other → HasRecovered c log i j h n kept → length other.prefix ≤ n
  -- so a command that was acknowledged before it began is among them, at its slot
  pub keeps : (k i j g h n : ℕ) (other kept : Kept) (command : Command) (slot : ℕ) (reply : Reply) → k ≤ i → HasCome c log k g other →
      IsAcknowledged command slot reply other.prefix → HasRecovered c log i j h n kept → slice_get kept.prefix slot ≡ Some command

-- So it is with the one log of what is done at once.
abbrev pub DeedsAreJoined : Type 0
DeedsAreJoined = (c : Shape) (log : List Filled) (of : IsRunOf c log) → IsJoined c log of.one.commands
