-- When a host acknowledges a command.
use Rattle.std.specs.Prelude.{◌≡◌, ◌+◌, ℕ, List, [], ◌∷◌, ◌++◌, length, Some}
use Rattle.lock_command.specs.declared.command.Command.{Command}
use Rattle.lock_command.specs.Command.{spelling}
use Rattle.lock_command.specs.declared.reply.Reply.{Reply}
use Rattle.paxos_block.specs.Shape.{Shape}
use Rattle.host.specs.Host.{Submitting, Attempt, Attempts, Memory, Running, reply_after}
use Rattle.world.specs.Entry.{Filled}
use Rattle.world.specs.World.{ReadsBack}
use Rattle.world.specs.Chosen.{at}

-- It was submitting a command, and has learned the one with that spelling for its next slot: with this it says the slot, and the reply.
pub record Acks (m : Memory) (t : Attempt) (new : Memory) (slot : ℕ) (reply : Reply) : Type 0 where
  pub command : Command
  pub submitting : t.operation ≡ Submitting command
  pub read : Command
  pub reads : ReadsBack read
  pub same : spelling command ≡ spelling read
  pub slot_is : slot ≡ length m.learned
  pub reply_is : reply ≡ reply_after m.learned read
  pub learned : new.learned ≡ m.learned ++ read ∷ []

-- so at an entry
pub record AcksAt (c : Shape) (log : List Filled) (i h slot : ℕ) (reply : Reply) : Type 0 where
  pub memory : Memory
  pub doing : Attempt
  pub new : Memory
  pub running : (at c log i).host h ≡ Running memory
  pub does : memory.doing ≡ Some (Attempts doing)
  pub runs_on : (at c log (i + 1)).host h ≡ Running new
  pub acks : Acks memory doing new slot reply
