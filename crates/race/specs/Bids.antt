-- What the hosts of a race submit, and what they do before that.
use Rattle.std.specs.Prelude.{◌≡◌, ℕ, ◌+◌, false, List, ◌∷◌, ◌++◌, codes}
use Rattle.lock_command.specs.declared.mode.Mode.TheVariants.{Exclusive}
use Rattle.lock_command.specs.declared.command.Command.{Command}
use Rattle.lock_command.specs.declared.command.Action.TheVariants.{Enqueue}
use Rattle.host.specs.declared.task.Task.TheVariants.{Submit, Beat}
use Rattle.world.specs.Entry.{Filled, Begin}

-- An exclusive lock on `db` for a client of the host's number, which waits where it has to; the lock's number is the next one.
abbrev pub bid_of : ℕ → Command
bid_of h = record { host = h; client = h; request = 1; action = Enqueue (h + 1) (codes "db") Exclusive false }

-- by its own entries the host has beaten
pub record HasBeaten (h : ℕ) (own : List Filled) : Type 0 where
  pub before : List Filled
  pub after : List Filled
  pub is : own ≡ before ++ Begin h Beat ∷ after

-- and has submitted its bid after a beat, with 255 tries
pub record HasBid (h : ℕ) (own : List Filled) : Type 0 where
  pub before : List Filled
  pub between : List Filled
  pub after : List Filled
  pub is : own ≡ before ++ Begin h Beat ∷ (between ++ Begin h (Submit (bid_of h) 255) ∷ after)
