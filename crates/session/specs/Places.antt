-- At which places of a log the commands stand that a host has learned.
use Rattle.std.specs.Prelude.{◌+◌, ◌-◌, ◌^◌, ◌≤◌, ◌++◌, ℕ, List, Option, None, IsSomeAnd, length, min, nat_lt, slice_get, if◌then◌else◌}
use Rattle.lock_command.specs.declared.command.Command.{Command}
use Rattle.session.specs.declared.learned.Learned.{Learned}

-- a place has 64 bits: a sum above the last one is the last one
abbrev pub place_of : ℕ → ℕ
place_of sum = min (2 ^ 64 - 1) sum

-- the commands that are known, in the order of their places
abbrev pub commands : Learned → List Command
commands l = l.before.now ++ l.log.now

-- so many places come before those that are not known yet
abbrev pub upto : Learned → ℕ
upto l = place_of (l.first + length (commands l))

-- the command at this place, if it is known
unfoldable pub command_at : Learned → ℕ → Option Command
command_at l place = if nat_lt place l.first then None else slice_get (commands l) (place - l.first)

-- The log has an end, and takes no further command.
abbrev pub IsFull : Learned → Type 0
IsFull l = IsSomeAnd l.slots (λ slots. slots ≤ upto l)
