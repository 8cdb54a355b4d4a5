-- Of the headline. What the states of a lock say.
use Rattle.std.specs.Prelude.{Bool, true, false}
use Rattle.lock_command.specs.declared.mode.Mode.{Mode}
use Rattle.lock_command.specs.Mode.{conflict, writes_alone}
use Rattle.lock_command.specs.declared.state.LockState.{LockState}
use Rattle.lock_command.specs.declared.state.LockState.TheVariants.{Granted, Converting, Waiting}

-- it holds a mode and wants another
abbrev pub is_converting : LockState → Bool
is_converting (Granted mode) = false
is_converting (Converting held wanted) = true
is_converting (Waiting wanted) = false

-- it holds nothing yet
abbrev pub is_waiting : LockState → Bool
is_waiting (Granted mode) = false
is_waiting (Converting held wanted) = false
is_waiting (Waiting wanted) = true

-- it wants something
abbrev pub is_queued : LockState → Bool
is_queued (Granted mode) = false
is_queued (Converting held wanted) = true
is_queued (Waiting wanted) = true

-- the mode that the lock holds once it wants nothing more
abbrev pub goal_of : LockState → Mode
goal_of (Granted mode) = mode
goal_of (Converting held wanted) = wanted
goal_of (Waiting wanted) = wanted

-- a mode is held that conflicts with the wanted one
abbrev pub holds_against : Mode → LockState → Bool
holds_against wanted (Granted mode) = conflict mode wanted
holds_against wanted (Converting held _) = conflict held wanted
holds_against wanted (Waiting _) = false

-- the lock holds a mode under which it writes alone
abbrev pub is_writer : LockState → Bool
is_writer (Granted mode) = writes_alone mode
is_writer (Converting held wanted) = writes_alone held
is_writer (Waiting wanted) = false
