-- Of the headline. What commands do to the values of names. Values never decide what is granted, so nothing here says what is.
use Rattle.std.specs.Prelude.{ℕ, Bool, true, false, ◌&&◌, List, Option, Some, None, replicate, if◌then◌else◌}
use Rattle.std.specs.List.{list_any}
use Rattle.lock_command.specs.declared.mode.Mode.{Mode}
use Rattle.lock_command.specs.Mode.{downward}
use Rattle.lock_command.specs.Name.{same_name}
use Rattle.lock_command.specs.declared.value.TheConstants.{LOCK_VALUE_LENGTH}
use Rattle.lock_command.specs.declared.command.Action.{Action}
use Rattle.lock_command.specs.declared.command.Action.TheVariants.{Enqueue, Convert, Release, Cancel, Status, Purge, QuietPurge, Forget, CarryLock, CarryClient}
use Rattle.lock_command.specs.declared.record.LockRecord.{LockRecord}
use Rattle.lock_command.specs.declared.state.LockState.{LockState}
use Rattle.lock_command.specs.declared.state.LockState.TheVariants.{Granted, Converting, Waiting}
use Rattle.lock_command.specs.declared.reply.Answer.{Answer}
use Rattle.lock_command.specs.declared.reply.Answer.TheVariants as answer
use Rattle.lock_command.specs.declared.reply.LockValue.{LockValue}
use Rattle.lock_command.specs.State.{is_writer}
use Rattle.lock_command.specs.Locks.{is_on, is_through, lock_in}

-- the value of each name
abbrev pub Values : Type 0
Values = List ℕ → LockValue

-- zeros that are valid: the value of a name without locks, and with its first lock
abbrev pub zeros : LockValue
zeros = record { bytes = replicate LOCK_VALUE_LENGTH 0; valid = true }

-- the bytes stay, but nothing tells that the last writer was done
abbrev pub invalid : LockValue → LockValue
invalid value = record { bytes = value.bytes; valid = false }

-- one name has another value
abbrev pub stored : Values → List ℕ → LockValue → Values
stored values name value other = if same_name other name then value else values other

-- the mode is downward from what the lock holds
abbrev pub is_downward : Mode → LockState → Bool
is_downward mode (Granted held) = downward held mode
is_downward mode (Converting held wanted) = downward held mode
is_downward mode (Waiting wanted) = false

-- given bytes are stored under the name of the lock, where there is one and its state lets it store
abbrev pub given : Values → (LockState → Bool) → Option LockRecord → Option (List ℕ) → Values
given values lets (Some r) (Some bytes) = if lets r.state then stored values r.name (record { bytes = bytes; valid = true }) else values
given values lets _ _ = values

-- the value of a name is no longer valid where a lock of it is purged that writes alone
abbrev pub spoiled : Values → List LockRecord → ℕ → Values
spoiled values locks host name = if list_any (λ r. is_on name r && (is_through host r && is_writer r.state)) locks then invalid (values name) else values name

-- a name without locks has zeros again
abbrev pub of_locked : List LockRecord → Values → Values
of_locked locks values name = if list_any (is_on name) locks then values name else zeros

-- the command was granted at once
abbrev pub is_granted : Answer → Bool
is_granted answer.Granted = true
is_granted _ = false

-- the lock was released
abbrev pub is_released : Answer → Bool
is_released answer.Released = true
is_released _ = false

-- the client was forgotten
abbrev pub is_forgotten : Answer → Bool
is_forgotten answer.Forgotten = true
is_forgotten _ = false

-- the answer tells the state of a lock
abbrev pub is_state : Answer → Bool
is_state (answer.State state) = true
is_state _ = false

-- what a command stores that was answered so: what a downward conversion gives, and the release of a lock that writes alone; and what is carried over with a lock
abbrev pub changed : Values → List LockRecord → Action → Answer → Values
changed values locks (Enqueue lock name mode no_queue) a = values
changed values locks (Convert lock mode no_queue value) a = if is_granted a then given values (is_downward mode) (lock_in locks lock) value else values
changed values locks (Release lock value) a = if is_released a then given values is_writer (lock_in locks lock) value else values
changed values locks (Cancel lock) a = values
changed values locks (Status lock) a = values
changed values locks (Purge host) a = spoiled values locks host
changed values locks (QuietPurge host) a = values
changed values locks (Forget gone) a = values
changed values locks (CarryLock lock name state value) a = if is_state a then stored values name value else values
changed values locks (CarryClient reply) a = values

-- and of names that have locks still
abbrev pub values_after : Values → List LockRecord → List LockRecord → Action → Answer → Values
values_after values before after action a = of_locked after (changed values before action a)

-- the value of the name of a lock
abbrev pub value_of_lock : Values → Option LockRecord → LockValue
value_of_lock values None = zeros
value_of_lock values (Some r) = values r.name

-- the value of the name that a command is about, where it may be returned
abbrev pub asked_value : Values → List LockRecord → Action → LockValue
asked_value values locks (Enqueue lock name mode no_queue) = values name
asked_value values locks (Convert lock mode no_queue value) = value_of_lock values (lock_in locks lock)
asked_value values locks (Release lock value) = zeros
asked_value values locks (Cancel lock) = zeros
asked_value values locks (Status lock) = value_of_lock values (lock_in locks lock)
asked_value values locks (Purge host) = zeros
asked_value values locks (QuietPurge host) = zeros
asked_value values locks (Forget gone) = zeros
asked_value values locks (CarryLock lock name state value) = values name
asked_value values locks (CarryClient reply) = zeros

-- a grant returns the value of its name, and so does the state of a lock that holds a mode
abbrev pub returned : Answer → LockValue → Option LockValue
returned answer.Granted value = Some value
returned (answer.State (Granted mode)) value = Some value
returned (answer.State (Converting held wanted)) value = Some value
returned _ value = None
