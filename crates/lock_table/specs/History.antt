-- What happens to the value of a name while commands are carried out, told command by command.
use Rattle.std.specs.Prelude.{◌≡◌, ℕ, Bool, true, false, ◌&&◌, ◌||◌, nat_lt, List, [], ◌∷◌, length, find, Option, Some, None, ⊤, if◌then◌else◌}
use Rattle.std.specs.List.{list_any}
use Rattle.lock_command.specs.Name.{same_name}
use Rattle.lock_command.specs.declared.command.Command.{Command}
use Rattle.lock_command.specs.declared.command.Action.{Action}
use Rattle.lock_command.specs.declared.command.Action.TheVariants.{Convert, Release, Purge}
use Rattle.lock_table.specs.declared.clients.TheConstants.{CLIENTS}
use Rattle.lock_command.specs.declared.record.LockRecord.{LockRecord}
use Rattle.lock_command.specs.declared.state.LockState.{LockState}
use Rattle.lock_table.specs.declared.known_client.KnownClient.{KnownClient}
use Rattle.lock_command.specs.declared.reply.Answer.{Answer}
use Rattle.lock_command.specs.Locks.{is_on, is_through, lock_in}
use Rattle.lock_command.specs.State.{is_writer}
use Rattle.lock_table.specs.Values.{is_downward, is_granted, is_released}
use Rattle.lock_table.specs.Apply.{Plain, is_client, applied}

-- a request above the last of its client, or of one that is unknown while there is room for it
abbrev pub is_new_after : Plain → Command → Option KnownClient → Bool
is_new_after t c None = nat_lt (length t.clients) CLIENTS
is_new_after t c (Some k) = nat_lt k.request c.request

-- such a command is carried out
abbrev pub is_new : Plain → Command → Bool
is_new t c = is_new_after t c (find (is_client c.client) t.clients)

-- the bytes that a lock's holder stores: those given by a conversion that is granted downward, and by the release of a lock that holds PW or EX
abbrev pub stored_from : Action → Answer → LockState → Option (List ℕ)
stored_from (Convert lock mode no_queue value) a state = if is_granted a && is_downward mode state then value else None
stored_from (Release lock value) a state = if is_released a && is_writer state then value else None
stored_from _ a state = None

-- the record of the lock that is converted or released
abbrev pub stored_through : List LockRecord → Action → Option LockRecord
stored_through locks (Convert lock mode no_queue value) = lock_in locks lock
stored_through locks (Release lock value) = lock_in locks lock
stored_through locks _ = None

-- they are stored under the lock's name
abbrev pub stored_of : Option LockRecord → Action → Answer → List ℕ → Option (List ℕ)
stored_of None action a name = None
stored_of (Some r) action a name = if same_name name r.name then stored_from action a r.state else None

-- the bytes that a command stores under a name
abbrev pub stored_under : Plain → Command → List ℕ → Option (List ℕ)
stored_under t c name =
    if is_new t c then stored_of (stored_through t.locks c.action) c.action (applied t c).reply.answer name else None

-- a purge takes a lock of the name away that holds PW or EX
abbrev pub takes_writer : List LockRecord → Action → List ℕ → Bool
takes_writer locks (Purge host) name = list_any (λ r. is_on name r && (is_through host r && is_writer r.state)) locks
takes_writer locks _ name = false

abbrev pub purges_writer : Plain → Command → List ℕ → Bool
purges_writer t c name = is_new t c && takes_writer t.locks c.action name

-- the name has a lock
abbrev pub is_locked_in : Plain → List ℕ → Bool
is_locked_in t name = list_any (is_on name) t.locks

-- after each of the commands the name has a lock, and none of them stores a value under it
abbrev pub StaysLocked : List ℕ → Plain → List Command → Type 0
StaysLocked name t [] = ⊤
StaysLocked name t (c ∷ commands) =
    (stored_under t c name ≡ None) × (is_locked_in (applied t c).table name ≡ true) × StaysLocked name (applied t c).table commands

-- one of them purges a lock of the name that holds PW or EX
abbrev pub purged_along : List ℕ → Plain → List Command → Bool
purged_along name t [] = false
purged_along name t (c ∷ commands) = purges_writer t c name || purged_along name (applied t c).table commands
