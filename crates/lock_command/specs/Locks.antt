-- Of the headline. The locks as one flat list of records, and the queues of a name in it.
use Rattle.std.specs.Prelude.{◌≡◌, ℕ, ◌==◌, Bool, false, not, ◌&&◌, List, [], ◌∷◌, ◌++◌, ◌≤◌, length, filter, find, Option, Some, None, if◌then◌else◌}
use Rattle.std.specs.List.{list_any}
use Rattle.lock_command.specs.declared.mode.Mode.{Mode}
use Rattle.lock_command.specs.Name.{same_name}
use Rattle.lock_command.specs.declared.record.LockRecord.{LockRecord}
use Rattle.lock_command.specs.declared.state.LockState.{LockState}
use Rattle.lock_command.specs.declared.state.LockState.TheVariants.{Granted}
use Rattle.lock_command.specs.State.{is_converting, is_waiting, is_queued, goal_of, holds_against}

-- a record of the lock number
abbrev pub is_lock : ℕ → LockRecord → Bool
is_lock lock r = r.lock == lock

-- a lock that was enqueued through the host
abbrev pub is_through : ℕ → LockRecord → Bool
is_through host r = r.host == host

-- a record on the name
abbrev pub is_on : List ℕ → LockRecord → Bool
is_on name r = same_name r.name name

-- the first, where there is one, else the other
abbrev pub option_or : {A : Type 0} → Option A → Option A → Option A
option_or (Some x) other = Some x
option_or None other = other

-- the record of a lock number
abbrev pub lock_in : List LockRecord → ℕ → Option LockRecord
lock_in locks lock = find (is_lock lock) locks

-- the locks without one
abbrev pub without : List LockRecord → ℕ → List LockRecord
without locks lock = filter (λ r. not (is_lock lock r)) locks

-- A record that is new or has changed stands at the list's end. So it joins a queue behind all others.
abbrev pub put : List LockRecord → LockRecord → List LockRecord
put locks r = without locks r.lock ++ r ∷ []

-- a lock that converts on the name
abbrev pub converts_on : List ℕ → LockRecord → Bool
converts_on name r = is_on name r && is_converting r.state

-- a lock that waits on the name
abbrev pub waits_on : List ℕ → LockRecord → Bool
waits_on name r = is_on name r && is_waiting r.state

-- the conversion queue of a name: its conversions, in the list's order
abbrev pub conversions : List LockRecord → List ℕ → List LockRecord
conversions locks name = filter (converts_on name) locks

-- its waiting queue: its waiting locks, in the list's order
abbrev pub waiting : List LockRecord → List ℕ → List LockRecord
waiting locks name = filter (waits_on name) locks

-- who is looked at in turn: all conversions, then all that wait
abbrev pub queue : List LockRecord → List ℕ → List LockRecord
queue locks name = conversions locks name ++ waiting locks name

-- the lock whose turn it is: the first that converts, else the first that waits
abbrev pub head_of : List LockRecord → List ℕ → Option LockRecord
head_of locks name = option_or (find (converts_on name) locks) (find (waits_on name) locks)

-- a lock converts or waits on the name
abbrev pub has_queue : List LockRecord → List ℕ → Bool
has_queue locks name = list_any (λ r. is_on name r && is_queued r.state) locks

-- another lock of the name, which holds a mode that conflicts with this one
abbrev pub stands_against : ℕ → List ℕ → Mode → LockRecord → Bool
stands_against lock name mode r = is_on name r && (not (is_lock lock r) && holds_against mode r.state)

-- no other lock of the name holds a mode that conflicts with this one
abbrev pub admits : List LockRecord → ℕ → List ℕ → Mode → Bool
admits locks lock name mode = not (list_any (stands_against lock name mode) locks)

-- the same lock in another state
abbrev pub in_state : LockRecord → LockState → LockRecord
in_state r state = record r { state = state }

-- the lock once it holds what it wants
abbrev pub granted : LockRecord → LockRecord
granted r = in_state r (Granted (goal_of r.state))

-- grants from the front of a queue, up to the first lock that has to wait
abbrev pub grant_from : List LockRecord → List LockRecord → List LockRecord
grant_from [] locks = locks
grant_from (r ∷ rest) locks =
    if admits locks r.lock r.name (goal_of r.state) then grant_from rest (put locks (granted r)) else locks

-- the locks after a name is settled
unfoldable pub settled : List LockRecord → List ℕ → List LockRecord
settled locks name = grant_from (queue locks name) locks

-- after several names are, in turn
abbrev pub settled_all : List LockRecord → List (List ℕ) → List LockRecord
settled_all locks [] = locks
settled_all locks (name ∷ names) = settled_all (settled locks name) names

-- the lock whose turn it is on a name could not be granted
abbrev pub IsSettled : List LockRecord → List ℕ → Type 0
IsSettled locks name = (r : LockRecord) → head_of locks name ≡ Some r → admits locks r.lock r.name (goal_of r.state) ≡ false

-- no two records have one lock number
abbrev pub IsDistinct : List LockRecord → Type 0
IsDistinct locks = (lock : ℕ) → length (filter (is_lock lock) locks) ≤ 1
