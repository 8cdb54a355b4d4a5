-- How the values of names are kept: those that were stored, by rising name, for names that have locks.
use Rattle.std.specs.Prelude.{◌≡◌, ◌≤◌, ℕ, Bool, true, false, not, is_none, List, length, filter, find, Option, Some, None, if◌then◌else◌}
use Rattle.std.specs.List.{list_any, HoldsAt}
use Rattle.std.specs.List.Sorted.{IsSorted, IsPartitionPoint}
use Rattle.std.specs.Ordering.{nat_cmp}
use Rattle.std.specs.Cmp.Lexicographic.{slice_cmp}
use Rattle.std.specs.declared.cmp.Ordering.{Ordering}
use Rattle.std.specs.declared.cmp.Ordering.TheVariants.{Less, Equal, Greater}
use Rattle.lock_command.specs.Name.{same_name}
use Rattle.lock_command.specs.declared.command.Action.{Action}
use Rattle.lock_command.specs.declared.command.Action.TheVariants.{Enqueue, Convert, Release, Cancel, Status, Purge, QuietPurge, Forget, CarryLock, CarryClient}
use Rattle.lock_command.specs.declared.record.LockRecord.{LockRecord}
use Rattle.lock_command.specs.declared.state.LockState.{LockState}
use Rattle.lock_command.specs.declared.reply.Answer.{Answer}
use Rattle.lock_command.specs.declared.reply.LockValue.{LockValue}
use Rattle.lock_table.specs.declared.values.NamedValue.{NamedValue}
use Rattle.lock_table.specs.declared.known_client.KnownClient.{KnownClient}
use Rattle.lock_table.specs.Apply.{Plain}
use Rattle.lock_table.specs.Picture.{Shown, values_beside}
use Rattle.lock_index.specs.Placed.{placed}
use Rattle.lock_command.specs.Locks.{is_on, lock_in}
use Rattle.lock_table.specs.Values.{Values, zeros, is_downward, spoiled, is_granted, is_released, value_of_lock}
use Rattle.lock_command.specs.State.{is_writer}

-- an entry of the name
abbrev pub is_of : List ℕ → NamedValue → Bool
is_of name e = same_name e.name name

-- the value of an entry, or zeros where there is none
abbrev pub value_or_zeros : Option NamedValue → LockValue
value_or_zeros None = zeros
value_or_zeros (Some e) = e.value

-- the value of each name
abbrev pub value_in : List NamedValue → Values
value_in entries name = value_or_zeros (find (is_of name) entries)

-- by the bytes of the names
abbrev pub name_cmp : NamedValue → NamedValue → Ordering
name_cmp a b = slice_cmp nat_cmp a.name b.name

-- an entry in place of that of its name, where names rise
abbrev pub put_value : List NamedValue → NamedValue → List NamedValue
put_value entries e = placed name_cmp e (filter (λ o. not (is_of e.name o)) entries)

-- the name of the entry has locks
abbrev pub is_locked : List LockRecord → NamedValue → Bool
is_locked locks e = list_any (is_on e.name) locks

-- by rising name, one entry a name
pub record AreNamed (entries : List NamedValue) : Type 0 where
  pub rising : IsSorted name_cmp entries
  pub one : (name : List ℕ) → length (filter (is_of name) entries) ≤ 1

-- where the entry of a name stands
abbrev pub StandsAt : List ℕ → List NamedValue → ℕ → Type 0
StandsAt name xs = HoldsAt (λ e. slice_cmp nat_cmp e.name name ≡ Equal) xs

-- where it would, if there is none
abbrev pub WouldStandAt : List ℕ → List NamedValue → ℕ → Type 0
WouldStandAt name xs = IsPartitionPoint (λ e. slice_cmp nat_cmp e.name name ≡ Less) (λ e. slice_cmp nat_cmp e.name name ≡ Greater) xs

-- by rising name, one entry a name, and only names that have locks
pub record IsValued (locks : List LockRecord) (entries : List NamedValue) : Type 0 where
  pub named : AreNamed entries
  pub locked : (name : List ℕ) → list_any (is_of name) entries ≡ true → list_any (is_on name) locks ≡ true

-- what a purge makes invalid, before it takes locks away
abbrev pub spoiled_by : Values → List LockRecord → Action → Values
spoiled_by values locks (Purge host) = spoiled values locks host
spoiled_by values locks _ = values

-- what the others store, once it is known what they did: bytes that were given, where there is a lock whose state lets them be stored
abbrev pub entry_of : (LockState → Bool) → Option LockRecord → Option (List ℕ) → Option NamedValue
entry_of lets None value = None
entry_of lets (Some r) None = None
entry_of lets (Some r) (Some bytes) = if lets r.state then Some (record { name = r.name; value = record { bytes = bytes; valid = true } }) else None

abbrev pub entry_by : Option LockRecord → Action → Answer → Option NamedValue
entry_by found (Enqueue lock name mode no_queue) a = None
entry_by found (Convert lock mode no_queue value) a = if is_granted a then entry_of (is_downward mode) found value else None
entry_by found (Release lock value) a = if is_released a then entry_of is_writer found value else None
entry_by found (Cancel lock) a = None
entry_by found (Status lock) a = None
entry_by found (Purge host) a = None
entry_by found (QuietPurge host) a = None
entry_by found (Forget gone) a = None
entry_by found (CarryLock lock name state value) a = None
entry_by found (CarryClient reply) a = None

-- an action that gives no value, and makes none invalid
abbrev pub gives_nothing : Action → Bool
gives_nothing (Enqueue lock name mode no_queue) = true
gives_nothing (Convert lock mode no_queue value) = is_none value
gives_nothing (Release lock value) = is_none value
gives_nothing (Cancel lock) = true
gives_nothing (Status lock) = true
gives_nothing (Purge host) = false
gives_nothing (QuietPurge host) = true
gives_nothing (Forget gone) = true
gives_nothing (CarryLock lock name state value) = false
gives_nothing (CarryClient reply) = true

-- the entry is put, where there is one
abbrev pub put_if : List NamedValue → Option NamedValue → List NamedValue
put_if entries None = entries
put_if entries (Some e) = put_value entries e

-- the lock that a command is about
abbrev pub asked_lock : List LockRecord → Action → Option LockRecord
asked_lock locks (Convert lock mode no_queue value) = lock_in locks lock
asked_lock locks (Release lock value) = lock_in locks lock
asked_lock locks (Cancel lock) = lock_in locks lock
asked_lock locks (Status lock) = lock_in locks lock
asked_lock locks _ = None

-- the value of its name, where it may be returned
abbrev pub asked_value_by : Values → Option LockRecord → Action → LockValue
asked_value_by values found (Enqueue lock name mode no_queue) = values name
asked_value_by values found (Convert lock mode no_queue value) = value_of_lock values found
asked_value_by values found (Release lock value) = zeros
asked_value_by values found (Cancel lock) = zeros
asked_value_by values found (Status lock) = value_of_lock values found
asked_value_by values found (Purge host) = zeros
asked_value_by values found (QuietPurge host) = zeros
asked_value_by values found (Forget gone) = zeros
asked_value_by values found (CarryLock lock name state value) = values name
asked_value_by values found (CarryClient reply) = zeros

-- the locks, and the entries of their names
pub record Valued : Type 0 where
  pub locks : List LockRecord
  pub entries : List NamedValue

-- all that a table keeps
pub record Kept : Type 0 where
  pub locks : List LockRecord
  pub entries : List NamedValue
  pub clients : List KnownClient

-- the plain table that it stands for, and what it shows
abbrev pub plain_of : Kept → Plain
plain_of kept = record { locks = kept.locks; values = value_in kept.entries; clients = kept.clients }

abbrev pub shown_of : Kept → Shown
shown_of kept = record { locks = kept.locks; values = values_beside (value_in kept.entries) kept.locks; clients = kept.clients }

-- the lock is on the name
abbrev pub is_named : Option LockRecord → List ℕ → Bool
is_named None name = false
is_named (Some r) name = same_name name r.name

-- a command that may take the last lock of the name away
abbrev pub may_lose : Option LockRecord → Action → List ℕ → Bool
may_lose found (Enqueue lock on mode no_queue) name = false
may_lose found (Convert lock mode no_queue value) name = false
may_lose found (Release lock value) name = is_named found name
may_lose found (Cancel lock) name = is_named found name
may_lose found (Status lock) name = false
may_lose found (Purge host) name = true
may_lose found (QuietPurge host) name = true
may_lose found (Forget gone) name = false
may_lose found (CarryLock lock on state value) name = false
may_lose found (CarryClient reply) name = false
