-- The locks that sessions of a host have in a table, and what became of one that was to be released.
use Rattle.std.specs.Prelude.{◌≡◌, ◌≤◌, ◌<◌, ◌+◌, ◌*◌, ◌%◌, ⊤, ◌==◌, ℕ, Bool, false, List, Option, Some, None, slice_get, min, ◌^◌, ◌-◌}
use Rattle.std.specs.List.{list_any}
use Rattle.lock_command.specs.declared.record.LockRecord.{LockRecord}
use Rattle.lock_table.specs.Picture.{Shown}
use Rattle.session.specs.Numbers.{client_of}
use Rattle.session.specs.declared.outcome.Failure.TheVariants.{Broken}
use Rattle.session.specs.declared.outcome.Outcome.{Outcome}
use Rattle.session.specs.declared.outcome.Outcome.TheVariants.{Held, NotHeld, Given, InDoubt, Failed}
use Rattle.session.specs.declared.outcome.Why.{Why}
use Rattle.session.specs.declared.outcome.Why.TheVariants as why
use Rattle.cleanup.specs.declared.left.Cleanup.{Cleanup}
use Rattle.cleanup.specs.declared.whose.Kind.{Kind}
use Rattle.cleanup.specs.declared.whose.Kind.TheVariants.{All, Shared, Alone}

-- WHOSE LOCKS

-- A session of the host has the lock: through the host, as its client, by one of its 4,000 numbers.
pub record IsOfSessions (host : ℕ) (r : LockRecord) : Type 0 where
  pub client : r.client ≡ client_of host
  pub through : r.host ≡ host
  pub above : 1536 + 4000 * host ≤ r.lock
  pub below : r.lock < 1536 + 4000 * host + 4000

-- odd numbers are of sessions that share the host number
abbrev pub IsOfKind : Kind → ℕ → Type 0
IsOfKind All lock = ⊤
IsOfKind Shared lock = (lock % 2 ≡ 1)
IsOfKind Alone lock = (lock % 2 ≡ 0)

-- the number is one of these
abbrev pub is_in : List ℕ → ℕ → Bool
is_in numbers number = list_any (λ (n : ℕ). n == number) numbers

-- It is one of those, none of these, and has this number or a higher one.
pub record IsDue (host : ℕ) (kind : Kind) (ours : List ℕ) (from : ℕ) (r : LockRecord) : Type 0 where
  pub of_sessions : IsOfSessions host r
  pub of_kind : IsOfKind kind r.lock
  pub other : is_in ours r.lock ≡ false
  pub not_below : from ≤ r.lock

-- the number is lower than that of the lock, if there is one
abbrev pub IsBelow : ℕ → Option LockRecord → Type 0
IsBelow number None = ⊤
IsBelow number (Some lock) = (number < lock.lock)

-- The table has this lock. It is one of those, and none of these.
pub record IsAmong (table : Shown) (host : ℕ) (kind : Kind) (ours : List ℕ) (r : LockRecord) : Type 0 where
  pub at : ℕ
  pub there : slice_get table.locks at ≡ Some r
  pub of_sessions : IsOfSessions host r
  pub of_kind : IsOfKind kind r.lock
  pub other : is_in ours r.lock ≡ false

-- all of them have lower numbers than this one: they were looked at, or came into the table later under a number that was passed
abbrev pub AllPassed : Shown → ℕ → Kind → List ℕ → ℕ → Type 0
AllPassed table host kind ours from = (r : LockRecord) → IsAmong table host kind ours r → r.lock < from

-- It is the first of them from this number on.
pub record IsFirstFrom (table : Shown) (host : ℕ) (kind : Kind) (ours : List ℕ) (from : ℕ) (r : LockRecord) : Type 0 where
  pub among : IsAmong table host kind ours r
  pub not_below : from ≤ r.lock
  pub first : (other : LockRecord) → IsAmong table host kind ours other → from ≤ other.lock → r.lock ≤ other.lock

-- WHAT BECAME OF IT

-- why the lock stays, if it does
abbrev pub left_by : Outcome → Option Why
left_by (NotHeld reason) = None
left_by (Given slot) = None
left_by (InDoubt reason) = Some reason
left_by (Failed reason) = Some reason
left_by Held = Some (why.Failed Broken)

-- one more, as far as there are numbers
abbrev pub one_more : ℕ → ℕ
one_more n = min (2 ^ 32 - 1) (n + 1)

-- The lock was looked at. It counts as released, or as one that stays.
abbrev pub counted : Cleanup → ℕ → Option Why → Cleanup
counted c lock None = record c { from = lock + 1; released = one_more c.released }
counted c lock (Some reason) = record c { from = lock + 1; stay = one_more c.stay }
