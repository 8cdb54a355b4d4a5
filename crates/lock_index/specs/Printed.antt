-- The order in which locks are printed, and which lists of locks are printed alike.
use Rattle.std.specs.Prelude.{◌≡◌, ℕ, List, filter}
use Rattle.std.specs.Ordering.{nat_cmp, ordering_then}
use Rattle.std.specs.Cmp.Lexicographic.{slice_cmp}
use Rattle.std.specs.declared.cmp.Ordering.{Ordering}
use Rattle.lock_command.specs.declared.record.LockRecord.{LockRecord}
use Rattle.lock_command.specs.declared.state.LockState.{LockState}
use Rattle.lock_command.specs.declared.state.LockState.TheVariants.{Granted, Converting, Waiting}
use Rattle.lock_command.specs.Locks.{is_lock, conversions, waiting}

-- granted locks stand before converting ones, and these before those that wait
abbrev pub rank_of : LockState → ℕ
rank_of (Granted mode) = 0
rank_of (Converting held wanted) = 1
rank_of (Waiting wanted) = 2

-- granted locks stand by rising number, the others as they queue
abbrev pub number_among : LockState → ℕ → ℕ
number_among (Granted mode) lock = lock
number_among (Converting held wanted) lock = 0
number_among (Waiting wanted) lock = 0

-- by the names' bytes, then by what the locks hold and want, then by number
abbrev pub printed_cmp : LockRecord → LockRecord → Ordering
printed_cmp a b =
    ordering_then (slice_cmp nat_cmp a.name b.name)
    (ordering_then (nat_cmp (rank_of a.state) (rank_of b.state)) (nat_cmp (number_among a.state a.lock) (number_among b.state b.lock)))

-- under each lock number the same records, and in each queue the same in the same order
pub record HasSameLocks (shown locks : List LockRecord) : Type 0 where
  pub numbers : (lock : ℕ) → filter (is_lock lock) shown ≡ filter (is_lock lock) locks
  pub conversions : (name : List ℕ) → conversions shown name ≡ conversions locks name
  pub waiting : (name : List ℕ) → waiting shown name ≡ waiting locks name
