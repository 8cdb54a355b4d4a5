-- Locks at places that they keep, the order in which they stand, and their numbers and hosts by place.
use Rattle.std.specs.Prelude.{◌≡◌, ℕ, ◌+◌, ◌≤◌, ◌==◌, nat_le, Bool, cond, List, [], map, filter, length, slice_index, slice_index_or}
use Rattle.lock_command.specs.declared.mode.Mode.TheVariants.{Null}
use Rattle.lock_command.specs.declared.record.LockRecord.{LockRecord}
use Rattle.lock_command.specs.declared.state.LockState.TheVariants.{Waiting}

-- what stands behind the last place
abbrev pub no_lock : LockRecord
no_lock = record { lock = 0; client = 0; host = 0; name = []; state = Waiting Null }

-- the lock at a place
abbrev pub at_place : List LockRecord → ℕ → LockRecord
at_place records place = slice_index_or records place no_lock

-- the locks at several places
abbrev pub at_places : List LockRecord → List ℕ → List LockRecord
at_places records places = map (at_place records) places

-- how often a place is listed
abbrev pub times : ℕ → List ℕ → ℕ
times place places = length (filter (λ p. p == place) places)

-- how often a place is given up, or behind the last
abbrev pub idle : List LockRecord → List ℕ → ℕ → ℕ
idle records free place = times place free + cond (nat_le (length records) place) 1 0

-- each place is in the order once, or given up once, or behind the last
pub record IsShelved (records : List LockRecord) (order free : List ℕ) : Type 0 where
  pub apart : (place : ℕ) → times place order + idle records free place ≤ 1
  pub all : length order + length free ≡ length records

-- beside each place of the order stands the number of its lock, and 0 beside each other place
pub record IsNumbered (records : List LockRecord) (order numbers : List ℕ) : Type 0 where
  pub there : (place : ℕ) → 1 ≤ times place order → slice_index numbers place ≡ (at_place records place).lock
  pub elsewhere : (place : ℕ) → times place order ≡ 0 → slice_index numbers place ≡ 0

-- beside each place of the order stands the host of its lock
pub record IsHosted (records : List LockRecord) (order hosts : List ℕ) : Type 0 where
  pub found : (place : ℕ) → 1 ≤ times place order → slice_index hosts place ≡ (at_place records place).host

-- the lock at a place was enqueued through a host, by what stands beside the place
abbrev pub is_through_host : List ℕ → ℕ → ℕ → Bool
is_through_host hosts host place = slice_index hosts place == host
