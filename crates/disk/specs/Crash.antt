-- What a crash now may leave of the bytes.
use Rattle.std.specs.Prelude.{◌≡◌, ◌+◌, ◌≤◌, ◌<◌, ℕ, List, length, slice_index}
use Rattle.disk.specs.Disk.{DiskState, KeepsSynced}

-- a crash now may leave these bytes
abbrev pub MayLeave : DiskState → List ℕ → Type 0
MayLeave disk bytes = KeepsSynced disk.unsynced disk.bytes bytes

-- each position has its flag
abbrev pub IsWhole : DiskState → Type 0
IsWhole disk = length disk.unsynced ≡ length disk.bytes

-- only the n positions from `at` on may differ
pub record ChangesOnly (at n : ℕ) (old new : List ℕ) : Type 0 where
  pub as_many : length new ≡ length old
  pub below : (k : ℕ) → k < at → slice_index new k ≡ slice_index old k
  pub above : (k : ℕ) → at + n ≤ k → slice_index new k ≡ slice_index old k
