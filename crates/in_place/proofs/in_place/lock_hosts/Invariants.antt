use Rattle.std.proofs.Common.{◌≡◌, ◌≤◌, ℕ, Some, length, slice_get, vec_capacity}
use Rattle.in_place.proofs.in_place.lock_hosts.Given as goal

abbrev pub invariant-loop-number : goal.invariant-loop-number
invariant-loop-number g l = record {
  as_many : length l.locks.items ≡ l.number;
  room : 16 ≤ vec_capacity l.locks;
  each : (k : ℕ) (file : _) → slice_get l.locks.items k ≡ Some file → g.R.File.TryLock.locked file;
}
