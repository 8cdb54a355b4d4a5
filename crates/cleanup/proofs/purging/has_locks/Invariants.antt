use Rattle.std.proofs.Common.{◌<◌, ◌≡◌, ℕ, Some}
use Rattle.std.specs.Prelude.{slice_get}
use Rattle.lock_command.specs.declared.record.LockRecord.{LockRecord}
use Rattle.cleanup.proofs.purging.has_locks.Given as goal

-- none below the place was taken through the host
abbrev pub invariant-loop-at : goal.invariant-loop-at
invariant-loop-at l = (at : ℕ) (found : LockRecord) → at < l.at → slice_get l.locks at ≡ Some found → found.host ≡ l.host → ⊥
