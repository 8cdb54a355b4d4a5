use Rattle.std.proofs.Common.{◌<◌, ◌≡◌, ℕ, Some}
use Rattle.std.specs.Prelude.{slice_get}
use Rattle.lock_command.specs.declared.record.LockRecord.{LockRecord}
use Rattle.session.specs.Evidence.{IsOf}
use Rattle.session.proofs.evidence.find.Given as goal

-- none below the place is the claimed lock
abbrev pub invariant-loop-at : goal.invariant-loop-at
invariant-loop-at l = (at : ℕ) (found : LockRecord) → at < l.at → slice_get l.locks at ≡ Some found → IsOf l.claim found → ⊥
