use Rattle.std.proofs.Common.{◌<◌, ℕ}
use Rattle.lock_command.specs.declared.record.LockRecord.{LockRecord}
use Rattle.c_host.specs.Views.{IsAt}
use Rattle.c_epochs.proofs.showing.place_of.Given as goal

-- none below the place has the number
abbrev pub invariant-loop-place : goal.invariant-loop-place
invariant-loop-place l = (at : ℕ) (found : LockRecord) → at < l.place → IsAt l.locks l.lock at found → ⊥
