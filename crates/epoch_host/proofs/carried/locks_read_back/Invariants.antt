use Rattle.std.specs.Prelude.{slice_get}
use Rattle.std.proofs.Common.{◌<◌, ◌≡◌, ℕ, Some}
use Rattle.lock_command.specs.Command.{spelling}
use Rattle.lock_command.specs.Reading.{decoded}
use Rattle.lock_command.specs.declared.record.LockRecord.{LockRecord}
use Rattle.lock_command.specs.declared.reply.LockValue.{LockValue}
use Rattle.lock_table.specs.Carrying.{carried_lock}
use Rattle.epoch_host.proofs.carried.locks_read_back.Given as goal

-- the commands of the locks so far read back
abbrev pub invariant-loop-at : goal.invariant-loop-at
invariant-loop-at l = (k : ℕ) (r : LockRecord) (v : LockValue) → k < l.at → slice_get l.locks k ≡ Some r → slice_get l.values k ≡ Some v → decoded (spelling (carried_lock r v)) ≡ Some (carried_lock r v)
