use Rattle.std.proofs.Common.{◌≡◌, ◌≤◌, ◌<◌, ◌-◌, true, not, length, get_or}
use Rattle.lock_command.specs.declared.record.LockRecord.{LockRecord}
use Rattle.lock_command.specs.Locks.{is_through}
use Rattle.lock_index.proofs.Partly.{partly}
use Rattle.lock_index.proofs.by_lock_number.keep_others.Given as goal

-- of what is behind is left what has to be, and in front the last one goes next
abbrev pub invariant-loop-end : goal.invariant-loop-end
invariant-loop-end l = record {
  left : l.numbers ≡ partly (λ r. not (is_through l.host r)) l.initial.numbers l.end;
  inside : l.end ≤ length l.initial.numbers;
  last : 0 < l.end → (d : LockRecord) → is_through l.host (get_or l.initial.numbers (l.end - 1) d) ≡ true;
}

abbrev pub decreases-loop-end : goal.decreases-loop-end
decreases-loop-end l = l.end
