use Rattle.std.proofs.Common.{◌≡◌, ◌≤◌, ◌<◌, ◌+◌, ◌-◌, ℕ, List, true, not, length, get_or, vec_len, vec_capacity}
use Rattle.std.specs.List.{list_any}
use Rattle.lock_command.specs.Name.{same_name}
use Rattle.lock_command.specs.declared.record.LockRecord.{LockRecord}
use Rattle.lock_command.specs.Locks.{is_on, is_through}
use Rattle.lock_index.proofs.Partly.{partly, behind}
use Rattle.lock_index.proofs.purge.take_through.Given as goal

-- of what is behind is left what has to be, and the others are counted and their names listed; in front the last one goes next
abbrev pub invariant-loop-end : goal.invariant-loop-end
invariant-loop-end l = record {
  left : l.locks ≡ partly (λ r. not (is_through l.host r)) l.initial.locks l.end;
  inside : l.end ≤ length l.initial.locks;
  last : 0 < l.end → (d : LockRecord) → is_through l.host (get_or l.initial.locks (l.end - 1) d) ≡ true;
  count : l.count ≡ length (behind (is_through l.host) l.initial.locks l.end);
  names : (name : List ℕ) → list_any (λ n. same_name n name) l.names.items ≡ list_any (is_on name) (behind (is_through l.host) l.initial.locks l.end);
  few : vec_len l.names + l.end ≤ length l.initial.locks;
  room : vec_capacity l.fn.names ≤ vec_capacity l.names;
}

abbrev pub decreases-loop-end : goal.decreases-loop-end
decreases-loop-end l = l.end
