use Rattle.std.proofs.Common.{◌≡◌, ◌-◌, length, drop, Some}
use Rattle.std.specs.List.{find}
use Rattle.lock_command.specs.Locks.{is_lock}
use Rattle.lock_index.proofs.printed.own_from.Given as goal

-- the record is among the rest
abbrev pub invariant-loop-at : goal.invariant-loop-at
invariant-loop-at l = find (is_lock l.own.lock) (drop l.at l.printed) ≡ Some l.own

abbrev pub decreases-loop-at : goal.decreases-loop-at
decreases-loop-at l = length l.printed - l.at
