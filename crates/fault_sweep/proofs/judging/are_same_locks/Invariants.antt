use Rattle.std.proofs.Common.{◌≡◌, length, take}
use Rattle.fault_sweep.proofs.judging.are_same_locks.Given as goal

abbrev pub invariant-loop-at : goal.invariant-loop-at
invariant-loop-at l = (length l.a ≡ length l.b) × (take l.at l.a ≡ take l.at l.b)
