use Rattle.std.proofs.Common.{nat_lt}
use Rattle.lock_index.specs.Narrowed.{IsNarrowed}
use Rattle.lock_index.proofs.Quarters.{IsCounted}
use Rattle.lock_index.proofs.by_lock_number.lower_numbers.Given as goal

abbrev pub invariant-loop-size : goal.invariant-loop-size
invariant-loop-size l = IsNarrowed (λ r. nat_lt r.lock l.lock) l.numbers l.from l.size

abbrev pub decreases-loop-size : goal.decreases-loop-size
decreases-loop-size l = l.size

abbrev pub invariant-loop-at : goal.invariant-loop-at
invariant-loop-at l = IsCounted (λ r. nat_lt r.lock l.lock) l.numbers l.place l.at
