use Rattle.std.proofs.Common.{nat_lt}
use Rattle.lock_index.specs.Keys.{lock_key}
use Rattle.lock_index.specs.Narrowed.{IsNarrowed}
use Rattle.lock_index.proofs.printed.end_within.Given as goal

abbrev pub invariant-loop-size : goal.invariant-loop-size
invariant-loop-size l = IsNarrowed (λ r. nat_lt (lock_key r) l.key) l.printed l.from l.size

abbrev pub decreases-loop-size : goal.decreases-loop-size
decreases-loop-size l = l.size
