use Rattle.std.proofs.Common.{◌+◌, nat_lt}
use Rattle.lock_index.specs.Keys.{lock_key}
use Rattle.lock_index.specs.Narrowed.{IsNarrowed}
use Rattle.lock_index.proofs.Quarters.{IsCounted}
use Rattle.lock_index.proofs.printed.both_below.Given as goal

abbrev pub invariant-loop-left : goal.invariant-loop-left
invariant-loop-left l = record {
  one : IsNarrowed (λ r. nat_lt (lock_key r) l.one) l.printed l.first l.left;
  other : IsNarrowed (λ r. nat_lt (lock_key r) l.other) l.printed l.second l.left;
}

abbrev pub decreases-loop-left : goal.decreases-loop-left
decreases-loop-left l = l.left

abbrev pub invariant-loop-at : goal.invariant-loop-at
invariant-loop-at l = record {
  one : IsCounted (λ r. nat_lt (lock_key r) l.one) l.printed l.place (l.first + l.at);
  other : IsCounted (λ r. nat_lt (lock_key r) l.other) l.printed l.place_too (l.second + l.at);
}
