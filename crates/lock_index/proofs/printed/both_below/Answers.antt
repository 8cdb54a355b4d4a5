use Rattle.std.proofs.Common.{◌≡◌, ◌+◌, ℕ, nat_lt, subst, arith}
use Rattle.lock_index.specs.Keys.{lock_key}
use Rattle.lock_index.specs.Shelved.{no_lock}
use Rattle.lock_index.proofs.Below.{below_partitioned}
use Rattle.lock_index.proofs.Quarters.{IsCounted, counted_on}
use Rattle.lock_index.proofs.printed.both_below.Goals as goal

pub loop-at-preserved : goal.loop-at-preserved
loop-at-preserved c =
    let xs = c.args.printed.now in
    let at = c.loop-at.at in
    let first = c.loop-left.first in
    let second = c.loop-left.second in
    let next : first + at + 1 ≡ first + (at + 1) = omega arith in
    let next_too : second + at + 1 ≡ second + (at + 1) = omega arith in
    record {
      one = subst (λ (k : ℕ). IsCounted (λ r. nat_lt (lock_key r) c.args.one) xs (c.loop-at.place + c.below-place.result) k) next
          (counted_on (λ r. nat_lt (lock_key r) c.args.one) xs (below_partitioned xs c.len-left.ensures.fit c.args.one c.requires.sorted) no_lock first c.loop-left.left c.loop-left.invariant.one
          c.loop-at.place (first + at) c.loop-at.invariant.one (omega (arith, c.loop-at-test.true)) c.below-place.result (c.below-place.ensures.below no_lock));
      other = subst (λ (k : ℕ). IsCounted (λ r. nat_lt (lock_key r) c.args.other) xs (c.loop-at.place_too + c.below-place_too.result) k) next_too
          (counted_on (λ r. nat_lt (lock_key r) c.args.other) xs (below_partitioned xs c.len-left.ensures.fit c.args.other c.requires.sorted) no_lock second c.loop-left.left c.loop-left.invariant.other
          c.loop-at.place_too (second + at) c.loop-at.invariant.other (omega (arith, c.loop-at-test.true)) c.below-place_too.result (c.below-place_too.ensures.below no_lock));
    }
