use Rattle.std.proofs.Common.{◌<◌, ◌+◌, ◌-◌, ◌/◌, nat_lt, length, arith}
use Rattle.lock_index.specs.Keys.{lock_key}
use Rattle.lock_index.specs.Narrowed.{IsNarrowed}
use Rattle.lock_index.specs.Shelved.{no_lock}
use Rattle.lock_index.proofs.Stretches.{lower_before, none_lower_behind}
use Rattle.lock_index.proofs.printed.end_within.Goals as goal
use Rattle.lock_index.proofs.printed.end_within.Goals.{then-below-eq1, else-below-eq1}

pub loop-size-preserved : goal.loop-size-preserved
loop-size-preserved c =
    let xs = c.args.printed.now in
    let from = c.loop-size.from in
    let size = c.loop-size.size in
    let next = c.if-below-eq1.from in
    let now = c.loop-size.invariant in
    let mid = from + (size - size / 2) - 1 in
    let inside : mid < length xs = omega (arith, c.loop-size-test.true, now.inside) in
    elim c.if-below-eq1.branch as (λ w. IsNarrowed (λ r. nat_lt (lock_key r) c.args.key) xs next (size / 2)) [
      | then-below-eq1 w ↦
          record {
            front = lower_before xs c.requires.fit c.args.key c.requires.sorted mid inside c.below.result (c.below.ensures.below no_lock) next (omega (arith, w.if-below-eq1.true)) (omega (arith, w.from-is, c.loop-size-test.true));
            behind = λ k d low high. now.behind k d (omega (arith, low, w.from-is)) high;
            inside = omega (arith, w.from-is, now.inside);
          }
      | else-below-eq1 w ↦
          record {
            front = λ k d low high. now.front k d low (omega (arith, high, w.from-is));
            behind = none_lower_behind xs c.requires.fit c.args.key c.requires.sorted mid inside c.below.result (c.below.ensures.below no_lock) (next + size / 2) (omega (arith, w.if-below-eq1.false, c.below.ensures.few)) (omega (arith, w.from-is));
            inside = omega (arith, w.from-is, now.inside);
          }
    ]

pub returns-clause-point : goal.returns-clause-point
returns-clause-point c = (c.loop-size.invariant.front, λ k d low high. c.loop-size.invariant.behind k d (omega (arith, low, c.loop-size-test.false)) high)
