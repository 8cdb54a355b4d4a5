use Rattle.std.proofs.Common.{◌≡◌, false, nat_lt, length, arith}
use Rattle.std.specs.List.{AllWithin}
use Rattle.lock_index.specs.Keys.{lock_key}
use Rattle.lock_index.specs.Shelved.{no_lock}
use Rattle.lock_index.proofs.Stretches.{none_lower_behind}
use Rattle.lock_index.proofs.printed.end_behind.Goals as goal
use Rattle.lock_index.proofs.printed.end_behind.Goals.{then-from-all-via-then-from-all, then-from-all-via-else-from-all+then-below-eq0}

pub returns-then-from-all-clause-point : goal.returns-then-from-all-clause-point
returns-then-from-all-clause-point c = (
  c.requires.front,
  elim c.then-from-all.branch as (λ w. AllWithin (λ r. nat_lt (lock_key r) c.args.key ≡ false) c.args.printed.now c.args.from (length c.args.printed.now)) [
    | then-from-all-via-then-from-all w ↦ λ k d low high. absurd (omega (arith, low, high, w.if-from-all.true, c.len-all.ensures.len))
    | then-from-all-via-else-from-all+then-below-eq0 w ↦
        none_lower_behind c.args.printed.now c.len-all.ensures.fit c.args.key c.requires.sorted c.args.from (omega (arith, w.if-from-all.false, c.len-all.ensures.len)) w.below.result (w.below.ensures.below no_lock) c.args.from
        (omega (arith, w.if-below-eq0.true)) (omega arith)
  ],
)
