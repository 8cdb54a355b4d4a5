use Rattle.std.proofs.Common.{◌≡◌, ◌<◌, ◌-◌, nat_lt, true, false, length, get_or, arith}
use Rattle.std.specs.List.{AllWithin}
use Rattle.std.proofs.lemmas.List.{get_or_default}
use Rattle.lock_index.specs.Shelved.{no_lock}
use Rattle.lock_index.proofs.Shown.{lock_of}
use Rattle.lock_index.proofs.Keyed.{key_partitioned}
use Rattle.lock_index.proofs.Quarters.{passes_before, fails_behind}
use Rattle.lock_index.proofs.Stretches.{passes_if, fails_if}
use Rattle.lock_index.proofs.by_lock_number.ends_lower.Goals as goal
use Rattle.lock_index.proofs.by_lock_number.ends_lower.Goals.{else-place-gt0-via-then-place-gt0+else-number_below-eq0, else-place-gt0-via-else-place-gt0, else-place-all-2-via-then-place-all-2+else-number_below-eq1, else-place-all-2-via-else-place-all-2}

pub returns-clause-point : goal.returns-clause-point
returns-clause-point c = λ _.
    let xs = c.args.numbers.now in
    let place = c.args.place in
    let lock = c.args.lock in
    let cut = key_partitioned lock_of lock xs c.requires in (
      elim c.else-place-gt0.branch as (λ w. AllWithin (λ r. nat_lt r.lock lock ≡ true) xs 0 place) [
        | else-place-gt0-via-then-place-gt0+else-number_below-eq0 w ↦
            let x = get_or xs (place - 1) no_lock in
            let inside : place - 1 < length xs = omega arith in
            passes_before (λ r. nat_lt r.lock lock) xs cut (place - 1) x (get_or_default xs (place - 1) no_lock x inside) inside
            (passes_if (nat_lt x.lock lock) w.number_below.result (w.number_below.ensures.below no_lock) (omega arith)) place (omega arith)
        | else-place-gt0-via-else-place-gt0 w ↦ λ k d low high. absurd (omega (arith, high))
      ],
      elim c.else-place-all-2.branch as (λ w. AllWithin (λ r. nat_lt r.lock lock ≡ false) xs place (length xs)) [
        | else-place-all-2-via-then-place-all-2+else-number_below-eq1 w ↦
            let x = get_or xs place no_lock in
            let inside : place < length xs = omega arith in
            fails_behind (λ r. nat_lt r.lock lock) xs cut place x (get_or_default xs place no_lock x inside)
            (fails_if (nat_lt x.lock lock) w.number_below-then-place-all-2.result (w.number_below-then-place-all-2.ensures.below no_lock) (omega arith)) place (omega arith)
        | else-place-all-2-via-else-place-all-2 w ↦ λ k d low high. absurd (omega (arith, low, high))
      ],
    )
