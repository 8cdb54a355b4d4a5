use Rattle.std.proofs.Common.{◌≡◌, ◌<◌, ◌-◌, suc, not, length, ap, ◌∙◌, arith}
use Rattle.lock_command.specs.Locks.{is_through}
use Rattle.lock_index.specs.Shelved.{no_lock}
use Rattle.lock_index.proofs.Partly.{partly, taken_none, taken_next, taken_last}
use Rattle.lock_index.proofs.by_lock_number.keep_others.Goals as goal

pub loop-end-init : goal.loop-end-init
loop-end-init c =
    let others = c.through_end-end.ensures.others in
    record {
      left = taken_none (is_through c.args.host) c.args.numbers.now c.through_end-end.result (omega (arith, c.through_end-end.ensures.bound, c.len.ensures.len))
          (λ k d from to. others k d from (omega (arith, to, c.len.ensures.len)));
      inside = omega (arith, c.through_end-end.ensures.bound, c.len.ensures.len);
      last = c.through_end-end.ensures.last;
    }

pub loop-end-preserved : goal.loop-end-preserved
loop-end-preserved c =
    let xs = c.args.numbers.now in
    let k = c.loop-end.end - 1 in
    let next = c.through_end-end-in-loop-end in
    let inside : k < length xs = omega (arith, c.loop-end-test.true, c.loop-end.invariant.inside) in
    let one : c.loop-end.end ≡ suc k = omega (arith, c.loop-end-test.true) in
    let now : c.loop-end.numbers ≡ partly (λ r. not (is_through c.args.host r)) xs (suc k) = c.loop-end.invariant.left ∙ ap (partly (λ r. not (is_through c.args.host r)) xs) one in
    let goes = c.loop-end.invariant.last (omega (arith, c.loop-end-test.true)) in
    record {
      left = taken_next (is_through c.args.host) xs c.loop-end.numbers c.remove.new.self k inside goes now c.remove.ensures next.result no_lock next.ensures.bound next.ensures.others;
      inside = omega (arith, next.ensures.bound, inside);
      last = taken_last (is_through c.args.host) xs c.loop-end.numbers c.remove.new.self k inside goes now c.remove.ensures next.result next.ensures.bound next.ensures.last;
    }
