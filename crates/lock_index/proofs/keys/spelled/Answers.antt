use Rattle.std.proofs.Common.{◌≡◌, ◌≤◌, ◌+◌, ◌*◌, suc, refl, ap, ◌∙◌, arith}
use Rattle.lock_index.specs.Keys.{spelled}
use Rattle.lock_index.proofs.Spelled.{weight, weight_rises}
use Rattle.lock_index.proofs.keys.spelled.Goals as goal

pub loop-at-init : goal.loop-at-init
unfolding spelled
loop-at-init c = record { key = refl; small = omega arith }

pub overflow_mul-key : goal.overflow_mul-key
overflow_mul-key c =
    let few : weight c.loop-at.at ≤ weight 14 = weight_rises c.loop-at.at 14 (omega (arith, c.loop-at-test.true)) in
    omega (arith, few, c.loop-at.invariant.small)

pub overflow_add-key : goal.overflow_add-key
overflow_add-key c =
    let few : weight c.loop-at.at ≤ weight 14 = weight_rises c.loop-at.at 14 (omega (arith, c.loop-at-test.true)) in
    omega (arith, few, c.loop-at.invariant.small, c.from.ensures, c.byte_at.type_inv)

pub loop-at-preserved : goal.loop-at-preserved
unfolding spelled
loop-at-preserved c =
    let next : suc c.loop-at.at ≡ c.loop-at.at + 1 = omega arith in
    let more : weight (suc c.loop-at.at) ≡ weight (c.loop-at.at + 1) = ap weight next in
    record {
      key = (λ i. c.loop-at.invariant.key i * 128 + (c.from.ensures ∙ c.byte_at.ensures) i) ∙ ap (λ n. spelled n c.args.bytes.now) next;
      small = omega (arith, more, c.loop-at.invariant.small, c.from.ensures, c.byte_at.type_inv);
    }
