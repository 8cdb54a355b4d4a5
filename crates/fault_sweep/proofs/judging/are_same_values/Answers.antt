use Rattle.std.proofs.Common.{◌<◌, length, false, [], get_or, refl, arith}
use Rattle.std.proofs.lemmas.List.{get_or_default}
use Rattle.lock_command.specs.declared.reply.LockValue.{LockValue}
use Rattle.fault_sweep.proofs.Comparing.{one_same, all_same}
use Rattle.fault_sweep.proofs.judging.are_same_values.Goals as goal

-- what stands where a list of values has none
abbrev no_value : LockValue
no_value = record { bytes = []; valid = false }

pub loop-at-preserved : goal.loop-at-preserved
loop-at-preserved c =
    let a = c.args.a.now in
    let b = c.args.b.now in
    let at = c.loop-at.at in
    let x : LockValue = get_or a at no_value in
    let y : LockValue = get_or b at no_value in
    let below : at < length b = omega (arith, c.loop-at-test.true, c.loop-at.invariant.0) in (
      c.loop-at.invariant.0,
      one_same a b at x y c.loop-at-test.true c.loop-at.invariant.0 (get_or_default a at no_value x c.loop-at-test.true) (get_or_default b at no_value y below) c.loop-at.invariant.1
          (c.is_same_value.ensures.0 c.if-not-is_same_value.false),
    )

pub returns : goal.returns
returns c = ((λ t. all_same c.args.a.now c.args.b.now c.loop-at.at c.loop-at-test.false c.loop-at.invariant.0 c.loop-at.invariant.1), (λ same. refl))
