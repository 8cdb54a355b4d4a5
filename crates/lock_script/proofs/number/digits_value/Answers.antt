use Rattle.std.proofs.lemmas.Grind.{common_steps}
use Rattle.std.proofs.Common.{◌≡◌, ◌≤◌, ◌<◌, ◌+◌, ◌^◌, arith, take, ap, ◌∙◌}
use Rattle.std.specs.Str.Parse.{digits_value}
use Rattle.lock_script.proofs.Numbers.{one_more, too_much}
use Rattle.lock_script.proofs.number.digits_value.Goals as goal

pub returns-in_err-checked_mul : goal.returns-in_err-checked_mul
returns-in_err-checked_mul c =
    let more = one_more c.args.digits.now c.loop-digit.digit-index c.loop-digit.value c.requires c.loop-digit-test.true c.loop-digit.invariant.read in
    let much : 2 ^ 64 ≤ digits_value 10 (take (c.loop-digit.digit-index + 1) c.args.digits.now) = omega (arith, more, c.in_err-checked_mul.ensures) in
    too_much c.args.digits.now (c.loop-digit.digit-index + 1) c.from_residual.result c.from_residual.ensures much

pub returns-in_err-value : goal.returns-in_err-value
returns-in_err-value c =
    let more = one_more c.args.digits.now c.loop-digit.digit-index c.loop-digit.value c.requires c.loop-digit-test.true c.loop-digit.invariant.read in
    let much : 2 ^ 64 ≤ digits_value 10 (take (c.loop-digit.digit-index + 1) c.args.digits.now) = omega (arith, more, c.in_err-value.ensures, c.in_ok-checked_mul.ensures, c.from.ensures) in
    too_much c.args.digits.now (c.loop-digit.digit-index + 1) c.from_residual-in_err-value.result c.from_residual-in_err-value.ensures much

pub loop-digit-preserved : goal.loop-digit-preserved
loop-digit-preserved c =
    let more = one_more c.args.digits.now c.loop-digit.digit-index c.loop-digit.value c.requires c.loop-digit-test.true c.loop-digit.invariant.read in
    record { read = omega (arith, more, c.in_ok-value.ensures, c.in_ok-checked_mul.ensures, c.from.ensures); fits = omega (arith, c.in_ok-value.ensures) }

pub returns : goal.returns
returns c =
    let all : take c.loop-digit.digit-index c.args.digits.now ≡ c.args.digits.now = grind (arith, common_steps) in
    let read : c.loop-digit.value ≡ digits_value 10 c.args.digits.now = c.loop-digit.invariant.read ∙ ap (digits_value 10) all in
    let fits : c.loop-digit.value < 2 ^ 64 = c.loop-digit.invariant.fits in
    (omega arith, read)
