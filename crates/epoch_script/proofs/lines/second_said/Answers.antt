use Rattle.std.proofs.Common.{◌≡◌, ◌∙◌, true, false, length, arith, sym}
use Rattle.lock_script.specs.Lines.{is_passed_over}
use Rattle.epoch_script.proofs.Seconds.{all_counted, one_counted, one_passed, two_counted}
use Rattle.epoch_script.proofs.lines.second_said.Goals as goal

pub lines-preserved-then-is_passed_over : goal.lines-preserved-then-is_passed_over
lines-preserved-then-is_passed_over c =
    let over : is_passed_over c.first_line.result.0.now ≡ true = sym c.is_passed_over.ensures ∙ c.if-is_passed_over.true in
    one_passed c.args.bytes.now c.lines.number c.lines.rest.now c.lines.one_said c.lines.invariant c.first_line.result.0.now c.first_line.result.1.now c.first_line.ensures.lines c.first_line.ensures.shorter over

pub returns-then-one_said : goal.returns-then-one_said
returns-then-one_said c =
    let says : is_passed_over c.first_line.result.0.now ≡ false = sym c.is_passed_over.ensures ∙ c.if-is_passed_over.false in
    two_counted c.args.bytes.now c.lines.number c.lines.rest.now c.lines.one_said c.lines.invariant c.first_line.result.0.now c.first_line.result.1.now c.first_line.ensures.lines c.first_line.ensures.shorter says c.if-one_said.true

pub lines-preserved : goal.lines-preserved
lines-preserved c =
    let says : is_passed_over c.first_line.result.0.now ≡ false = sym c.is_passed_over.ensures ∙ c.if-is_passed_over.false in
    one_counted c.args.bytes.now c.lines.number c.lines.rest.now c.lines.one_said c.lines.invariant c.first_line.result.0.now c.first_line.result.1.now c.first_line.ensures.lines c.first_line.ensures.shorter says c.if-one_said.false

pub returns : goal.returns
returns c =
    let empty : length c.lines.rest.now ≡ 0 = grind (arith, c.is_empty.ensures, c.lines-test.false) in
    all_counted c.args.bytes.now c.lines.number c.lines.rest.now c.lines.one_said c.lines.invariant empty
