use Rattle.std.proofs.Common.{◌≡◌, ◌+◌, ◌∙◌, true, false, length, arith, sym, ap, Err}
use Rattle.lock_script.specs.declared.draft.LineFault.TheVariants.{Bad}
use Rattle.lock_script.specs.declared.script.ScriptFault.TheVariants.{BadLine}
use Rattle.lock_script.specs.Lines.{is_passed_over}
use Rattle.lock_script.specs.Faults.{fault_at}
use Rattle.lock_script.specs.Draft.{so_far}
use Rattle.lock_script.proofs.Progress.{one_passed, one_added, one_refused, is_script, no_cluster}
use Rattle.lock_script.proofs.reading.read_script.Goals as goal

pub lines-preserved-then-is_passed_over : goal.lines-preserved-then-is_passed_over
lines-preserved-then-is_passed_over c =
    let over : is_passed_over c.first_line.result.0.now ≡ true = sym c.is_passed_over.ensures ∙ c.if-is_passed_over.true in
    one_passed c.args.bytes.now c.lines.lines c.lines.rest.now (so_far c.lines.draft) c.lines.invariant c.first_line.result.0.now c.first_line.result.1.now c.first_line.ensures.lines c.first_line.ensures.shorter over

pub lines-preserved : goal.lines-preserved
lines-preserved c =
    let says : is_passed_over c.first_line.result.0.now ≡ false = sym c.is_passed_over.ensures ∙ c.if-is_passed_over.false in
    one_added c.args.bytes.now c.lines.lines c.lines.rest.now (so_far c.lines.draft) c.lines.invariant c.first_line.result.0.now c.first_line.result.1.now c.first_line.ensures.lines c.first_line.ensures.shorter
    (so_far c.add.new.self) says c.in_default.ensures.added

pub returns-in-Err-clause-bad : goal.returns-in-Err-clause-bad
returns-in-Err-clause-bad c = λ n is.
    let says : is_passed_over c.first_line.result.0.now ≡ false = sym c.is_passed_over.ensures ∙ c.if-is_passed_over.false in
    let number : fault_at (c.lines.lines + 1) c.in-Err.fault ≡ BadLine n = cc in
    one_refused c.args.bytes.now c.lines.lines c.lines.rest.now (so_far c.lines.draft) c.lines.invariant c.first_line.result.0.now c.first_line.result.1.now c.first_line.ensures.lines c.first_line.ensures.shorter
    c.in-Err.fault n says (λ bad. c.in-Err.ensures.bad (let same : Err c.in-Err.fault ≡ Err Bad = ap Err bad in same)) number

pub returns-in-Some-clause-script : goal.returns-in-Some-clause-script
returns-in-Some-clause-script c =
    let empty : length c.lines.rest.now ≡ 0 = grind (arith, c.is_empty.ensures, c.lines-test.false) in
    is_script c.args.bytes.now c.lines.lines c.lines.rest.now (so_far c.lines.draft) c.lines.invariant c.in-Some.config empty c.in-Some.is

pub returns-in-None-clause-bad : goal.returns-in-None-clause-bad
returns-in-None-clause-bad c = λ n is.
    let empty : length c.lines.rest.now ≡ 0 = grind (arith, c.is_empty.ensures, c.lines-test.false) in
    let number : c.lines.lines + 1 ≡ n = cc in
    no_cluster c.args.bytes.now c.lines.lines c.lines.rest.now (so_far c.lines.draft) c.lines.invariant n empty c.in-None.is number
