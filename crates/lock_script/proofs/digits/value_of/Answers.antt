use Rattle.std.proofs.Common.{◌≡◌, ◌<◌, ◌+◌, ◌*◌, Some, length, sym, ap, ◌∙◌, arith}
use Rattle.std.proofs.Math.ListN.{length-set}
use Rattle.lock_script.proofs.ValueLemmas.{next_byte, no_value, value_read, value_length}
use Rattle.lock_script.proofs.digits.value_of.Goals as goal

pub returns-then-word : goal.returns-then-word
returns-then-word c = value_length c.args.word.now c.if-word.true

pub returns-in_err-byte : goal.returns-in_err-byte
returns-in_err-byte c =
    let inside : 2 * c.loop-at.at + 1 < length c.args.word.now = omega (arith, c.loop-at-test.true, c.if-word.false) in
    c.from_residual.ensures ∙ no_value c.args.word.now c.loop-at.bytes c.loop-at.at inside c.loop-at.invariant.read (sym c.in_err-byte.was ∙ c.byte_of.ensures)

pub loop-at-preserved : goal.loop-at-preserved
loop-at-preserved c =
    let inside : 2 * c.loop-at.at + 1 < length c.args.word.now = omega (arith, c.loop-at-test.true, c.if-word.false) in
    let room : c.loop-at.at < length c.loop-at.bytes = omega (arith, c.loop-at-test.true, c.loop-at.invariant.long) in
    record {
      read = next_byte c.args.word.now c.loop-at.bytes c.loop-at.at c.in_ok-byte.byte inside room c.loop-at.invariant.read (sym c.in_ok-byte.was ∙ c.byte_of.ensures);
      long = simp length-set c.loop-at.invariant.long;
    }

pub returns : goal.returns
returns c =
    let end : c.loop-at.at ≡ 16 = omega (arith, c.loop-at-test.false, c.loop-at.auto.at-end) in
    ap Some c.new.ensures.value ∙ value_read c.args.word.now c.loop-at.bytes c.loop-at.at c.if-word.false c.loop-at.invariant.long end c.loop-at.invariant.read
