use Rattle.std.proofs.Common.{◌≡◌, inl, inr, length, arith}
use Rattle.lock_script.proofs.GivenLemmas.{one_more, no_byte, whole_read, one_left, other_length}
use Rattle.lock_script.proofs.digits.given_of.Goals.{then-word-lt2-via-then-word-lt2, then-word-lt2-via-else-word-lt2+then-word}
use Rattle.lock_script.proofs.digits.given_of.Goals as goal

pub returns-then-word-lt2 : goal.returns-then-word-lt2
returns-then-word-lt2 c =
    elim c.then-word-lt2.branch [
      | then-word-lt2-via-then-word-lt2 w ↦ other_length c.args.word.now (inl w.if-word-lt2.true)
      | then-word-lt2-via-else-word-lt2+then-word w ↦ other_length c.args.word.now (inr w.if-word.true)
    ]

pub returns-in_default-byte_of : goal.returns-in_default-byte_of
returns-in_default-byte_of c = no_byte c.args.word.now c.loop-rest.bytes.items c.loop-rest.rest.now c.in-len2-up.len_at_least c.loop-rest.invariant c.in_default-byte_of.ensures

pub loop-rest-preserved : goal.loop-rest-preserved
loop-rest-preserved c =
    rw c.in_ok-push.ensures.items (one_more c.args.word.now c.loop-rest.bytes.items c.loop-rest.rest.now c.in-Some.byte c.in-len2-up.len_at_least c.loop-rest.invariant c.in-Some.ensures)

pub returns-then-is_empty : goal.returns-then-is_empty
returns-then-is_empty c =
    let none : length c.loop-rest.rest.now ≡ 0 = grind (arith, c.is_empty.ensures, c.if-is_empty.true) in
    let read = whole_read c.args.word.now c.loop-rest.bytes.items c.loop-rest.rest.now none c.if-word-lt2.false c.if-word.false c.loop-rest.invariant in
    cc

pub returns-else-is_empty : goal.returns-else-is_empty
returns-else-is_empty c =
    let one : length c.loop-rest.rest.now ≡ 1 = grind (arith, c.is_empty.ensures, c.if-is_empty.false, c.in_default.len_below) in
    one_left c.args.word.now c.loop-rest.bytes.items c.loop-rest.rest.now one c.loop-rest.invariant
