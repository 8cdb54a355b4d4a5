use Rattle.std.proofs.Common.{◌≡◌, Some, ap, subst, arith}
use Rattle.paxos_block.specs.declared.header.Header.{Header}
use Rattle.endless_image.specs.InPlace.{IsEnding}
use Rattle.endless_image.proofs.ProgressLaws.{ending_by, ending_own, ending_right}
use Rattle.endless_image.proofs.progress.ending_in.Goals as goal

pub returns-in_default : goal.returns-in_default
returns-in_default c = λ header. (
  (λ e. absurd cc),
  (λ is. let wrong = c.in_default.ensures.only header (ending_right c.args.disk c.args.long c.args.bytes.now c.told_length-own.result header c.told_length-own.ensures is) in absurd cc),
)

pub returns-then-header-lt-LEAST_SLOTS : goal.returns-then-header-lt-LEAST_SLOTS
returns-then-header-lt-LEAST_SLOTS c = λ header. (
  (λ e. absurd cc),
  (λ is.
      let found = c.in-Ok.ensures.only header (ending_right c.args.disk c.args.long c.args.bytes.now c.told_length-own.result header c.told_length-own.ensures is) in
      let same : c.in-Ok.header ≡ header = cc found in absurd (omega (arith, c.if-header-lt-LEAST_SLOTS.true, is.slots, ap (λ (h : Header). h.slots) same))),
)

pub returns-then-long-own : goal.returns-then-long-own
returns-then-long-own c = λ header. (
  (λ e. absurd cc),
  (λ is. absurd (omega (arith, c.if-long-own.true, is.room, c.told_length-own.ensures, ending_own c.args.disk c.args.long c.args.bytes.now header is))),
)

pub returns : goal.returns
returns c =
    let is_ending = ending_by c.args.disk c.args.long c.args.bytes.now c.told_length-own.result c.in-Ok.header c.in-Ok.ensures.right c.if-header-lt-LEAST_SLOTS.false c.if-long-own.false in
    λ header. (
      (λ e. let same : c.in-Ok.header ≡ header = cc e in subst (IsEnding c.args.disk c.args.long c.args.bytes.now) same is_ending),
      (λ is.
          let found = c.in-Ok.ensures.only header (ending_right c.args.disk c.args.long c.args.bytes.now c.told_length-own.result header c.told_length-own.ensures is) in
          let same : c.in-Ok.header ≡ header = cc found in ap (λ (h : Header). Some h) same),
    )
