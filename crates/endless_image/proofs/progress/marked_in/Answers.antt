use Rattle.std.proofs.Common.{◌≡◌, ◌∙◌, Some, ap, subst, arith}
use Rattle.endless_image.specs.declared.header.EndlessHeader.{EndlessHeader}
use Rattle.endless_image.specs.InPlace.{IsUnfinished}
use Rattle.endless_image.proofs.ProgressLaws.{marked_by, marked_right, unfinished_own, mark_there}
use Rattle.endless_image.proofs.progress.marked_in.Goals as goal

pub returns-then-bytes-eq0 : goal.returns-then-bytes-eq0
returns-then-bytes-eq0 c = λ header. (
  (λ e. absurd cc),
  (λ is. absurd (mark_there c.args.disk c.args.long c.args.bytes.now header is c.if-bytes-eq0.true)),
)

pub returns-in_default : goal.returns-in_default
returns-in_default c = λ header. (
  (λ e. absurd cc),
  (λ is. let wrong = c.in_default.ensures.only header (marked_right c.args.disk c.args.long c.args.bytes.now c.told-bytes c.told_size-own.result header c.told_size-own.ensures is) in absurd cc),
)

pub returns-then-header-ne0 : goal.returns-then-header-ne0
returns-then-header-ne0 c = λ header. (
  (λ e. absurd cc),
  (λ is.
      let found = c.in-Ok.ensures.only header (marked_right c.args.disk c.args.long c.args.bytes.now c.told-bytes c.told_size-own.result header c.told_size-own.ensures is) in
      let same : c.in-Ok.header ≡ header = cc found in absurd (c.if-header-ne0.true (ap (λ (h : EndlessHeader). h.first_epoch) same ∙ is.first))),
)

pub returns-then-long-own : goal.returns-then-long-own
returns-then-long-own c = λ header. (
  (λ e. absurd cc),
  (λ is. absurd (omega (arith, c.if-long-own.true, unfinished_own c.args.disk c.args.long c.args.bytes.now c.told-bytes c.told_size-own.result header c.told_size-own.ensures is))),
)

pub returns : goal.returns
returns c =
    let is_marked = marked_by c.args.disk c.args.long c.args.bytes.now c.told-bytes c.told_size-own.result c.in-Ok.header c.in-Ok.ensures.right c.if-header-ne0.false c.if-bytes-eq0.false c.if-long-own.false in
    λ header. (
      (λ e. let same : c.in-Ok.header ≡ header = cc e in subst (IsUnfinished c.args.disk c.args.long c.args.bytes.now) same is_marked),
      (λ is.
          let found = c.in-Ok.ensures.only header (marked_right c.args.disk c.args.long c.args.bytes.now c.told-bytes c.told_size-own.result header c.told_size-own.ensures is) in
          let same : c.in-Ok.header ≡ header = cc found in ap (λ (h : EndlessHeader). Some h) same),
    )
