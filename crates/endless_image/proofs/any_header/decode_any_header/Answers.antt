use Rattle.std.proofs.Common.{◌≡◌, Ok, Err, ap, inl, inr, arith}
use Rattle.disk.specs.declared.fault.ImageFault.{ImageFault}
use Rattle.disk.specs.declared.fault.ImageFault.TheVariants.{NotFormatted, WrongHeader}
use Rattle.endless_image.specs.declared.any_header.AnyHeader.{AnyHeader}
use Rattle.endless_image.specs.declared.any_header.AnyHeader.TheVariants.{Ending, Endless}
use Rattle.endless_image.proofs.KindLaws.{one_kind, any_gate, long_enough, neither}
use Rattle.endless_image.proofs.any_header.decode_any_header.Goals as goal

pub returns-in-Ok-clause-only : goal.returns-in-Ok-clause-only
returns-in-Ok-clause-only c = λ header is. ap (λ (h : AnyHeader). Ok h) (one_kind c.args.disk c.args.long c.args.bytes.now (Endless c.in-Ok.header) header c.in-Ok.ensures.right is)

pub returns-in-Ok-clause-not_formatted : goal.returns-in-Ok-clause-not_formatted
returns-in-Ok-clause-not_formatted c = ((λ e. absurd cc), (λ closed. absurd (closed.1 (any_gate c.args.disk c.args.long c.args.bytes.now (Endless c.in-Ok.header) c.in-Ok.ensures.right))))

pub returns-in-Ok-clause-wrong_header : goal.returns-in-Ok-clause-wrong_header
returns-in-Ok-clause-wrong_header c = (
  (λ e. absurd cc),
  (λ wrong.
      elim wrong [
        | inl short ↦ absurd (omega (arith, short, long_enough c.args.disk c.args.long c.args.bytes.now (Endless c.in-Ok.header) c.in-Ok.ensures.right))
        | inr none ↦ absurd (none.wrong (Endless c.in-Ok.header) c.in-Ok.ensures.right)
      ]),
)

pub returns-in-Ok-decode_header-clause-only : goal.returns-in-Ok-decode_header-clause-only
returns-in-Ok-decode_header-clause-only c = λ header is. ap (λ (h : AnyHeader). Ok h) (one_kind c.args.disk c.args.long c.args.bytes.now (Ending c.in-Ok-decode_header.header) header c.in-Ok-decode_header.ensures.right is)

pub returns-in-Ok-decode_header-clause-not_formatted : goal.returns-in-Ok-decode_header-clause-not_formatted
returns-in-Ok-decode_header-clause-not_formatted c = ((λ e. absurd cc), (λ closed. absurd (closed.1 (any_gate c.args.disk c.args.long c.args.bytes.now (Ending c.in-Ok-decode_header.header) c.in-Ok-decode_header.ensures.right))))

pub returns-in-Ok-decode_header-clause-wrong_header : goal.returns-in-Ok-decode_header-clause-wrong_header
returns-in-Ok-decode_header-clause-wrong_header c = (
  (λ e. absurd cc),
  (λ wrong.
      elim wrong [
        | inl short ↦ absurd (omega (arith, short, long_enough c.args.disk c.args.long c.args.bytes.now (Ending c.in-Ok-decode_header.header) c.in-Ok-decode_header.ensures.right))
        | inr none ↦ absurd (none.wrong (Ending c.in-Ok-decode_header.header) c.in-Ok-decode_header.ensures.right)
      ]),
)

pub returns-in-Err-clause-only : goal.returns-in-Err-clause-only
returns-in-Err-clause-only c = λ header is.
    absurd (neither c.args.disk c.args.long c.args.bytes.now (λ h right. let wrong = c.in_default.ensures.only h right in absurd cc) (λ h right. let wrong = c.in-Err.ensures.only h right in absurd cc) header is)

pub returns-in-Err-clause-not_formatted : goal.returns-in-Err-clause-not_formatted
returns-in-Err-clause-not_formatted c = (
  (λ e. let same : c.in-Err.fault ≡ NotFormatted = cc e in c.in-Err.ensures.not_formatted.0 (ap (λ (f : ImageFault). Err f) same)),
  (λ closed. let found = c.in-Err.ensures.not_formatted.1 closed in let same : c.in-Err.fault ≡ NotFormatted = cc found in ap (λ (f : ImageFault). Err f) same),
)

pub returns-in-Err-clause-wrong_header : goal.returns-in-Err-clause-wrong_header
returns-in-Err-clause-wrong_header c = (
  (λ e.
      let same : c.in-Err.fault ≡ WrongHeader = cc e in
      elim (c.in-Err.ensures.wrong_header.0 (ap (λ (f : ImageFault). Err f) same)) [
        | inl short ↦ inl short
        | inr none ↦
            inr
            (record { formatted = none.formatted; wrong = neither c.args.disk c.args.long c.args.bytes.now (λ h right. let wrong = c.in_default.ensures.only h right in absurd cc) none.wrong })
      ]),
  (λ wrong.
      let same : c.in-Err.fault ≡ WrongHeader =
      elim wrong [
        | inl short ↦ (let found = c.in-Err.ensures.wrong_header.1 (inl short) in cc found)
        | inr none ↦ (let found = c.in-Err.ensures.wrong_header.1 (inr (record { formatted = none.formatted; wrong = λ h right. none.wrong (Ending h) right })) in cc found)
      ] in
      ap (λ (f : ImageFault). Err f) same),
)
