use Rattle.std.proofs.Common.{◌≡◌, ◌∙◌, Ok, Err, sym, ap, subst}
use Rattle.endless_image.specs.declared.fault.HeaderFault.{HeaderFault}
use Rattle.endless_image.specs.declared.header.EndlessHeader.{EndlessHeader}
use Rattle.endless_image.specs.Headers.{IsRight, IsFirst, header_in}
use Rattle.endless_image.proofs.HeaderLaws.{one_header, right_lacks}
use Rattle.endless_image.proofs.header.decode_endless_header.Goals as goal

first : (c : goal.In-Some) → IsFirst c.args.disk c.args.long c.args.bytes.now c.in-Some.fault
first c = (c.first_fault.ensures.told c.in-Some.fault).0 c.in-Some.is

pub returns-in-Some-clause-only : goal.returns-in-Some-clause-only
returns-in-Some-clause-only c = λ header right. absurd (right_lacks c.args.disk c.args.long c.args.bytes.now header right c.in-Some.fault (first c).has)

pub returns-in-Some-clause-told : goal.returns-in-Some-clause-told
returns-in-Some-clause-told c = λ fault. (
  (λ is. let same : c.in-Some.fault ≡ fault = cc is in subst (IsFirst c.args.disk c.args.long c.args.bytes.now) same (first c)),
  (λ is. let found = (c.first_fault.ensures.told fault).1 is in let same : c.in-Some.fault ≡ fault = cc (found, c.in-Some.is) in ap (λ (f : HeaderFault). Err f) same),
)

right : (c : goal.In-None) → IsRight c.args.disk c.args.long c.args.bytes.now (header_in c.args.bytes.now)
right c = c.in-None.ensures.none

pub returns-in-None-clause-right : goal.returns-in-None-clause-right
returns-in-None-clause-right c = subst (IsRight c.args.disk c.args.long c.args.bytes.now) (sym c.header_in-header.ensures) (right c)

pub returns-in-None-clause-only : goal.returns-in-None-clause-only
returns-in-None-clause-only c = λ header is.
    ap (λ (h : EndlessHeader). Ok h) (c.header_in-header.ensures ∙ one_header c.args.disk c.args.long c.args.bytes.now (header_in c.args.bytes.now) header (right c) is)
