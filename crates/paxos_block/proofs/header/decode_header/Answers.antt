use Rattle.std.proofs.Common.{◌∙◌, ◌<◌, ◌≤◌, ℕ, Ok, refl, sym, ap, subst, arith, inl, inr}
use Rattle.std.proofs.lemmas.Bool.{both_ways}
use Rattle.torn_block.specs.declared.layout.TheConstants.{HEADER_LENGTH}
use Rattle.paxos_block.specs.declared.header.Header.{Header}
use Rattle.paxos_block.specs.Headers.{IsRight, header_in}
use Rattle.paxos_block.proofs.HeaderLemmas.{right_since, right_tells, right_gate}
use Rattle.paxos_block.proofs.header.decode_header.Given.{Over}
use Rattle.paxos_block.proofs.header.decode_header.Goals as goal

pub returns-then-bytes-ne-OPEN_GATE-clause-only : goal.returns-then-bytes-ne-OPEN_GATE-clause-only
returns-then-bytes-ne-OPEN_GATE-clause-only g c =
    λ header right. absurd (c.if-bytes-ne-OPEN_GATE.true (right_gate g.L.Layout.version c.args.disk c.args.long c.args.bytes.now header right))

pub returns-then-not-is_right-clause-only : goal.returns-then-not-is_right-clause-only
returns-then-not-is_right-clause-only g c =
    λ header right. absurd (both_ways c.is_right.result c.if-not-is_right.true (c.is_right.ensures ∙ (right_since g.L.Layout.version c.args.disk c.args.long c.args.bytes.now header right).0))

pub returns-then-not-is_right-clause-wrong_header : goal.returns-then-not-is_right-clause-wrong_header
returns-then-not-is_right-clause-wrong_header g c = (
  (λ e.
      inr (record {
        formatted = c.if-bytes-ne-OPEN_GATE.false;
        wrong =
            λ header right.
            both_ways c.is_right.result c.if-not-is_right.true (c.is_right.ensures ∙ (right_since g.L.Layout.version c.args.disk c.args.long c.args.bytes.now header right).0);
      })),
  (λ cause. refl),
)

ge_not : (long : ℕ) → long < HEADER_LENGTH → HEADER_LENGTH ≤ long → ⊥
ge_not long below from = absurd (omega arith)

right : (g : Over) (c : goal.After-header_in g) → IsRight g.L.Layout.version c.args.disk c.args.long c.args.bytes.now (header_in c.args.bytes.now)
right g c =
    right_tells g.L.Layout.version c.args.bytes.now c.told-bytes (λ i. omega (arith, c.fits-bytes i)) c.args.disk c.args.long c.if-bytes-ne-OPEN_GATE.false (sym c.is_right.ensures ∙ c.if-not-is_right.false)

pub returns-clause-right : goal.returns-clause-right
returns-clause-right g c =
    subst (IsRight g.L.Layout.version c.args.disk c.args.long c.args.bytes.now) (sym c.header_in.ensures) (right g c)

pub returns-clause-only : goal.returns-clause-only
returns-clause-only g c =
    λ header right. ap (λ (h : Header). Ok h) (c.header_in.ensures ∙ (right_since g.L.Layout.version c.args.disk c.args.long c.args.bytes.now header right).1)

pub returns-clause-wrong_header : goal.returns-clause-wrong_header
returns-clause-wrong_header g c =
    ((λ e. absurd cc), (λ cause. absurd (elim cause [ inl short ↦ ge_not c.args.long short c.if-long.false | inr none ↦ none.wrong (header_in c.args.bytes.now) (right g c) ])))
