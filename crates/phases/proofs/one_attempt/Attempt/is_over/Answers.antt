use Rattle.std.proofs.Common.{◌≡◌, true, false, Bool, not, Some, refl, sym, subst, ◌∙◌}
use Rattle.std.proofs.lemmas.Bool.{OnTrue_at, OnFalse_at, OnTrue_from, OnFalse_from}
use Rattle.phases.specs.declared.end.End.TheVariants as end
use Rattle.phases.specs.declared.phase.Phase as code_phase
use Rattle.phases.specs.Kept.{Follows}
use Rattle.phases.specs.Moves.{IsBegun}
use Rattle.phases.specs.Notes.{Notes}
use Rattle.phases.proofs.Ending.{few_left, is_over, visits_one}
use Rattle.phases.proofs.one_attempt.Attempt.is_over.Goals as goal

not_true : (b : Bool) → not b ≡ true → b ≡ false
not_true true e = sym e
not_true false e = refl

not_false : (b : Bool) → not b ≡ false → b ≡ true
not_false true e = refl
not_false false e = sym e

pub returns-then-not-has_majority-clause-visits : goal.returns-then-not-has_majority-clause-visits
returns-then-not-has_majority-clause-visits g c f is =
    let v = c.visit_next-visits_one in
    subst (λ (m : Notes). Follows f (record m { end = Some end.NoMajority })) (sym c.self.view_is)
    (few_left c.args.self.now.phase f v.new.self v.result (λ begun. OnTrue_at begun v.ensures.begun f is) (λ none. OnFalse_at none v.ensures.none f is) (sym c.has_majority.ensures ∙ c.if-not-has_majority.true))

pub returns-clause-over : goal.returns-clause-over
returns-clause-over g c =
    let v = c.visit_next-visits_one in
    OnTrue_from (not v.result) _ (λ none f is.
    is_over c.args.self.now.phase f v.new.self (OnFalse_at (not_true v.result none) v.ensures.none f is) (sym c.has_majority.ensures ∙ c.if-not-has_majority.false))

pub returns-clause-visits : goal.returns-clause-visits
returns-clause-visits g c =
    let v = c.visit_next-visits_one in
    OnFalse_from (not v.result) _ (λ some f is.
    let begun = OnTrue_at (not_false v.result some) v.ensures.begun f is in
    visits_one f v.new.self (subst (λ (q : code_phase.Phase). IsBegun q f v.new.self) (sym v.ensures.same.0) begun) (sym c.has_majority.ensures ∙ c.if-not-has_majority.false) (v.ensures.same.1 ∙ c.requires.going))
