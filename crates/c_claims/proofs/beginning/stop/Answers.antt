-- What C says is why the operation is to end soon.
use Rattle.std.proofs.Common.{◌≡◌, ◌∙◌, Option, Some, ap, subst, sym}
use Rattle.session.specs.Keeping.{Keeps}
use Rattle.session.specs.Moves.{GoesOn}
use Rattle.session.specs.Outcomes.{IsFor, TellsFailure}
use Rattle.session.specs.declared.beginning.TheConstants.{LAST_TRIES}
use Rattle.session.specs.declared.outcome.Why.{Why}
use Rattle.c_claims.specs.Asking.{why_over}
use Rattle.c_claims.proofs.beginning.stop.Goals as goal
use Rattle.c_claims.proofs.beginning.stop.Goals.{then-told, else-told}

pub returns : goal.returns
returns c =
    let old = c.args.claim.now in
    let new = c.stop.new.self in
    let is : c.if-told.stop ≡ why_over c.args.told = elim c.if-told.branch [
      | then-told w ↦ w.stop-is ∙ sym (ap why_over w.if-told.true)
      | else-told w ↦ w.stop-is ∙ sym (ap why_over w.if-told.false)
    ] in
    let over : Some c.if-told.stop ≡ new.over = sym c.stop.ensures.over in
    record {
      over = c.stop.ensures.over ∙ ap (λ (why : Why). Some why) is;
      soon = c.stop.ensures.soon;
      no_pause = c.stop.ensures.no_pause;
      goes_on = λ no. subst (λ (o : Option Why). new ≡ record old { over = o; tries = LAST_TRIES }) over (c.stop.ensures.goes_on no);
      unheard = c.stop.ensures.unheard;
      told = λ pause none. subst (λ (why : Why). IsFor old new why) is (c.stop.ensures.told pause none);
      failed = λ failure pause fails. subst (λ (why : Why). TellsFailure (record old { over = Some why }) failure new) is (c.stop.ensures.failed failure pause fails);
      moves = subst (λ (o : Option Why). GoesOn (record old { over = o }) new) over c.stop.ensures.moves;
      goal = c.stop.ensures.goal;
      value = c.stop.ensures.value;
      keeps = subst (λ (o : Option Why). Keeps (record old { over = o }) new) over c.stop.ensures.keeps;
      release = c.stop.ensures.release;
    }
