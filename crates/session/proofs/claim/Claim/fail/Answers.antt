-- The failure is told, or why the operation was to end soon.
use Rattle.std.proofs.Common.{rules, ◌≡◌, ◌∙◌, None, ap, sym}
use Rattle.session.specs.declared.claim.Claim.{Claim}
use Rattle.session.specs.declared.claim.Goal.TheVariants.{GiveUp, Take}
use Rattle.session.specs.declared.outcome.Why.TheVariants.{Failed}
use Rattle.session.proofs.Causes.{in_time}
use Rattle.session.proofs.claim.Claim.fail.Goals as goal
use Rattle.session.proofs.claim.Claim.fail.Goals.{then-is_worth_waiting+in_default, else-is_worth_waiting}

pub returns-then-is_some-clause-told : goal.returns-then-is_some-clause-told
returns-then-is_some-clause-told c = (
  c.cause.result,
  record { failed = c.cause.ensures.failed; late = c.cause.ensures.late; stopped = c.cause.ensures.stopped; outrun = c.cause.ensures.outrun },
  (c.give_up.ensures.told, c.give_up.ensures.reason),
)

-- a pause is no end
pub returns-in-Some-clause-told : goal.returns-in-Some-clause-told
returns-in-Some-clause-told c =
    let none : c.args.self.now.over ≡ None = search rules in (
      Failed c.args.failure,
      in_time c.args.self.now.over c.args.failure none,
      ((λ outcome ends. absurd (cc)), (λ waits reason takes gives. let clash : Take waits ≡ GiveUp reason = sym takes ∙ gives in absurd (cc))),
    )

pub returns-clause-told : goal.returns-clause-told
returns-clause-told c =
    let none : c.args.self.now.over ≡ None = search rules in
    let same : c.if-is_worth_waiting.self.goal ≡ c.args.self.now.goal = elim c.if-is_worth_waiting.branch [
      | then-is_worth_waiting+in_default w ↦ ap (λ (x : Claim). x.goal) w.self-is
      | else-is_worth_waiting w ↦ ap (λ (x : Claim). x.goal) w.self-is
    ] in (
      Failed c.args.failure,
      in_time c.args.self.now.over c.args.failure none,
      (c.give_up-2.ensures.told, (λ waits reason takes gives. c.give_up-2.ensures.reason waits reason (same ∙ takes) gives)),
    )
