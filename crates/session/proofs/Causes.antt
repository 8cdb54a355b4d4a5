-- Why an operation ends where something failed.
use Rattle.std.proofs.Common.{◌≡◌, ◌∙◌, Option, None, Some, refl, sym}
use Rattle.session.specs.Outcomes.{IsCause}
use Rattle.session.specs.declared.outcome.Failure.{Failure}
use Rattle.session.specs.declared.outcome.Why.{Why}
use Rattle.session.specs.declared.outcome.Why.TheVariants.{Failed, Stopped}

-- before it is to end soon, it is that failure
pub in_time : (over : Option Why) (failure : Failure) → over ≡ None → IsCause over failure (Failed failure)
in_time over failure none = record {
  failed = λ is. refl;
  late = λ reason is other lucky. refl;
  stopped = λ is. let clash : None ≡ Some Stopped = sym none ∙ is in absurd (cc);
  outrun = λ reason is outrun. let clash : None ≡ Some reason = sym none ∙ is in absurd (cc);
}
