-- What bears an outcome out.
use Rattle.std.proofs.Common.{◌≡◌, ◌∙◌, ℕ, None, Some, ap, inr, subst, sym}
use Rattle.lock_command.specs.declared.command.Command.{Command}
use Rattle.session.specs.declared.claim.Sign.{Sign}
use Rattle.session.specs.declared.claim.Step.TheVariants.{Dropping, Submitting}
use Rattle.session.specs.Outcomes.{GivesBack, IsBorneOut, IsGivenUp, IsWithoutOrGiven, then_of}
use Rattle.session.specs.declared.claim.Claim.{Claim}
use Rattle.session.specs.declared.claim.Step.{Step}
use Rattle.session.specs.declared.claim.Then.{Then}
use Rattle.session.specs.declared.claim.Then.TheVariants.{AskAgain, End}
use Rattle.session.specs.declared.learned.Learned.{Learned}
use Rattle.session.specs.declared.outcome.Outcome.TheVariants.{Held, NotHeld, Given, InDoubt, Failed}

-- a step that leads to something submits nothing
not_submitting : (step : Step) (then : Then) (command : Command) → then_of step ≡ Some then → step ≡ Submitting command → ⊥
not_submitting step then command leads submits = let none : None ≡ Some then = sym (ap then_of submits) ∙ leads in absurd (cc)

-- the step gives up no sign of life but that of this lock number
abbrev pub Drops : Learned → ℕ → Step → Type 0
Drops l number step = (sign : Sign) (then : Then) → step ≡ Dropping sign then → IsGivenUp l number sign

-- a release bears out what it leads to
by_release : (l : Learned) (c : Claim) (slot : ℕ) (then : Then) → GivesBack l c slot → IsWithoutOrGiven slot then → then_of c.step ≡ Some then
    → Drops l c.lock c.step → IsBorneOut l c
by_release l c slot AskAgain gives without leads drops = record {
  held = λ ends. absurd (cc);
  nothing = λ why ends. inr (inr (slot, gives));
  given = λ at ends. absurd (cc);
  again = λ asks. inr (slot, gives);
  failed = λ why ends. absurd (cc);
  own = λ command submits. absurd (not_submitting c.step _ command leads submits);
  sign = drops;
}
by_release l c slot (End (NotHeld other)) gives without leads drops = record {
  held = λ ends. absurd (cc);
  nothing = λ why ends. inr (inr (slot, gives));
  given = λ at ends. absurd (cc);
  again = λ asks. absurd (cc);
  failed = λ why ends. absurd (cc);
  own = λ command submits. absurd (not_submitting c.step _ command leads submits);
  sign = drops;
}
by_release l c slot (End (Given there)) gives without leads drops = record {
  held = λ ends. absurd (cc);
  nothing = λ why ends. absurd (cc);
  given = λ at ends. let same : slot ≡ at = cc in subst (GivesBack l c) same gives;
  again = λ asks. absurd (cc);
  failed = λ why ends. absurd (cc);
  own = λ command submits. absurd (not_submitting c.step _ command leads submits);
  sign = drops;
}
by_release l c slot (End Held) gives without leads drops = absurd without
by_release l c slot (End (InDoubt why)) gives without leads drops = absurd without
by_release l c slot (End (Failed why)) gives without leads drops = absurd without

-- what gives a claim back gives it back whatever is done next
at_step : (l : Learned) (c : Claim) (slot : ℕ) (step : Step) → GivesBack l c slot → GivesBack l (record c { step = step }) slot
at_step l c slot step gives = record {
  command = gives.command;
  known = gives.known;
  late = gives.late;
  there = gives.there;
  request = gives.request;
  action = gives.action;
  first = gives.first;
  client = gives.client;
  spared = gives.spared;
  lacks = λ at found there is. gives.lacks at found there (record { number = is.number; client = is.client; host = is.host; name = is.name; mode = is.mode });
}

pub release_is_borne_out : (l : Learned) (c new : Claim) (slot : ℕ) (then : Then) → GivesBack l c slot → IsWithoutOrGiven slot then
    → then_of new.step ≡ Some then → new ≡ record c { step = new.step } → Drops l c.lock new.step → IsBorneOut l new
release_is_borne_out l c new slot then gives without leads rest drops =
    by_release l new slot then (subst (λ (x : Claim). GivesBack l x slot) (sym rest) (at_step l c slot new.step gives)) without leads
    (let same : c.lock ≡ new.lock = ap (λ (x : Claim). x.lock) (sym rest) in subst (λ (number : ℕ). Drops l number new.step) same drops)
