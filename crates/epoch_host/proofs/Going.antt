-- A host that goes on, and then goes on once more, does both. What it knows of epochs stays so.
use Rattle.std.proofs.Common.{ℕ, zero, suc, ◌≡◌, List, [], ◌∷◌, ◌++◌, refl, sym, ◌∙◌, ap, subst}
use Rattle.std.proofs.lemmas.List.{append_assoc, append-nil}
use Rattle.paxos_block.specs.Shape.{Shape}
use Rattle.standings.specs.Past.{Made, Past}
use Rattle.lock_command.specs.declared.command.Command.{Command}
use Rattle.epoch_deeds.specs.Deeds.{Deeds, Calls, CallsIn, Starts, Begins, Stops, past_on}
use Rattle.epoch_deeds.proofs.Lists.{past_both, does_both}
use Rattle.epoch_deeds.proofs.Later.{open_later, carries_later, learned_later}
use Rattle.epoch_host.specs.declared.over.Over.{Over}
use Rattle.epoch_host.specs.declared.over.Over.TheVariants.{Unknown, Known}
use Rattle.epoch_host.specs.Knowing.{AreOfEpochBefore}
use Rattle.epoch_host.specs.Leading.{pasts_of, AreOpen, CarriesOver, MakeNone, GoesOn, MakesAndGoesOn}

-- ONE AFTER THE OTHER

pub none_both : (one more : Deeds) → MakeNone one → MakeNone more → MakeNone (one ++ more)
none_both [] more first then = then
none_both (Calls d made ∷ one) more first then = absurd first
none_both (CallsIn epoch d made call heard ∷ one) more first then = absurd first
none_both (Starts epoch ∷ one) more first then = none_both one more first then
none_both (Begins epoch task ∷ one) more first then = none_both one more first then
none_both (Stops epoch ∷ one) more first then = none_both one more first then

module _ (c : Shape) (h : ℕ) (deeds : Deeds) (IsSo : Deeds → Type 0) where
  -- it does nothing
  pub goes_none : IsSo deeds → GoesOn c h deeds IsSo
  goes_none so = record { more = []; none = tt; may = tt; so = subst IsSo (sym (append-nil deeds)) so }

  module _ (IsThen : Deeds → Type 0) where
    pub goes_then : GoesOn c h deeds IsSo → ((after : Deeds) → IsSo after → GoesOn c h after IsThen) → GoesOn c h deeds IsThen
    goes_then first then =
        let next : GoesOn c h (deeds ++ first.more) IsThen = then (deeds ++ first.more) first.so in
        record {
          more = first.more ++ next.more;
          none = none_both first.more next.more first.none next.none;
          may = does_both c h deeds first.more next.more first.may next.may;
          so = subst IsThen (append_assoc deeds first.more next.more) next.so;
        }

    pub goes_as : GoesOn c h deeds IsSo → ((after : Deeds) → IsSo after → IsThen after) → GoesOn c h deeds IsThen
    goes_as first as_then = record { more = first.more; none = first.none; may = first.may; so = as_then (deeds ++ first.more) first.so }

  -- with what stays so whatever it does
  pub goes_keeping : (Stays : Deeds → Type 0) → GoesOn c h deeds IsSo → ((more : Deeds) → Stays (deeds ++ more)) → GoesOn c h deeds (λ after. IsSo after × Stays after)
  goes_keeping Stays first stays = record { more = first.more; none = first.none; may = first.may; so = (first.so, stays first.more) }

-- the same behind a call
module _ (c : Shape) (h : ℕ) (deeds : Deeds) (IsSo : Deeds → Type 0) (d : ℕ) (now : Made) (IsThen : Deeds → Type 0) where
  pub makes_then : MakesAndGoesOn c h deeds d now IsSo → ((after : Deeds) → IsSo after → GoesOn c h after IsThen) → MakesAndGoesOn c h deeds d now IsThen
  makes_then first then = record { deed = first.deed; makes = first.makes; may = first.may; on = goes_then c h (deeds ++ first.deed ∷ []) IsSo IsThen first.on then }

  pub makes_as : MakesAndGoesOn c h deeds d now IsSo → ((after : Deeds) → IsSo after → IsThen after) → MakesAndGoesOn c h deeds d now IsThen
  makes_as first as_then = record { deed = first.deed; makes = first.makes; may = first.may; on = goes_as c h (deeds ++ first.deed ∷ []) IsSo IsThen first.on as_then }

-- NO CALL, NO PAST

pub past_none : (d : ℕ) (more : Deeds) → MakeNone more → past_on d more ≡ []
past_none d [] none = refl
past_none d (Calls disk made ∷ more) none = absurd none
past_none d (CallsIn epoch disk made call heard ∷ more) none = absurd none
past_none d (Starts epoch ∷ more) none = past_none d more none
past_none d (Begins epoch task ∷ more) none = past_none d more none
past_none d (Stops epoch ∷ more) none = past_none d more none

pub past_still : (d : ℕ) (deeds more : Deeds) → MakeNone more → past_on d (deeds ++ more) ≡ past_on d deeds
past_still d deeds more none = past_both d deeds more ∙ ap (λ (l : Past). past_on d deeds ++ l) (past_none d more none) ∙ append-nil (past_on d deeds)

pub pasts_still : (deeds more : Deeds) → MakeNone more → pasts_of (deeds ++ more) ≡ pasts_of deeds
pasts_still deeds more none = λ i. λ d. (past_still d deeds more none) i

-- LATER

pub are_open_later : (c : Shape) (h e : ℕ) (deeds more : Deeds) → AreOpen c h e deeds → AreOpen c h e (deeds ++ more)
are_open_later c h e deeds more are order below = open_later c h order deeds more (are order below)

all_before_later : (c : Shape) (h e : ℕ) (deeds more : Deeds) (before : List Command) → AreOfEpochBefore c h e deeds before → AreOfEpochBefore c h e (deeds ++ more) before
all_before_later c h zero deeds more before is = is
all_before_later c h (suc e) deeds more before is = learned_later c h e deeds more before is

pub carries_over_later : (c : Shape) (h e : ℕ) (deeds more : Deeds) (over : Over) → CarriesOver c h e deeds over → CarriesOver c h e (deeds ++ more) over
carries_over_later c h e deeds more Unknown is = tt
carries_over_later c h e deeds more (Known values before) (over, carries, spells, same, all) =
    (over, carries_later c h e deeds more over carries, spells, same, all_before_later c h e deeds more before.items all)
