-- Deeds that lead on, one list after another, and the calls among them.
use Rattle.std.specs.Prelude.{slice_index}
use Rattle.std.proofs.Common.{ℕ, ◌≡◌, arith, List, [], ◌∷◌, ◌++◌, refl, sym, ◌∙◌, ap, subst, inl, inr}
use Rattle.std.proofs.lemmas.List.{append_assoc, append-nil}
use Rattle.disk.specs.declared.fault.DiskFault.TheVariants.{Failed}
use Rattle.disk.specs.Disk.{Fault}
use Rattle.paxos_block.specs.Shape.{Shape}
use Rattle.standings.specs.Past as past
use Rattle.epoch_deeds.specs.Deeds.{Deed, Deeds, Calls, CallsIn, Starts, Begins, Stops}
use Rattle.epoch_deeds.proofs.Lists.{does_both}
use Rattle.epoch_host.specs.Leading.{GoesOn, MakesAndGoesOn, MakesCall, MakeNone}
use Rattle.dlm_images.specs.Operations.{Made}
use Rattle.epoch_images.specs.Working.{AreMade, DidMore, IsMadeOr, RunsBefore, calls_of, made_on}

-- CALLS

-- no epoch is before the first one
none_before : (c : Shape) (h first : ℕ) (deeds : Deeds) → first ≡ 0 → RunsBefore c h first deeds → ⊥
none_before c h first deeds none early = let below = early.before in omega (arith, none, below)

module _ (c : Shape) (h : ℕ) (firsts : List ℕ) where
  behind : (before : Deeds) (deed : Deed) (one more : Deeds) (ys : List Made) → AreMade c h firsts (before ++ deed ∷ one) more ys → AreMade c h firsts ((before ++ deed ∷ []) ++ one) more ys
  behind before deed one more ys is = subst (λ (l : Deeds). AreMade c h firsts l more ys) (sym (append_assoc before (deed ∷ []) one)) is

  -- a call, and then some deeds and more
  or_both : (early : Type 0) (x : Made) (Rest RestBoth : List Made → Type 0) (xs ys : List Made) → ((zs : List Made) → Rest zs → RestBoth (zs ++ ys)) → IsMadeOr early x xs Rest → IsMadeOr early x (xs ++ ys) RestBoth
  or_both early x Rest RestBoth xs ys both first =
      elim first [
        | inl is ↦ inl (is.0, (is.1.0 ++ ys, ap (λ (l : List Made). l ++ ys) is.1.1, both is.1.0 is.1.2))
        | inr lost ↦ inr (lost.0, lost.1, both xs lost.2)
      ]

  -- some deeds, and then more
  pub made_both : (before one more : Deeds) (xs ys : List Made) → AreMade c h firsts before one xs → AreMade c h firsts (before ++ one) more ys → AreMade c h firsts before (one ++ more) (xs ++ ys)
  made_both before [] more xs ys first then =
      subst (λ (l : List Made). AreMade c h firsts before more (l ++ ys)) (sym first) (subst (λ (l : Deeds). AreMade c h firsts l more ys) (append-nil before) then)
  made_both before (Calls d now ∷ one) more xs ys first then =
      or_both (RunsBefore c h (slice_index firsts d) before) (made_on d now) (λ zs. AreMade c h firsts (before ++ Calls d now ∷ []) one zs)
      (λ zs. AreMade c h firsts (before ++ Calls d now ∷ []) (one ++ more) zs) xs ys
      (λ zs are. made_both (before ++ Calls d now ∷ []) one more zs ys are (behind before (Calls d now) one more ys then)) first
  made_both before (CallsIn e d now call heard ∷ one) more xs ys first then =
      or_both (RunsBefore c h (slice_index firsts d) before) (made_on d now) (λ zs. AreMade c h firsts (before ++ CallsIn e d now call heard ∷ []) one zs)
      (λ zs. AreMade c h firsts (before ++ CallsIn e d now call heard ∷ []) (one ++ more) zs) xs ys
      (λ zs are. made_both (before ++ CallsIn e d now call heard ∷ []) one more zs ys are (behind before (CallsIn e d now call heard) one more ys then)) first
  made_both before (Starts e ∷ one) more xs ys first then = made_both (before ++ Starts e ∷ []) one more xs ys first (behind before (Starts e) one more ys then)
  made_both before (Begins e task ∷ one) more xs ys first then = made_both (before ++ Begins e task ∷ []) one more xs ys first (behind before (Begins e task) one more ys then)
  made_both before (Stops e ∷ one) more xs ys first then = made_both (before ++ Stops e ∷ []) one more xs ys first (behind before (Stops e) one more ys then)

  made_none : (before more : Deeds) → MakeNone more → AreMade c h firsts before more []
  made_none before [] none = refl
  made_none before (Calls d now ∷ more) none = absurd none
  made_none before (CallsIn e d now call heard ∷ more) none = absurd none
  made_none before (Starts e ∷ more) none = made_none (before ++ Starts e ∷ []) more none
  made_none before (Begins e task ∷ more) none = made_none (before ++ Begins e task ∷ []) more none
  made_none before (Stops e ∷ more) none = made_none (before ++ Stops e ∷ []) more none

  -- it is one call
  same_call : (d disk : ℕ) (now made : past.Made) → disk ≡ d → made ≡ now → made_on d now ∷ [] ≡ made_on disk made ∷ []
  same_call d disk now made on is = ap (λ (k : ℕ). made_on k now ∷ []) (sym on) ∙ ap (λ (m : past.Made). made_on disk m ∷ []) (sym is)

  -- one call, and none behind it
  made_by : (before : Deeds) (d : ℕ) (now : past.Made) (deed : Deed) (more : Deeds) → MakesCall d now deed → MakeNone more → (RunsBefore c h (slice_index firsts d) before → ⊥)
      → AreMade c h firsts before (deed ∷ more) (made_on d now ∷ [])
  made_by before d now (Calls disk made) more makes none part =
      inl (
        subst (λ (k : ℕ). RunsBefore c h (slice_index firsts k) before → ⊥) (sym makes.0) part,
        ([], same_call d disk now made makes.0 makes.1, made_none (before ++ Calls disk made ∷ []) more none),
      )
  made_by before d now (CallsIn e disk made call heard) more makes none part =
      inl (
        subst (λ (k : ℕ). RunsBefore c h (slice_index firsts k) before → ⊥) (sym makes.0) part,
        ([], same_call d disk now made makes.0 makes.1, made_none (before ++ CallsIn e disk made call heard ∷ []) more none),
      )
  made_by before d now (Starts e) more makes none part = absurd makes
  made_by before d now (Begins e task) more makes none part = absurd makes
  made_by before d now (Stops e) more makes none part = absurd makes

  -- one that is not made, since its disk takes no part yet
  lost_by : (before : Deeds) (d : ℕ) (now : past.Made) (deed : Deed) (more : Deeds) → MakesCall d now deed → MakeNone more → RunsBefore c h (slice_index firsts d) before → now.answer ≡ Fault Failed
      → AreMade c h firsts before (deed ∷ more) []
  lost_by before d now (Calls disk made) more makes none early gone =
      inr (
        subst (λ (k : ℕ). RunsBefore c h (slice_index firsts k) before) (sym makes.0) early,
        ap (λ (m : past.Made). m.answer) makes.1 ∙ gone,
        made_none (before ++ Calls disk made ∷ []) more none,
      )
  lost_by before d now (CallsIn e disk made call heard) more makes none early gone =
      inr (
        subst (λ (k : ℕ). RunsBefore c h (slice_index firsts k) before) (sym makes.0) early,
        ap (λ (m : past.Made). m.answer) makes.1 ∙ gone,
        made_none (before ++ CallsIn e disk made call heard ∷ []) more none,
      )
  lost_by before d now (Starts e) more makes none early gone = absurd makes
  lost_by before d now (Begins e task) more makes none early gone = absurd makes
  lost_by before d now (Stops e) more makes none early gone = absurd makes

-- where each disk takes part from the first epoch on, each call was made
pub all_made : (c : Shape) (h : ℕ) (firsts : List ℕ) → ((d : ℕ) → slice_index firsts d ≡ 0) → (before more : Deeds) (made : List Made) → AreMade c h firsts before more made → calls_of more ≡ made
all_made c h firsts first before [] made is = sym is
all_made c h firsts first before (Calls d now ∷ more) made is =
    elim is [
      | inl one ↦ ap (λ (l : List Made). made_on d now ∷ l) (all_made c h firsts first (before ++ Calls d now ∷ []) more one.1.0 one.1.2) ∙ sym one.1.1
      | inr lost ↦ absurd (none_before c h (slice_index firsts d) before (first d) lost.0)
    ]
all_made c h firsts first before (CallsIn e d now call heard ∷ more) made is =
    elim is [
      | inl one ↦ ap (λ (l : List Made). made_on d now ∷ l) (all_made c h firsts first (before ++ CallsIn e d now call heard ∷ []) more one.1.0 one.1.2) ∙ sym one.1.1
      | inr lost ↦ absurd (none_before c h (slice_index firsts d) before (first d) lost.0)
    ]
all_made c h firsts first before (Starts e ∷ more) made is = all_made c h firsts first (before ++ Starts e ∷ []) more made is
all_made c h firsts first before (Begins e task ∷ more) made is = all_made c h firsts first (before ++ Begins e task ∷ []) more made is
all_made c h firsts first before (Stops e ∷ more) made is = all_made c h firsts first (before ++ Stops e ∷ []) more made is

-- MORE DEEDS

module _ (c : Shape) (h : ℕ) (firsts : List ℕ) (deeds : Deeds) (IsSo : Deeds → Type 0) where
  -- some that make no call
  pub did_goes : GoesOn c h deeds IsSo → DidMore c h firsts deeds [] IsSo
  did_goes on = record { more = on.more; may = on.may; calls = made_none c h firsts deeds on.more on.none; so = on.so }

  -- one with a call, and then some that make none
  did_by : (d : ℕ) (now : past.Made) (made : List Made) (by : MakesAndGoesOn c h deeds d now IsSo) → AreMade c h firsts deeds (by.deed ∷ by.on.more) made → DidMore c h firsts deeds made IsSo
  did_by d now made by calls =
      record { more = by.deed ∷ by.on.more; may = (by.may, by.on.may); calls = calls; so = subst IsSo (append_assoc deeds (by.deed ∷ []) by.on.more) by.on.so }

  -- the call is made
  pub did_makes : (d : ℕ) (now : past.Made) → MakesAndGoesOn c h deeds d now IsSo → (RunsBefore c h (slice_index firsts d) deeds → ⊥) → DidMore c h firsts deeds (made_on d now ∷ []) IsSo
  did_makes d now by part = did_by d now (made_on d now ∷ []) by (made_by c h firsts deeds d now by.deed by.on.more by.makes by.on.none part)

  -- or it is not, since its disk takes no part yet
  pub did_without : (d : ℕ) (now : past.Made) → MakesAndGoesOn c h deeds d now IsSo → RunsBefore c h (slice_index firsts d) deeds → now.answer ≡ Fault Failed → DidMore c h firsts deeds [] IsSo
  did_without d now by early gone = did_by d now [] by (lost_by c h firsts deeds d now by.deed by.on.more by.makes by.on.none early gone)

  module _ (IsThen : Deeds → Type 0) (made : List Made) (first : DidMore c h firsts deeds made IsSo) where
    -- and then more
    pub did_then : (now : List Made) → ((more : Deeds) → IsSo (deeds ++ more) → DidMore c h firsts (deeds ++ more) now IsThen) → DidMore c h firsts deeds (made ++ now) IsThen
    did_then now then =
        let next : DidMore c h firsts (deeds ++ first.more) now IsThen = then first.more first.so in
        record {
          more = first.more ++ next.more;
          may = does_both c h deeds first.more next.more first.may next.may;
          calls = made_both c h firsts deeds first.more next.more made now first.calls next.calls;
          so = subst IsThen (append_assoc deeds first.more next.more) next.so;
        }

    pub did_as : ((after : Deeds) → IsSo after → IsThen after) → DidMore c h firsts deeds made IsThen
    did_as as_then = record { more = first.more; may = first.may; calls = first.calls; so = as_then (deeds ++ first.more) first.so }
