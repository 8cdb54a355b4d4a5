-- Agreement: what is chosen binds every proposal of its ballot or a greater one.
use Rattle.std.proofs.Common.{ℕ, zero, suc, ◌<◌, ◌≤◌, ◌≡◌, ◌⊎◌, inl, inr, Some, List, ◌++◌, refl, sym, subst, ap, ◌∙◌, arith}
use Rattle.std.proofs.lemmas.Bool.{cases_eq, cases_lt, eqb-true}
use Rattle.agreement.specs.State.{read_two, Proposal, State}
use Rattle.agreement.specs.State.Mind.{Two}
use Rattle.agreement.specs.Event.{Event, state_after, is_at}
use Rattle.agreement.specs.Chosen.{IsProposed, IsChosenBy, IsChosen, IsProposing}
use Rattle.agreement.specs.Claims.{BindsGreater, OneChosen, StaysChosen, OneProposal, CommitsChosen, Binds}
use Rattle.agreement.proofs.Majorities.{majorities_meet, count_le}
use Rattle.agreement.proofs.Invariant.{Proposals, Holds, IsTold, IsTelling, IsSafeAt}
use Rattle.agreement.proofs.Frames.{stage_at, mind_at}
use Rattle.agreement.proofs.Growing.{proposed_stays, chosen_stays, value_stays}
use Rattle.agreement.proofs.Runs.{Places}

-- a ballot has one proposal
pub one_proposed : {Value : Type 0} (proposed : Proposals Value) (b : ℕ) (v u : Value) → IsProposed proposed b v → IsProposed proposed b u → u ≡ v
one_proposed proposed b v u k l =
    let one : Some k.proposal ≡ Some l.proposal = sym k.is ∙ l.is in
    let same : k.proposal ≡ l.proposal = cc in
    sym l.value ∙ (sym (ap (λ (p : Proposal _). p.value) same) ∙ k.value)

module _ {Value : Type 0} (disks : ℕ) (s : State Value) (i : Holds disks s) where
  -- A ballot that is chosen binds each proposal of its ballot or a greater one: by induction on a bound of that.
  module _ (b : ℕ) (v : Value) (chosen : IsChosenBy disks s b v) where
    -- ballot 0 is never chosen
    positive : 0 < b
    positive = (i.proposals b chosen.proposed.proposal chosen.proposed.is).positive

    -- the two majorities share a disk, on which the proposal's phase 1 found the chosen ballot, or a later one
    follows : (c : ℕ) (p : Proposal Value) → s.proposed c ≡ Some p → b < c → b ≤ p.follows
    follows c p made above =
        let safe = i.proposals c p made in
        let both = majorities_meet disks p.on (s.accepted b) safe.majority chosen.majority in
        safe.between both.disk b both.first both.second above

    -- so its value came down from the chosen ballot
    binds_below : (n c : ℕ) (u : Value) → c < n → b ≤ c → IsProposed s.proposed c u → u ≡ v
    binds_below zero c u under above k = absurd (omega arith)
    binds_below (suc n) c u under above k = elim (cases_eq c b) [
      | inl same ↦ one_proposed s.proposed b v u chosen.proposed (subst (λ x. IsProposed s.proposed x u) same k)
      | inr greater ↦ sym k.value ∙ from k.proposal (i.proposals c k.proposal k.is) (follows c k.proposal k.is (omega arith)) (binds_below n) (i.proposals c k.proposal k.is).same
    ]
      where
        from : (p : Proposal Value) → IsSafeAt disks s.proposed s.accepted c p → b ≤ p.follows → ((e : ℕ) (w : Value) → e < n → b ≤ e → IsProposed s.proposed e w → w ≡ v)
            → (p.follows ≡ 0) ⊎ IsProposed s.proposed p.follows p.value → p.value ≡ v
        from p safe low ih (inl none) = absurd (omega (arith, none, low, positive))
        from p safe low ih (inr k) = ih p.follows p.value (omega (arith, safe.below)) low k

    -- each proposal of this ballot or a greater one has the value
    pub bound : (c : ℕ) (u : Value) → b ≤ c → IsProposed s.proposed c u → u ≡ v
    bound c u above k = binds_below (suc c) c u (omega arith) above k

  -- what a host proposes is the proposal of its ballot, which is its own
  pub telling : (h b : ℕ) (v : Value) → IsProposing s h b v → IsTelling s.proposed h (record { ballot = b; value = v })
  telling h b v proposing = mind_at disks s i h (Two (record { ballot = b; value = v })) proposing

  -- agreement, as it is claimed of one place
  pub binds_greater : BindsGreater disks s
  binds_greater b c v p chosen above made = bound b v chosen c p.value (omega arith) (record { proposal = p; is = made; value = refl })

  -- one of two chosen ballots is not below the other, and so bound by it
  pub one_chosen : (v u : Value) → IsChosen disks s v → IsChosen disks s u → u ≡ v
  one_chosen v u (b, k) (c, l) = elim (cases_lt c b) [
    | inl below ↦ sym (bound c u l b v (omega arith) k.proposed)
    | inr above ↦ bound b v k c u above l.proposed
  ]

  -- Where phase 2 is complete the ballot is accepted.
  pub commits_chosen : CommitsChosen disks s
  commits_chosen h b v k = record {
    proposed = (telling h b v k.proposing).proposal;
    majority =
        let more = count_le disks (is_at read_two (s.cell h)) (s.accepted b) (λ d e.
        let at : (s.cell h d).stage ≡ read_two = eqb-true _ _ e in
        let told : IsTold s.accepted d (record { ballot = b; value = v }) (s.cell h d) = stage_at disks s i h d (Two (record { ballot = b; value = v })) k.proposing (omega arith) in
        told.told (omega arith)) in
        let most = k.majority in omega arith;
  }

-- AT TWO PLACES

module _ {Value : Type 0} (disks : ℕ) (early late : List (Event Value)) (places : Places disks early late) where
  -- the two states
  abbrev s : State Value
  s = state_after early

  abbrev t : State Value
  t = state_after (early ++ late)

  -- what is claimed of two places: each is shown of the later state, into which the earlier one has grown
  pub stays_chosen : StaysChosen disks s t
  stays_chosen = chosen_stays disks s t places.grows

  pub one_chosen_at : OneChosen disks s t
  one_chosen_at v u k l = one_chosen disks t places.second v u (value_stays disks s t places.grows v k) l

  pub one_proposal : OneProposal s t
  one_proposal h g b v u first second =
      let one = telling disks s places.first h b v first in
      let two = telling disks t places.second g b u second in
      record {
        host = sym two.owned ∙ one.owned;
        value = one_proposed t.proposed b v u (proposed_stays places.grows.proposed one.proposal) two.proposal;
      }

  pub binds_later : Binds disks s t
  binds_later h g b c v u committed above proposing =
      bound disks t places.second b v
      (stays_chosen b v (commits_chosen disks s places.first h b v committed)) c u above
      (telling disks t places.second g c u proposing).proposal

  pub binds_earlier : Binds disks t s
  binds_earlier h g b c v u committed above proposing =
      bound disks t places.second b v
      (commits_chosen disks t places.second h b v committed) c u above
      (proposed_stays places.grows.proposed (telling disks s places.first g c u proposing).proposal)
