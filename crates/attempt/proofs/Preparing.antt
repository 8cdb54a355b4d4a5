-- An attempt that proposes is prepared, as is one that ended empty; and one whose proposal is chosen is accepted.
use Rattle.std.specs.Prelude.{nat_lt}
use Rattle.std.proofs.Common.{ℕ, ◌≡◌, ◌⊎◌, inl, inr, Bool, true, false, Option, Some, None, List, refl, sym, subst, ◌∙◌, arith}
use Rattle.std.proofs.lemmas.Bool.{both_ways}
use Rattle.attempt.specs.Calls.{One, Two}
use Rattle.attempt.specs.Answers.{Answered, Answers, on}
use Rattle.attempt.specs.Setup.{Setup}
use Rattle.attempt.specs.Proposal.{ballot, proposal, others_mbal}
use Rattle.attempt.specs.NextCall.{some_value}
use Rattle.attempt.specs.Visits.{visited, is_left, are_enough}
use Rattle.attempt.specs.Standing.{HasBallot, HasProposal}
use Rattle.attempt.specs.Status.{Due, Ended, Committed, Empty, status}
use Rattle.attempt.specs.History.{IsHistory}
use Rattle.attempt.specs.Prepared.{IsConfirmedOn, IsPrepared, IsAccepted, Proposes}
use Rattle.attempt.proofs.Visitors.{left_is, left_over}
use Rattle.attempt.proofs.Statuses.{IsOver, HasNone, HasChosen, due_is, told_by, enough_part, enough_before}
use Rattle.attempt.proofs.Histories.{history_reached}
use Rattle.attempt.proofs.Confirmed.{confirmed}

-- WHO PROPOSES

-- who has a proposal and enough disks in phase 2 proposes it
pub in_phase_two : (s : Setup) (f : Answers) (value : List ℕ) → HasProposal s f value → are_enough s (is_left s Two f) ≡ true → Proposes s f value
in_phase_two s f value has enough = record { has = has; majority = (enough_before s Two f (enough_part s Two f enough)).1 }

-- so does who has a vote to make
pub voting : (s : Setup) (f : Answers) (d : ℕ) → status s f ≡ Due Two d → (value : List ℕ) × Proposes s f value
voting s f d is = let due = due_is s f Two d is in (due.come.0, in_phase_two s f due.come.0 due.come.1 due.enough)

-- and whose proposal is chosen
pub committed : (s : Setup) (f : Answers) (value : List ℕ) → status s f ≡ Ended (Committed value) → Proposes s f value
committed s f value ended =
    let chosen : HasChosen s value f = told_by s f (Ended (Committed value)) ended in
    let both : Some (chosen.over.come).0 ≡ Some value = sym (chosen.over.come).1.is ∙ chosen.proposal_is in
    let same : (chosen.over.come).0 ≡ value = cc in
    in_phase_two s f value (subst (HasProposal s f) same (chosen.over.come).1) chosen.over.enough

-- phase 1 is over where there is a proposal
pub one_is_over : (s : Setup) (f : Answers) (value : List ℕ) → Proposes s f value → IsOver s One f
one_is_over s f value proposes = record { come = proposes.has.taken; not_outrun = proposes.has.not_outrun; visits = proposes.has.over; enough = proposes.majority }

-- with a ballot, an attempt proposes or it does not
pub proposes_or_not : (s : Setup) (f : Answers) → HasBallot s f → ((value : List ℕ) × Proposes s f value) ⊎ ((value : List ℕ) → Proposes s f value → ⊥)
proposes_or_not s f taken = go (visited s One f) refl (nat_lt (ballot s f) (others_mbal s One f)) refl (proposal s f) refl (are_enough s (is_left s One f)) refl
  where
    go : (at : Option ℕ) → visited s One f ≡ at → (out : Bool) → nat_lt (ballot s f) (others_mbal s One f) ≡ out → (o : Option (List ℕ)) → proposal s f ≡ o → (enough : Bool) → are_enough s (is_left s One f) ≡ enough
        → ((value : List ℕ) × Proposes s f value) ⊎ ((value : List ℕ) → Proposes s f value → ⊥)
    go None over false below (Some value) is true enough = inl (value, record { has = record { taken = taken; over = over; not_outrun = below; is = is }; majority = enough })
    go None over false below (Some value) is false few = inr (λ v p. both_ways (are_enough s (is_left s One f)) few p.majority)
    go None over false below None none enough e = inr (λ v p. (let has = p.has.is in absurd (cc)))
    go None over true above o is enough e = inr (λ v p. both_ways (nat_lt (ballot s f) (others_mbal s One f)) p.has.not_outrun above)
    go (Some d) visits out t o is enough e = inr (λ v p. (let over = p.has.over in absurd (cc)))

-- WHAT THEY HAVE DONE

module _ (s : Setup) (heard : List Answered) (is : IsHistory s heard) where
  abbrev f : Answers
  f = on heard

  -- where phase 1 is over, the disks left have confirmed it
  prepared_by : IsOver s One f → IsPrepared s heard
  prepared_by over =
      record {
        those = is_left s One f;
        most = over.enough;
        each = λ d l left. confirmed s heard is d One (omega arith) ((history_reached s heard is).disk d) (left_is s One (visited s One f) f d left).good (left_over s One f d over.visits l left) l over.not_outrun refl;
      }

  -- an attempt that proposes is prepared
  pub prepared : (value : List ℕ) → Proposes s f value → IsPrepared s heard
  prepared value proposes =
      prepared_by (one_is_over s f value proposes)

  -- so is one that ended empty
  pub prepared_empty : status s f ≡ Ended Empty → IsPrepared s heard
  prepared_empty ended = let none : HasNone s f = told_by s f (Ended Empty) ended in prepared_by none.over

  module _ (value : List ℕ) where
    -- where phase 2 is over, the disks left have confirmed it
    accepted_by : HasChosen s value f → IsAccepted s heard value
    accepted_by chosen =
        record {
          those = is_left s Two f;
          most = chosen.over.enough;
          each = λ d l left. (
              let here = confirmed s heard is d Two (omega arith) ((history_reached s heard is).disk d) (left_is s Two (visited s Two f) f d left).good (left_over s Two f d chosen.over.visits l left) l chosen.over.not_outrun refl in
              subst (λ (o : Option (List ℕ)). IsConfirmedOn s heard Two (record { mbal = ballot s f; bal = ballot s f; inp = Some (some_value o); mark = false }) d) chosen.proposal_is here);
        }

    -- an attempt whose proposal is chosen is accepted
    pub accepted : status s f ≡ Ended (Committed value) → IsAccepted s heard value
    accepted ended = accepted_by (told_by s f (Ended (Committed value)) ended)
