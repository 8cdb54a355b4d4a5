-- The chosen values are a list: an event chooses at most one more, and that in the slot behind them.
use Rattle.std.proofs.Common.{ℕ, zero, suc, ◌*◌, ◌≤◌, ◌≡◌, ◌⊎◌, inl, inr, Bool, true, false, Option, Some, None, List, [], ◌∷◌, ◌++◌, length, refl, sym, subst, ap, ◌∙◌, arith, nat_lt}
use Rattle.std.specs.Prelude.{slice_get}
use Rattle.std.proofs.lemmas.Bool.{cases_eq, cases_lt, ltb-true, ltb-false}
use Rattle.std.proofs.lemmas.Option.{slice_get_within}
use Rattle.agreement.specs.Majority.{count, IsMajority}
use Rattle.agreement.specs.State.{put, Proposal, State}
use Rattle.agreement.specs.Event.{Event, proposal_of, after}
use Rattle.agreement.specs.Event.Event.{Proposes, ReadsTwo}
use Rattle.agreement.specs.Chosen.{IsChosenBy, IsChosen, HasChosen}
use Rattle.agreement.specs.Log.{Slots, Move, MayMove, moved, none_learned, moves, IsHistory, slots_after}
use Rattle.agreement.specs.Log.Move.{At}
use Rattle.agreement.specs.Claims.{IsLog, HasLog, LogGrows, LearnsLog}
use Rattle.agreement.proofs.Puts.{all_put, put_same, put_other}
use Rattle.agreement.proofs.Growing.{value_stays}
use Rattle.agreement.proofs.Invariant.{Holds}
use Rattle.agreement.proofs.Agreeing.{one_chosen}
use Rattle.agreement.proofs.Steps.{kept_by}
use Rattle.agreement.proofs.Slots.{HoldsAll, value_below, pushed, grows_moves, holds_all_moved, holds_all_at_start, holds_all_reached, at_two_places}

-- WHAT AN EVENT MAY CHOOSE

-- the one ballot of which an event may change the proposal, or where it is accepted
abbrev ballot_of : {Value : Type 0} → Event Value → Option ℕ
ballot_of (Proposes h a value) = Some a.ballot
ballot_of (ReadsTwo h d row t) = Some t.ballot
ballot_of other = None

module _ {Value : Type 0} (disks : ℕ) (s : State Value) where
  -- what is chosen by another ballot was so before
  chosen_before : (e : Event Value) (b : ℕ) (v : Value) → (ballot_of e ≡ Some b → ⊥) → IsChosenBy disks (after s e) b v → IsChosenBy disks s b v
  chosen_before (Proposes h a value) b v other k = record {
    proposed = record {
      proposal = k.proposed.proposal;
      is = sym (put_other s.proposed a.ballot (Some (proposal_of a value (s.cell h))) b (λ same. other (ap Some (sym same)))) ∙ k.proposed.is;
      value = k.proposed.value;
    };
    majority = k.majority;
  }
  chosen_before (ReadsTwo h d row t) b v other k = record {
    proposed = k.proposed;
    majority = subst (IsMajority disks) (put_other s.accepted t.ballot (put (s.accepted t.ballot) d true) b (λ same. other (ap Some (sym same)))) k.majority;
  }
  chosen_before rest b v other k = record { proposed = k.proposed; majority = k.majority }

  -- An event chooses no more than was chosen, or now there is a chosen value.
  abbrev NoMore : Event Value → Type 0
  NoMore e = (b : ℕ) (v : Value) → IsChosenBy disks (after s e) b v → IsChosenBy disks s b v

  -- it does so where its one ballot chooses nothing
  none_by : (e : Event Value) (c : ℕ) → ballot_of e ≡ Some c → ((v : Value) → IsChosenBy disks (after s e) c v → ⊥) → NoMore e
  none_by e c is none b v k = elim (cases_eq b c) [
    | inl same ↦ absurd (none v (subst (λ x. IsChosenBy disks (after s e) x v) same k))
    | inr other ↦ chosen_before e b v (λ at. other (let one : Some c ≡ Some b = sym is ∙ at in let two : c ≡ b = cc in sym two)) k
  ]

  -- whether that ballot is chosen can be tested
  by_test : (e : Event Value) (c : ℕ) → ballot_of e ≡ Some c → (o : Option (Proposal Value)) → (after s e).proposed c ≡ o → (t : Bool) → nat_lt disks (2 * count disks ((after s e).accepted c)) ≡ t
      → NoMore e ⊎ HasChosen disks (after s e)
  by_test e c is None none t most = inl (none_by e c is (λ v k. let made = k.proposed.is in cc))
  by_test e c is (Some p) made false few = inl (none_by e c is (λ v k. let most = k.majority in let too_few = ltb-false _ _ few in omega arith))
  by_test e c is (Some p) made true most = inr (p.value, (c, record { proposed = record { proposal = p; is = made; value = refl }; majority = ltb-true _ _ most }))

  no_more : (e : Event Value) → NoMore e ⊎ HasChosen disks (after s e)
  no_more e = by_ballot (ballot_of e) refl
    where
      by_ballot : (o : Option ℕ) → ballot_of e ≡ o → NoMore e ⊎ HasChosen disks (after s e)
      by_ballot None is = inl (λ b v. chosen_before e b v (λ at. absurd (cc)))
      by_ballot (Some c) is = by_test e c is ((after s e).proposed c) refl (nat_lt disks (2 * count disks ((after s e).accepted c))) refl

-- THE LOG

-- what is put behind a list
kept_behind : {Value : Type 0} (xs : List Value) (x : Value) (k : ℕ) (v : Value) → slice_get xs k ≡ Some v → slice_get (xs ++ x ∷ []) k ≡ Some v
kept_behind [] x k v e = absurd (cc)
kept_behind (y ∷ xs) x zero v e = e
kept_behind (y ∷ xs) x (suc k) v e = kept_behind xs x k v e

stands_behind : {Value : Type 0} (xs : List Value) (x : Value) → slice_get (xs ++ x ∷ []) (length xs) ≡ Some x
stands_behind [] x = refl
stands_behind (y ∷ xs) x = stands_behind xs x

module _ {Value : Type 0} (disks : ℕ) (c : Slots Value) (i : HoldsAll disks c) (values : List Value) (log : IsLog disks c values) where
  -- what is chosen in an event's slot
  module _ (n : ℕ) (e : Event Value) (a : MayMove disks c (At n e)) where
    abbrev next : Slots Value
    next = moved c (At n e)

    abbrev new : State Value
    new = after (c.slot n) e

    is_new : next.slot n ≡ new
    is_new = put_same c.slot n new

    j : HoldsAll disks next
    j = holds_all_moved disks c i (At n e) a

    -- what was chosen is so now
    stays : (k : ℕ) (v : Value) → slice_get values k ≡ Some v → IsChosen disks (next.slot k) v
    stays k v at = value_stays disks (c.slot k) (next.slot k) (grows_moves disks c (At n e ∷ []) i.slots (a, tt) k) v (log.chosen k v at)

    -- one value is chosen in the slot
    one : (v u : Value) → IsChosen disks new v → IsChosen disks new u → u ≡ v
    one = one_chosen disks new (subst (Holds disks) is_new (j.slots n))

    -- the same values are the log, if they have all that is chosen in the slot
    log_stays : ((v : Value) → IsChosen disks new v → slice_get values n ≡ Some v) → IsLog disks next values
    log_stays here = record {
      chosen = stays;
      all = all_put (λ k s. (v : Value) → IsChosen disks s v → slice_get values k ≡ Some v) c.slot n new here (λ k ne. log.all k);
    }

    -- else one more
    log_longer : (v : Value) → IsChosen disks new v → n ≡ length values → IsLog disks next (values ++ v ∷ [])
    log_longer v chosen behind = record {
      chosen = λ k u at. elim (pushed values v k u at) [
        | inl old ↦ stays k u old
        | inr (last, same) ↦ subst (λ x. IsChosen disks (next.slot x) u) (behind ∙ sym last) (subst (λ s. IsChosen disks s u) (sym is_new) (subst (IsChosen disks new) same chosen))
      ];
      all = all_put (λ k s. (u : Value) → IsChosen disks s u → slice_get (values ++ v ∷ []) k ≡ Some u) c.slot n new
          (λ u k. subst (λ x. slice_get (values ++ v ∷ []) x ≡ Some u) (sym behind) (stands_behind values v ∙ ap Some (sym (one v u chosen k))))
          (λ k ne u was. kept_behind values v k u (log.all k u was));
    }

    -- What is chosen in a slot that is not within the log is chosen in the slot behind it: each earlier slot has a value.
    is_behind : (v : Value) → IsChosen disks new v → length values ≤ n → n ≡ length values
    is_behind v (b, k) low = elim (cases_eq (length values) n) [
      | inl same ↦ sym same
      | inr other ↦ (let made = subst (λ (s : State Value). s.proposed b ≡ Some k.proposed.proposal) (sym is_new) k.proposed.is in
          let x = j.order n b k.proposed.proposal made (length values) (omega arith) in
          let was = subst (λ s. IsChosen disks s x.0) (put_other c.slot n new (length values) other) x.1 in
          let within = slice_get_within values (length values) x.0 (log.all (length values) x.0 was) in
          absurd (omega arith))
    ]

    log_after : HasLog disks next
    log_after = elim (no_more disks (c.slot n) e) [
      | inl none ↦ (values, log_stays (λ v (b, k). log.all n v (b, none b v k)))
      | inr (v, chosen) ↦ elim (cases_lt n (length values)) [
        | inl within ↦ (
          values,
          log_stays (λ u k.
              let x = value_below values n within in
              x.1 ∙ ap Some (sym (one x.0 u (subst (λ s. IsChosen disks s x.0) is_new (stays n x.0 x.1)) k))),
        )
        | inr behind ↦ (values ++ v ∷ [], log_longer v chosen (is_behind v chosen behind))
      ]
    ]

  -- so each move leaves a log
  log_moved : (m : Move Value) → MayMove disks c m → HasLog disks (moved c m)
  log_moved (At n e) a = log_after n e a
  log_moved other a = (
    values,
    record {
      chosen = λ k v at. let was = log.chosen k v at in (was.0, record { proposed = was.1.proposed; majority = was.1.majority });
      all = λ k v (b, is). log.all k v (b, record { proposed = is.proposed; majority = is.majority });
    },
  )

pub log_reached : {Value : Type 0} (disks : ℕ) (ms : List (Move Value)) → IsHistory disks ms → HasLog disks (slots_after ms)
log_reached {Value} disks ms is_history =
    (kept_by moved (MayMove disks) (λ c. HoldsAll disks c × HasLog disks c)
    (λ c m (i, (values, log)) a. (holds_all_moved disks c i m a, log_moved disks c i values log m a))
    none_learned ms (holds_all_at_start disks, log_at_start) is_history).1
  where
    log_at_start : HasLog disks (none_learned {Value = Value})
    log_at_start = ([], record { chosen = λ k v at. absurd (cc); all = λ k v (b, is). absurd (let made = is.proposed.is in cc) })

-- At a later place the log has the same values, and perhaps more.
pub log_grows : {Value : Type 0} (disks : ℕ) (early late : List (Move Value)) → IsHistory disks (early ++ late) → LogGrows disks (slots_after early) (slots_after (early ++ late))
log_grows disks early late =
    at_two_places disks (LogGrows disks) early late
    (λ c i a values longer log next k v at.
    next.all k v (value_stays disks (c.slot k) ((moves c late).slot k) (grows_moves disks c late i.slots a k) v (log.chosen k v at)))

-- What is learned is chosen, and so stands in the log.
pub learns_log : {Value : Type 0} (disks : ℕ) (ms : List (Move Value)) → IsHistory disks ms → LearnsLog disks (slots_after ms)
learns_log disks ms is_history h values log k v at = log.all k v ((holds_all_reached disks ms is_history).learned h k v at)
