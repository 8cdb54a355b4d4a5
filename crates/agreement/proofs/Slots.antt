-- Many slots: each is a run of its own, what is learned is chosen, and slots are proposed in order.
use Rattle.std.proofs.Common.{ℕ, zero, suc, ◌<◌, ◌≡◌, ◌==◌, ◌⊎◌, inl, inr, Bool, true, false, cond, Some, List, [], ◌∷◌, ◌++◌, length, refl, sym, subst, ap, ◌∙◌, arith}
use Rattle.std.specs.Prelude.{slice_get}
use Rattle.std.proofs.lemmas.Bool.{eqb-true, cases_lt, cases_eq}
use Rattle.agreement.specs.State.{Proposal, State}
use Rattle.agreement.specs.Event.{Event, Allowed, AllAllowed, after, run}
use Rattle.agreement.specs.Event.Event.{Starts, Proposes}
use Rattle.agreement.specs.Chosen.{IsChosen, HasChosen, IsEmpty}
use Rattle.agreement.specs.Log.{Slots, Move, IsNextSlot, MayMove, moved, none_learned, moves, AllMayMove, IsHistory, slots_after, events_at, events_of_slot}
use Rattle.agreement.specs.Log.Move.{At, Crash, Learn, Restart}
use Rattle.agreement.specs.Claims.{IsInOrder, LearnsChosen, OneChosenEach, OneLog, ChosenBelow, LearnedBelow}
use Rattle.agreement.proofs.Invariant.{Holds}
use Rattle.agreement.proofs.Puts.{all_put, put_same}
use Rattle.agreement.proofs.Growing.{Grows, value_stays, has_chosen_stays}
use Rattle.agreement.proofs.Steps.{state_by-append, may_early, may_late, may_both, kept_by}
use Rattle.agreement.proofs.Runs.{holds_at_start, holds_run, grows_run}
use Rattle.agreement.proofs.Agreeing.{one_chosen}
use Rattle.agreement.proofs.Missing.{nothing_chosen}

-- EACH SLOT IS A RUN OF ITS OWN

module _ {Value : Type 0} (k : ℕ) where
  -- a move is its events there
  pub slot_moved : (c : Slots Value) (m : Move Value) → (moved c m).slot k ≡ run (c.slot k) (events_at k m)
  slot_moved c (At j e) = go (k == j) refl
    where
      go : (t : Bool) → (k == j) ≡ t → cond t (after (c.slot j) e) (c.slot k) ≡ run (c.slot k) (cond t (e ∷ []) [])
      go true same = ap (λ x. after (c.slot x) e) (sym (eqb-true k j same))
      go false other = refl
  slot_moved c (Crash d left) = refl
  slot_moved c (Learn h j ballot v) = refl
  slot_moved c (Restart h) = refl

  -- which are allowed
  pub allowed_moved : (disks : ℕ) (c : Slots Value) (m : Move Value) → MayMove disks c m → AllAllowed disks (c.slot k) (events_at k m)
  allowed_moved disks c (At j e) a = go (k == j) refl
    where
      go : (t : Bool) → (k == j) ≡ t → AllAllowed disks (c.slot k) (cond t (e ∷ []) [])
      go true same = (subst (λ x. Allowed disks (c.slot x) e) (sym (eqb-true k j same)) a.0, tt)
      go false other = tt
  allowed_moved disks c (Crash d left) a = (a k, tt)
  allowed_moved disks c (Learn h j ballot v) a = tt
  allowed_moved disks c (Restart h) a = (tt, tt)

  -- so are all moves
  pub slot_moves : (c : Slots Value) (ms : List (Move Value)) → (moves c ms).slot k ≡ run (c.slot k) (events_of_slot k ms)
  slot_moves c [] = refl
  slot_moves c (m ∷ ms) =
      slot_moves (moved c m) ms
      ∙ (ap (λ s. run s (events_of_slot k ms)) (slot_moved c m) ∙ sym (state_by-append after (c.slot k) (events_at k m) (events_of_slot k ms)))

  pub allowed_moves : (disks : ℕ) (c : Slots Value) (ms : List (Move Value)) → AllMayMove disks c ms → AllAllowed disks (c.slot k) (events_of_slot k ms)
  allowed_moves disks c [] a = tt
  allowed_moves disks c (m ∷ ms) a =
      may_both after (Allowed disks) (c.slot k) (events_at k m) (events_of_slot k ms) (allowed_moved disks c m a.0)
      (subst (λ s. AllAllowed disks s (events_of_slot k ms)) (slot_moved c m) (allowed_moves disks (moved c m) ms a.1))

-- what has happened in a slot stays so
pub grows_moves : {Value : Type 0} (disks : ℕ) (c : Slots Value) (ms : List (Move Value)) → ((k : ℕ) → Holds disks (c.slot k)) → AllMayMove disks c ms → (k : ℕ) → Grows (c.slot k) ((moves c ms).slot k)
grows_moves disks c ms i a k =
    subst (Grows (c.slot k)) (sym (slot_moves k c ms)) (grows_run disks (c.slot k) (events_of_slot k ms) (i k) (allowed_moves k disks c ms a))

-- WHAT HOLDS OF ALL SLOTS

pub record HoldsAll {Value : Type 0} (disks : ℕ) (c : Slots Value) : Type 0 where
  pub slots : (k : ℕ) → Holds disks (c.slot k)
  pub learned : LearnsChosen disks c
  pub order : IsInOrder disks c

-- each slot below the number of those learned has its value
pub value_below : {Value : Type 0} (xs : List Value) (k : ℕ) → k < length xs → (v : Value) × (slice_get xs k ≡ Some v)
value_below [] k l = absurd (omega arith)
value_below (x ∷ xs) zero l = (x, refl)
value_below (x ∷ xs) (suc k) l = value_below xs k (omega arith)

-- a value at a place is an old one, or the one that is put behind them
pub pushed : {Value : Type 0} (xs : List Value) (x : Value) (k : ℕ) (v : Value) → slice_get (xs ++ x ∷ []) k ≡ Some v → (slice_get xs k ≡ Some v) ⊎ ((k ≡ length xs) × (x ≡ v))
pushed [] x zero v e = inr (refl, cc)
pushed [] x (suc k) v e = absurd (cc)
pushed (y ∷ xs) x zero v e = inl e
pushed (y ∷ xs) x (suc k) v e = elim (pushed xs x k v e) [ inl old ↦ inl old | inr new ↦ inr (ap suc new.0, new.1) ]

module _ {Value : Type 0} (disks : ℕ) (c : Slots Value) (i : HoldsAll disks c) where
  -- what is learned after a move was so before, or is chosen
  abbrev WasLearned : ℕ → List Value → Type 0
  WasLearned h xs = (k : ℕ) (v : Value) → slice_get xs k ≡ Some v → (slice_get (c.learned h) k ≡ Some v) ⊎ IsChosen disks (c.slot k) v

  -- that is so of each move
  learned_before : (m : Move Value) → MayMove disks c m → (h : ℕ) → WasLearned h ((moved c m).learned h)
  learned_before (Learn g j ballot w) a = all_put WasLearned c.learned g (c.learned g ++ w ∷ [])
      (λ k v e. elim (pushed (c.learned g) w k v e) [
        | inl old ↦ inl old
        | inr new ↦ inr (subst (λ x. IsChosen disks (c.slot x) v) (a.0 ∙ sym new.0)
            (subst (IsChosen disks (c.slot j)) new.1 (ballot, a.1)))
      ])
      (λ h ne k v e. inl e)
  learned_before (Restart g) a = all_put WasLearned c.learned g [] (λ k v e. absurd (cc)) (λ h ne k v e. inl e)
  learned_before other a = λ h k v e. inl e

  -- a proposal that is there after a move was there before, or is made behind the slots that some host has learned
  abbrev WasProposed : ℕ → State Value → Type 0
  WasProposed k s = (b : ℕ) (p : Proposal Value) → s.proposed b ≡ Some p → ((q : Proposal Value) × ((c.slot k).proposed b ≡ Some q)) ⊎ ((h : ℕ) × (k ≡ length (c.learned h)))

  event_before : (k : ℕ) (e : Event Value) → IsNextSlot c k e → WasProposed k (after (c.slot k) e)
  event_before k (Proposes h t value) next = λ b p made. inr (h, next)
  event_before k other next = λ b p made. inl (p, made)

  -- that too
  proposed_before : (m : Move Value) → MayMove disks c m → (k : ℕ) → WasProposed k ((moved c m).slot k)
  proposed_before (At j e) a = all_put WasProposed c.slot j (after (c.slot j) e) (event_before j e a.1) (λ k ne b p made. inl (p, made))
  proposed_before other a = λ k b p made. inl (p, made)

  -- Each move keeps what holds of all slots.
  pub holds_all_moved : (m : Move Value) → MayMove disks c m → HoldsAll disks (moved c m)
  holds_all_moved m a = record {
    slots = λ k. subst (Holds disks) (sym (slot_moved k c m)) (holds_run disks (c.slot k) (events_at k m) (i.slots k) (allowed_moved k disks c m a));
    learned = λ h k v e. value_stays disks (c.slot k) ((moved c m).slot k) (grow k) v
        (elim (learned_before m a h k v e) [ inl old ↦ i.learned h k v old | inr new ↦ new ]);
    order = λ k b p made j l. has_chosen_stays disks (c.slot j) ((moved c m).slot j) (grow j)
        (elim (proposed_before m a k b p made) [ inl old ↦ i.order k b old.0 old.1 j l | inr new ↦ earlier new.0 k j new.1 l ]);
  }
    where
      grow : (k : ℕ) → Grows (c.slot k) ((moved c m).slot k)
      grow = grows_moves disks c (m ∷ []) i.slots (a, tt)

      -- the slots before the next one are learned, and so chosen
      earlier : (h k j : ℕ) → k ≡ length (c.learned h) → j < k → HasChosen disks (c.slot j)
      earlier h k j next l = let x = value_below (c.learned h) j (omega arith) in (x.0, i.learned h j x.0 x.1)

-- so it holds of each history
pub holds_all_at_start : {Value : Type 0} (disks : ℕ) → HoldsAll disks (none_learned {Value = Value})
holds_all_at_start disks = record { slots = λ k. holds_at_start disks; learned = λ h k v e. absurd (cc); order = λ k b p made. absurd (cc) }

pub holds_all_moves : {Value : Type 0} (disks : ℕ) (c : Slots Value) (ms : List (Move Value)) → HoldsAll disks c → AllMayMove disks c ms → HoldsAll disks (moves c ms)
holds_all_moves disks = kept_by moved (MayMove disks) (HoldsAll disks) (λ c m i a. holds_all_moved disks c i m a)

pub holds_all_reached : {Value : Type 0} (disks : ℕ) (ms : List (Move Value)) → IsHistory disks ms → HoldsAll disks (slots_after ms)
holds_all_reached disks ms is_history = holds_all_moves disks none_learned ms (holds_all_at_start disks) is_history

-- AT TWO PLACES

module _ {Value : Type 0} (disks : ℕ) (c : Slots Value) (i : HoldsAll disks c) (late : List (Move Value)) where
  -- one value is chosen for a slot
  pub same_chosen : AllMayMove disks c late → OneChosenEach disks c (moves c late)
  same_chosen a k v u was is =
      one_chosen disks ((moves c late).slot k) ((holds_all_moves disks c late i a).slots k) v u
      (value_stays disks (c.slot k) ((moves c late).slot k) (grows_moves disks c late i.slots a k) v was) is

  -- and so what two hosts have learned for it is one value
  pub same_entries : AllMayMove disks c late → OneLog c (moves c late)
  same_entries a h g k v u e f = same_chosen a k v u (i.learned h k v e) ((holds_all_moves disks c late i a).learned g k u f)

  -- Host h begins an attempt on slot n, which finds no vote: what was chosen before is below n, and so what was learned.
  pub chosen_below : (n h : ℕ) → AllMayMove disks (moved c (At n (Starts h))) late → IsEmpty disks ((moves (moved c (At n (Starts h))) late).slot n) h → ChosenBelow disks c n
  chosen_below n h a empty k v (b, chosen) = elim (cases_lt k n) [
    | inl below ↦ below
    | inr above ↦ absurd (none (elim (cases_eq k n) [
      | inl same ↦ subst (λ x. HasChosen disks (c.slot x)) same (v, (b, chosen))
      | inr other ↦ i.order k b chosen.proposed.proposal chosen.proposed.is n (omega arith)
    ]))
  ]
    where
      begun : State Value
      begun = after (c.slot n) (Starts h)

      is_begun : (moved c (At n (Starts h))).slot n ≡ begun
      is_begun = put_same c.slot n begun

      events : List (Event Value)
      events = events_of_slot n late

      none : ¬ HasChosen disks (c.slot n)
      none = nothing_chosen disks (c.slot n) h events (i.slots n)
          (subst (λ s. AllAllowed disks s events) is_begun (allowed_moves n disks (moved c (At n (Starts h))) late a))
          (subst (λ s. IsEmpty disks (run s events) h) is_begun (subst (λ s. IsEmpty disks s h) (slot_moves n (moved c (At n (Starts h))) late) empty))

-- What holds of any slots and of those after some moves, holds at two places of a history.
pub at_two_places : {Value : Type 0} (disks : ℕ) (P : Slots Value → Slots Value → Type 0) (early late : List (Move Value))
    → ((c : Slots Value) → HoldsAll disks c → AllMayMove disks c late → P c (moves c late))
    → IsHistory disks (early ++ late) → P (slots_after early) (slots_after (early ++ late))
at_two_places disks P early late holds is_history =
    subst (P (slots_after early)) (sym (state_by-append moved none_learned early late))
    (holds (slots_after early) (holds_all_reached disks early (may_early moved (MayMove disks) none_learned early late is_history))
    (may_late moved (MayMove disks) none_learned early late is_history))

module _ {Value : Type 0} (disks : ℕ) (early late : List (Move Value)) where
  -- what is claimed of two places
  pub one_value_each : IsHistory disks (early ++ late) → OneChosenEach disks (slots_after early) (slots_after (early ++ late))
  one_value_each = at_two_places disks (OneChosenEach disks) early late (λ c i. same_chosen disks c i late)

  pub one_log : IsHistory disks (early ++ late) → OneLog (slots_after early) (slots_after (early ++ late))
  one_log = at_two_places disks OneLog early late (λ c i. same_entries disks c i late)

  pub no_shorter : (n h : ℕ) → IsHistory disks (early ++ At n (Starts h) ∷ late) → IsEmpty disks ((slots_after (early ++ At n (Starts h) ∷ late)).slot n) h
      → ChosenBelow disks (slots_after early) n × LearnedBelow (slots_after early) n
  no_shorter n h = at_two_places disks (λ c e. IsEmpty disks (e.slot n) h → ChosenBelow disks c n × LearnedBelow c n) early (At n (Starts h) ∷ late)
      (λ c i a empty. let below = chosen_below disks c i late n h a.1 empty in (below, λ g k v e. below k v (i.learned g k v e)))
