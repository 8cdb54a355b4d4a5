-- Host 0 alone has the values of a list chosen, slot by slot.
use Rattle.std.specs.Prelude.{nat_lt, slice_get}
use Rattle.std.proofs.Common.{ℕ, zero, suc, ◌+◌, ◌≤◌, ◌≡◌, ◌≢◌, ◌==◌, ◌⊎◌, inl, inr, Bool, true, false, cond, Option, Some, None, List, [], ◌∷◌, ◌++◌, length, map, append-nil, append_assoc, refl, sym, subst, ap, ◌∙◌, arith}
use Rattle.std.proofs.lemmas.Bool.{cases_eq, cases_lt, eqb-true, ne_eqb, cond-true, cond-false, lt-ltb, le-ltb}
use Rattle.std.proofs.lemmas.List.{length_push}
use Rattle.agreement.specs.State.{put, Block, blank, Cell, away, seen, read_one, read_two, State, start}
use Rattle.agreement.specs.Event.{Event, after, at_rest, at_stage, proposal_of}
use Rattle.agreement.specs.Event.Event.{Stops, Takes, Proposes}
use Rattle.agreement.specs.Chosen.{IsInput, IsChosenBy}
use Rattle.agreement.specs.Log.{Slots, Move, IsNextSlot, MayMove, moved, none_learned, moves, AllMayMove, events_at, events_of_slot}
use Rattle.agreement.specs.Log.Move.{At, Learn, Restart}
use Rattle.agreement.specs.Placed.{over, asked, looks, asks_on, tells_on, placing, placed_from, placed, voted, ArePlaced}
use Rattle.agreement.proofs.Puts.{put_same, put_other}
use Rattle.agreement.proofs.Steps.{state_by-append, may_both}
use Rattle.agreement.proofs.Placing.{until, until_below, until_from, put_twice, all_majority, none_accepted, none_proposed, Reaches, alone, come_to, entered, voting, all_seen, all_asked, proposes_v, accepted_to, untouched, telling, places}

-- INPUTS

-- host 0 proposes v, and nobody anything else
abbrev ProposesOnly : {Value : Type 0} → Value → Event Value → Type 0
ProposesOnly v (Proposes h a u) = (h ≡ 0) × (u ≡ v)
ProposesOnly v other = Unit {0}

abbrev AllPropose : {Value : Type 0} → Value → List (Event Value) → Type 0
AllPropose v [] = Unit {0}
AllPropose v (e ∷ es) = ProposesOnly v e × AllPropose v es

module _ {Value : Type 0} (v : Value) where
  propose_both : (xs ys : List (Event Value)) → AllPropose v xs → AllPropose v ys → AllPropose v (xs ++ ys)
  propose_both [] ys a b = b
  propose_both (x ∷ xs) ys a b = (a.0, propose_both xs ys a.1 b)

  propose_over : (f : ℕ → List (Event Value)) → ((d : ℕ) → AllPropose v (f d)) → (n : ℕ) → AllPropose v (over f n)
  propose_over f each zero = tt
  propose_over f each (suc n) = propose_both (over f n) (f n) (propose_over f each n) (each n)

  placing_proposes : (disks : ℕ) → AllPropose v (placing disks v)
  placing_proposes disks = (
    tt,
    propose_both (over looks disks) (Takes 0 _ 1 ∷ (over asks_on disks ++ Proposes 0 asked v ∷ over (tells_on v) disks)) (propose_over looks (λ d. (tt, tt)) disks) (
      tt,
      propose_both (over asks_on disks) (Proposes 0 asked v ∷ over (tells_on v) disks) (propose_over asks_on (λ d. (tt, (tt, (tt, tt)))) disks)
          ((refl, refl), propose_over (tells_on v) (λ d. (tt, (tt, (tt, tt)))) disks),
    ),
  )

  input_only : (es : List (Event Value)) (u : Value) → AllPropose v es → IsInput es u → u ≡ v
  input_only [] u a input = absurd input
  input_only (Proposes h a w ∷ es) u all (inl puts) = sym puts.1 ∙ all.0.1
  input_only (e ∷ es) u all (inr later) = input_only es u all.1 later
  input_only (other ∷ es) u all (inl nothing) = absurd nothing

-- MOVES OF ONE SLOT

put_own : {A : Type 0} (f : ℕ → A) (k : ℕ) (x : A) → f k ≡ x → put f k x ≡ f
put_own f k x is = λ i. λ j. (go j) i
  where
    go : (j : ℕ) → put f k x j ≡ f j
    go j = elim (cases_eq j k) [
      | inl same ↦ ap (put f k x) same ∙ put_same f k x ∙ sym is ∙ ap f (sym same)
      | inr other ↦ put_other f k x j other
    ]

module _ {Value : Type 0} (disks : ℕ) where
  record Moves (c : Slots Value) (ms : List (Move Value)) (e : Slots Value) : Type 0 where
    pub may : AllMayMove disks c ms
    pub comes : moves c ms ≡ e

  moves_both : (c d e : Slots Value) (early late : List (Move Value)) → Moves c early d → Moves d late e → Moves c (early ++ late) e
  moves_both c d e early late a b =
      record {
        may = may_both moved (MayMove disks) c early late a.may (subst (λ (x : Slots Value). AllMayMove disks x late) (sym a.comes) b.may);
        comes = state_by-append moved c early late ∙ ap (λ (x : Slots Value). moves x late) a.comes ∙ b.comes;
      }

  next_slot : (v : Value) (c : Slots Value) (k : ℕ) (e : Event Value) → k ≡ length (c.learned 0) → ProposesOnly v e → IsNextSlot c k e
  next_slot v c k (Proposes h a u) is only = is ∙ ap (λ (g : ℕ). length (c.learned g)) (sym only.0)
  next_slot v c k other is only = tt

  in_slot : (v : Value) (c : Slots Value) (k : ℕ) (es : List (Event Value)) (t : State Value) → Reaches disks (c.slot k) es t → AllPropose v es → k ≡ length (c.learned 0)
      → Moves c (map (At k) es) (record { slot = put c.slot k t; learned = c.learned })
  in_slot v c k [] t reaches only is = record { may = tt; comes = λ i. record { slot = (sym (put_own c.slot k t reaches.comes)) i; learned = c.learned } }
  in_slot v c k (e ∷ es) t reaches only is =
      let x = after (c.slot k) e in
      let next = moved c (At k e) in
      let here : next.slot k ≡ x = put_same c.slot k x in
      let rest : Reaches disks x es t = record { allowed = reaches.allowed.1; comes = reaches.comes } in
      let later = in_slot v next k es t (subst (λ (s : State Value). Reaches disks s es t) (sym here) rest) only.1 is in
      record {
        may = ((reaches.allowed.0, next_slot v c k e is only.0), later.may);
        comes = later.comes ∙ (λ i. record { slot = (put_twice c.slot k x t) i; learned = c.learned });
      }

  -- ALL SLOTS

  abbrev slot_with : Option Value → State Value
  slot_with None = start
  slot_with (Some v) = telling disks v disks

  -- so many slots have their values, and host 0 has learned them
  abbrev slots_with : List Value → Slots Value
  slots_with before = record { slot = λ k. slot_with (slice_get before k); learned = put (λ h. []) 0 before }

  none_behind : (xs : List Value) → slice_get xs (length xs) ≡ None
  none_behind [] = refl
  none_behind (x ∷ xs) = none_behind xs

  get_behind : (xs : List Value) (v : Value) (k : ℕ) → slice_get (xs ++ v ∷ []) k ≡ put (slice_get xs) (length xs) (Some v) k
  get_behind [] v zero = refl
  get_behind [] v (suc k) = sym (put_other (slice_get []) 0 (Some v) (suc k) (λ e. absurd (omega (arith, e))))
  get_behind (x ∷ xs) v zero = sym (put_other (slice_get (x ∷ xs)) (suc (length xs)) (Some v) 0 (λ e. absurd (omega (arith, e))))
  get_behind (x ∷ xs) v (suc k) = get_behind xs v k ∙ same k
    where
      same : (k : ℕ) → put (slice_get xs) (length xs) (Some v) k ≡ put (slice_get (x ∷ xs)) (suc (length xs)) (Some v) (suc k)
      same k = elim (cases_eq k (length xs)) [
        | inl is ↦ ap (put (slice_get xs) (length xs) (Some v)) is ∙ put_same (slice_get xs) (length xs) (Some v)
            ∙ sym (put_same (slice_get (x ∷ xs)) (suc (length xs)) (Some v)) ∙ ap (λ (j : ℕ). put (slice_get (x ∷ xs)) (suc (length xs)) (Some v) (suc j)) (sym is)
        | inr other ↦ put_other (slice_get xs) (length xs) (Some v) k other ∙ sym (put_other (slice_get (x ∷ xs)) (suc (length xs)) (Some v) (suc k) (λ e. other (let f : k ≡ length xs = omega (arith, e) in f)))
      ]

  slots_more : (before : List Value) (v : Value) (k : ℕ) → put (λ k. slot_with (slice_get before k)) (length before) (telling disks v disks) k ≡ slot_with (slice_get (before ++ v ∷ []) k)
  slots_more before v k = elim (cases_eq k (length before)) [
    | inl is ↦ ap (put (λ k. slot_with (slice_get before k)) (length before) (telling disks v disks)) is ∙ put_same (λ k. slot_with (slice_get before k)) (length before) (telling disks v disks)
        ∙ sym (ap slot_with (get_behind before v k ∙ ap (put (slice_get before) (length before) (Some v)) is ∙ put_same (slice_get before) (length before) (Some v)))
    | inr other ↦ put_other (λ k. slot_with (slice_get before k)) (length before) (telling disks v disks) k other
        ∙ sym (ap slot_with (get_behind before v k ∙ put_other (slice_get before) (length before) (Some v) k other))
  ]

  module _ (some : 1 ≤ disks) where
    chosen_in_slot : (v : Value) → IsChosenBy disks (telling disks v disks) 1 v
    unfolding alone proposes_v accepted_to come_to voting
    chosen_in_slot v =
        let p = proposal_of asked v (all_asked disks) in
        record {
          proposed = record { proposal = p; is = put_same (none_proposed disks) 1 (Some p); value = refl };
          majority = all_majority disks (accepted_to disks v disks 1) some
              (λ d below. ap (λ (f : ℕ → Bool). f d) (put_same none_accepted 1 (until disks true (λ d. false))) ∙ until_below disks true (λ d. false) d below);
        }

    placed_behind : (before values : List Value) → Moves (slots_with before) (placed_from disks (length before) values) (slots_with (before ++ values))
    placed_behind before [] = record { may = tt; comes = ap slots_with (sym (append-nil before)) }
    placed_behind before (v ∷ values) =
        let k = length before in
        let c = slots_with before in
        let es = placing disks v in
        let d : Slots Value = record { slot = put c.slot k (telling disks v disks); learned = c.learned } in
        let fresh : c.slot k ≡ start = ap slot_with (none_behind before) in
        let first = in_slot v c k es (telling disks v disks) (subst (λ (s : State Value). Reaches disks s es (telling disks v disks)) (sym fresh) (places disks v some)) (placing_proposes v disks) refl in
        let learn : Moves d (Learn 0 k 1 v ∷ []) (slots_with (before ++ v ∷ [])) =
        record {
          may = ((refl, subst (λ (s : State Value). IsChosenBy disks s 1 v) (sym (put_same c.slot k (telling disks v disks))) (chosen_in_slot v)), tt);
          comes = λ i. record { slot = λ j. (slots_more before v j) i; learned = (put_twice (λ h. []) 0 before (before ++ v ∷ [])) i };
        } in
        let number : length (before ++ v ∷ []) ≡ suc k = omega (arith, length_push before v) in
        let rest : Moves (slots_with (before ++ v ∷ [])) (placed_from disks (suc k) values) (slots_with (before ++ v ∷ values)) =
        subst (λ (n : ℕ). Moves (slots_with (before ++ v ∷ [])) (placed_from disks n values) (slots_with (before ++ v ∷ values))) number
        (subst (λ (l : List Value). Moves (slots_with (before ++ v ∷ [])) (placed_from disks (length (before ++ v ∷ [])) values) (slots_with l)) (append_assoc before (v ∷ []) values)
        (placed_behind (before ++ v ∷ []) values)) in
        moves_both c d (slots_with (before ++ v ∷ values)) (map (At k) es) (Learn 0 k 1 v ∷ placed_from disks (suc k) values) first
        (moves_both d (slots_with (before ++ v ∷ [])) (slots_with (before ++ v ∷ values)) (Learn 0 k 1 v ∷ []) (placed_from disks (suc k) values) learn rest)

    at_first : slots_with [] ≡ none_learned
    at_first = λ i. record { slot = λ k. start; learned = (put_own (λ h. []) 0 [] refl) i }

    -- and then host 0 stops
    stopped : List Value → Slots Value
    stopped values = moved (slots_with values) (Restart 0)

    all_placed : (values : List Value) → Moves none_learned (placed disks values) (stopped values)
    unfolding stopped
    all_placed values =
        moves_both none_learned (slots_with values) (moved (slots_with values) (Restart 0)) (placed_from disks 0 values) (Restart 0 ∷ [])
        (subst (λ (c : Slots Value). Moves c (placed_from disks 0 values) (slots_with values)) at_first (placed_behind [] values))
        (record { may = (tt, tt); comes = refl })

    other_blank : (o : Option Value) (h d : ℕ) → (slot_with o).cell (suc h) d ≡ at_rest blank away
    unfolding alone
    other_blank None h d = refl
    other_blank (Some v) h d =
        ap (λ (f : ℕ → Cell Value). f d) (put_other (λ h d. record { confirmed = blank; writing = None; stage = away }) 0 (until disks (come_to disks (voting disks v) read_two) (all_asked disks)) (suc h) (λ e. absurd (omega (arith, e))))

    cell_other : (o : Option Value) (h d : ℕ) → (after (slot_with o) (Stops 0)).cell (suc h) d ≡ at_rest (cond (suc h == 0) (cond (nat_lt d disks) (voted o) blank) blank) away
    unfolding alone
    cell_other o h d =
        let other : suc h ≢ 0 = λ e. absurd (omega (arith, e)) in
        let s = slot_with o in
        ap (λ (f : ℕ → Cell Value). f d) (put_other s.cell 0 (λ d. at_stage (s.cell 0 d) away) (suc h) other)
        ∙ other_blank o h d
        ∙ ap (λ (x : Block Value). at_rest x away) (sym (cond-false (suc h == 0) (cond (nat_lt d disks) (voted o) blank) blank (ne_eqb (suc h) 0 other)))

    cell_stopped : (o : Option Value) (h d : ℕ) → (after (slot_with o) (Stops 0)).cell h d ≡ at_rest (cond (h == 0) (cond (nat_lt d disks) (voted o) blank) blank) away
    unfolding alone come_to voting all_asked all_seen
    cell_stopped None zero d = elim (cases_lt d disks) [
      | inl below ↦ ap (λ (x : Block Value). at_rest x away) (sym (cond-true (nat_lt d disks) blank blank (lt-ltb d disks below)))
      | inr from ↦ ap (λ (x : Block Value). at_rest x away) (sym (cond-false (nat_lt d disks) blank blank (le-ltb d disks from)))
    ]
    cell_stopped None (suc h) d = cell_other None h d
    cell_stopped (Some v) zero d = elim (cases_lt d disks) [
      | inl below ↦
          ap (λ (x : Cell Value). record { confirmed = x.confirmed; writing = x.writing; stage = away }) (until_below disks (come_to disks (voting disks v) read_two) (all_asked disks) d below)
          ∙ ap (λ (x : Block Value). at_rest x away) (sym (cond-true (nat_lt d disks) (voted (Some v)) blank (lt-ltb d disks below)))
      | inr from ↦
          ap (λ (x : Cell Value). record { confirmed = x.confirmed; writing = x.writing; stage = away })
          (until_from disks (come_to disks (voting disks v) read_two) (all_asked disks) d from ∙ until_from disks (come_to disks (entered disks) read_one) (all_seen disks) d from ∙ until_from disks (come_to disks blank seen) (untouched disks) d from)
          ∙ ap (λ (x : Block Value). at_rest x away) (sym (cond-false (nat_lt d disks) (voted (Some v)) blank (le-ltb d disks from)))
    ]
    cell_stopped (Some v) (suc h) d = cell_other (Some v) h d

    learned_none : (values : List Value) (h : ℕ) → (stopped values).learned h ≡ []
    unfolding stopped
    learned_none values zero = refl
    learned_none values (suc h) =
        let other : suc h ≢ 0 = λ e. absurd (omega (arith, e)) in
        put_other (put (λ h. []) 0 values) 0 [] (suc h) other ∙ put_other (λ h. []) 0 values (suc h) other

    chosen_stopped : (values : List Value) (k : ℕ) (v : Value) → slice_get values k ≡ Some v → IsChosenBy disks ((stopped values).slot k) 1 v
    unfolding stopped
    chosen_stopped values k v is =
        let c = chosen_in_slot v in
        subst (λ (o : Option Value). IsChosenBy disks (after (slot_with o) (Stops 0)) 1 v) (sym is) (record { proposed = c.proposed; majority = c.majority })

    -- INPUTS

    input_either : (xs ys : List (Event Value)) (v : Value) → IsInput (xs ++ ys) v → IsInput xs v ⊎ IsInput ys v
    input_either [] ys v input = inr input
    input_either (x ∷ xs) ys v (inl puts) = inl (inl puts)
    input_either (x ∷ xs) ys v (inr later) = elim (input_either xs ys v later) [ inl a ↦ inl (inr a) | inr b ↦ inr b ]

    events_both : (k : ℕ) (ms late : List (Move Value)) → events_of_slot k (ms ++ late) ≡ events_of_slot k ms ++ events_of_slot k late
    events_both k [] late = refl
    events_both k (m ∷ ms) late = ap (λ (es : List (Event Value)). events_at k m ++ es) (events_both k ms late) ∙ sym (append_assoc (events_at k m) (events_of_slot k ms) (events_of_slot k late))

    input_of_slot : (j k : ℕ) (es : List (Event Value)) (v : Value) → IsInput (events_of_slot j (map (At k) es)) v → (j ≡ k) × IsInput es v
    input_of_slot j k [] v input = absurd input
    input_of_slot j k (e ∷ es) v input = go (j == k) refl input (input_of_slot j k es v)
      where
        go : (b : Bool) → (j == k) ≡ b → IsInput (cond b (e ∷ []) [] ++ events_of_slot j (map (At k) es)) v → (IsInput (events_of_slot j (map (At k) es)) v → (j ≡ k) × IsInput es v) → (j ≡ k) × IsInput (e ∷ es) v
        go true is (inl puts) rest = (eqb-true j k is, inl puts)
        go true is (inr later) rest = (eqb-true j k is, inr (rest later).1)
        go false is later rest = let x = rest later in (x.0, inr x.1)

    input_from : (n j : ℕ) (values : List Value) (v : Value) → IsInput (events_of_slot j (placed_from disks n values)) v → (i : ℕ) × (j ≡ n + i) × (slice_get values i ≡ Some v)
    input_from n j [] v input = absurd input
    input_from n j (u ∷ values) v input =
        elim (input_either (events_of_slot j (map (At n) (placing disks u))) (events_of_slot j (Learn 0 n 1 u ∷ placed_from disks (suc n) values)) v
        (subst (λ (es : List (Event Value)). IsInput es v) (events_both j (map (At n) (placing disks u)) (Learn 0 n 1 u ∷ placed_from disks (suc n) values)) input)) [
          | inl here ↦ (let x = input_of_slot j n (placing disks u) v here in (0, omega (arith, x.0), ap Some (sym (input_only u (placing disks u) v (placing_proposes u disks) x.1))))
          | inr later ↦ (let x = input_from (suc n) j values v later in (suc x.0, (let a = x.1 in omega (arith, a)), x.2))
        ]

    inputs_placed : (values : List Value) (k : ℕ) (v : Value) → IsInput (events_of_slot k (placed disks values)) v → slice_get values k ≡ Some v
    inputs_placed values k v input =
        elim (input_either (events_of_slot k (placed_from disks 0 values)) (events_of_slot k (Restart 0 ∷ [])) v (subst (λ (es : List (Event Value)). IsInput es v) (events_both k (placed_from disks 0 values) (Restart 0 ∷ [])) input)) [
          | inl here ↦ (let x = input_from 0 k values v here in let at = x.1 in let same : k ≡ x.0 = omega (arith, at) in ap (slice_get values) same ∙ x.2)
          | inr (inl nothing) ↦ absurd nothing
          | inr (inr nothing) ↦ absurd nothing
        ]

    -- so the values are placed
    pub are_placed : (values : List Value) → ArePlaced disks values
    unfolding stopped
    are_placed values =
        let all = all_placed values in
        record {
          history = all.may;
          cells = λ k h d. ap (λ (c : Slots Value). (c.slot k).cell h d) all.comes ∙ cell_stopped (slice_get values k) h d;
          learned = λ h. ap (λ (c : Slots Value). c.learned h) all.comes ∙ learned_none values h;
          chosen = λ k v is. subst (λ (c : Slots Value). IsChosenBy disks (c.slot k) 1 v) (sym all.comes) (chosen_stopped values k v is);
          inputs = inputs_placed values;
        }
