-- Where in what is lived a core is what the first deeds of its host make of it, and by which deeds a call is due.
use Rattle.std.specs.Prelude.{drop}
use Rattle.std.proofs.Common.{ℕ, zero, suc, ◌≡◌, ◌+◌, ◌≤◌, ◌⊎◌, true, Option, Some, None, List, [], ◌∷◌, ◌++◌, refl, sym, ◌∙◌, ap, ap₂, subst, inl, inr, arith}
use Rattle.std.proofs.lemmas.Bool.{cases_Bool, eqb-true}
use Rattle.std.proofs.lemmas.List.{append-nil}
use Rattle.paxos_block.specs.Shape.{Shape}
use Rattle.host.specs.Host.{Host, Stopped}
use Rattle.endless.specs.Lived.{part, now}
use Rattle.endless.specs.WithoutEnd.{host_by}
use Rattle.epoch_deeds.specs.Deeds.{Deed, Deeds, Calls, core_in, core_step}
use Rattle.epoch_runs.specs.World.{Entry, Does, Breaks, BreaksIn, Ends, Crashes, Loses, Replaces, World, opening, no_deeds, deeds_after, after, Crashing, GoesFrom, Goes}
use Rattle.epoch_runs.specs.Living.{Showing, showing_next, lived_of, place_of, deeds_from, shown_to, core_now}
use Rattle.epoch_runs.specs.Laws.{KeepsOrder}
use Rattle.epoch_runs.proofs.Lists.{core_more, deeds_here}
use Rattle.epoch_runs.proofs.Order.{order_is_kept}
use Rattle.epoch_runs.proofs.Pending.{is_by, deeds_of_others, IsPending, pending, pending_reads}

-- a beginning of a longer list is the whole of it, or a beginning of the list
pub split_last : {A : Type 0} (before behind xs : List A) (x : A) → xs ++ x ∷ [] ≡ before ++ behind → (before ≡ xs ++ x ∷ []) ⊎ ((less : List A) × (xs ≡ before ++ less))
split_last [] behind xs x same = inr (xs, refl)
split_last {A = A} (y ∷ before) behind [] x same = inl (ended before behind (let rest : [] ≡ before ++ behind = cc in rest) (let first : x ≡ y = cc in first))
  where
    ended : (one other : List A) → [] ≡ one ++ other → x ≡ y → y ∷ one ≡ x ∷ []
    ended [] other none first = ap (λ (z : A). z ∷ []) (sym first)
    ended (z ∷ one) other none first = absurd (cc)
split_last {A = A} (y ∷ before) behind (z ∷ xs) x same =
    let first : z ≡ y = cc in
    let rest : xs ++ x ∷ [] ≡ before ++ behind = cc in
    elim (split_last before behind xs x rest) [
      | inl whole ↦ inl (ap₂ (λ (a : A) (l : List A). a ∷ l) (sym first) whole)
      | inr part ↦ inr (part.0, ap₂ (λ (a : A) (l : List A). a ∷ l) first part.1)
    ]

pub nothing_before : {A : Type 0} (before behind : List A) → [] ≡ before ++ behind → before ≡ []
nothing_before [] behind same = refl
nothing_before (x ∷ before) behind same = absurd (cc)

module _ (crashing : Crashing) (c : Shape) (all : List Entry) (goes_all : Goes crashing c all) where
  keeps : KeepsOrder c all
  keeps = order_is_kept crashing c all goes_all

  -- the core of a host in an epoch by an entry's place in what is lived
  abbrev core_at : (i e h : ℕ) → Host
  core_at i e h = host_by c (part e (lived_of c all)) (now e (place_of c all i) (lived_of c all)) h

  -- at the place of no later entry it was what these deeds make of it, in each epoch
  abbrev HasPlace : (i h : ℕ) → Deeds → Type 0
  HasPlace i h before = (m : ℕ) × (m ≤ i) × ((e : ℕ) → core_at m e h ≡ core_in c h e before)

  -- so it is with each beginning of what a host did
  abbrev HavePlaces : (i : ℕ) → (ℕ → Deeds) → Type 0
  HavePlaces i deeds = (h : ℕ) (before behind : Deeds) → deeds h ≡ before ++ behind → HasPlace i h before

  nobody_at_first : (e h : ℕ) → core_at 0 e h ≡ Stopped
  nobody_at_first e h = refl

  none_has : (i h : ℕ) (before : Deeds) → before ≡ [] → HasPlace i h before
  none_has i h before none = (0, omega arith, λ e. nobody_at_first e h ∙ ap (λ (l : Deeds). core_in c h e l) (sym none))

  place_later : (i j h : ℕ) (before : Deeds) → i ≤ j → HasPlace i h before → HasPlace j h before
  place_later i j h before order has = (has.0, (let low = has.1 in omega (arith, order, low)), has.2)

  -- entries from the i-th one on
  abbrev CoresOn : (i : ℕ) → (ℕ → Deeds) → List Entry → Type 0
  CoresOn i deeds entries = (j e h : ℕ) → core_at (i + j) e h ≡ core_now c h e (deeds_from deeds j entries) (drop j entries)

  -- a deed more
  module _ (i : ℕ) (w : World) (entry : Entry) (entries : List Entry) (goes : GoesFrom crashing c w (entry ∷ entries)) (cores : CoresOn i w.deeds (entry ∷ entries)) (places : HavePlaces i w.deeds) where
    abbrev next : ℕ → Deeds
    next = deeds_after w.deeds entry

    core_next : (e h : ℕ) → core_at (suc i) e h ≡ core_now c h e next entries
    core_next e h = ap (λ (n : ℕ). core_at n e h) (let same : suc i ≡ i + 1 = omega arith in same) ∙ cores 1 e h

    whole_has : (h : ℕ) (deed : Deed) → next h ≡ w.deeds h ++ deed ∷ [] → HasPlace (suc i) h (w.deeds h ++ deed ∷ [])
    whole_has h deed is = either (showing_next h entries) refl
      where
        either : (s : Option Showing) → showing_next h entries ≡ s → HasPlace (suc i) h (w.deeds h ++ deed ∷ [])
        either None none = (suc i, omega arith, λ e. core_next e h ∙ ap₂ (λ (l : Deeds) (s : Option Showing). shown_to c h e (core_in c h e l) s) is none)
        either (Some s) shown =
            let it = subst (λ (l : Deeds). IsPending c h l s) is (pending crashing c h entries (after w entry goes.0) s goes.2 shown) in
            let reads : deed ≡ Calls s.disk _ = pending_reads c h (w.deeds h) deed s it in
            let was = places h (w.deeds h) [] (sym (append-nil (w.deeds h))) in (
              was.0,
              (let low = was.1 in omega (arith, low)),
              λ e. was.2 e ∙ sym (core_more c h e Stopped (w.deeds h) deed ∙ ap (core_step c h e (core_in c h e (w.deeds h))) reads),
            )

    does_has : (h : ℕ) (deed : Deed) → next h ≡ w.deeds h ++ deed ∷ [] → (before behind : Deeds) → next h ≡ before ++ behind → HasPlace (suc i) h before
    does_has h deed is before behind same =
        elim (split_last before behind (w.deeds h) deed (sym is ∙ same)) [
          | inl whole ↦ subst (HasPlace (suc i) h) (sym whole) (whole_has h deed is)
          | inr less ↦ place_later i (suc i) h before (omega arith) (places h before less.0 less.1)
        ]

    ends_has : (h : ℕ) → next h ≡ [] → (before behind : Deeds) → next h ≡ before ++ behind → HasPlace (suc i) h before
    ends_has h none before behind same = none_has (suc i) h before (nothing_before before behind (sym none ∙ same))

    others_have : (h : ℕ) → next h ≡ w.deeds h → (before behind : Deeds) → next h ≡ before ++ behind → HasPlace (suc i) h before
    others_have h still before behind same = place_later i (suc i) h before (omega arith) (places h before behind (sym still ∙ same))

  places_next : (i : ℕ) (w : World) (entry : Entry) (entries : List Entry) → GoesFrom crashing c w (entry ∷ entries) → CoresOn i w.deeds (entry ∷ entries) → HavePlaces i w.deeds → HavePlaces (suc i) (deeds_after w.deeds entry)
  places_next i w entry entries goes cores places h =
      elim (cases_Bool (is_by h entry)) [
        | inr other ↦ others_have i w entry entries goes cores places h (deeds_of_others h w.deeds entry other)
        | inl own ↦ own_entry entry goes cores own
      ]
    where
      own_entry : (x : Entry) → GoesFrom crashing c w (x ∷ entries) → CoresOn i w.deeds (x ∷ entries) → is_by h x ≡ true → (before behind : Deeds) → deeds_after w.deeds x h ≡ before ++ behind → HasPlace (suc i) h before
      own_entry (Does g deed) go on own =
          does_has i w (Does g deed) entries go on places h deed
          (subst (λ (x : ℕ). deeds_after w.deeds (Does x deed) h ≡ w.deeds h ++ deed ∷ []) (sym (eqb-true g h own)) (deeds_here w.deeds h (w.deeds h ++ deed ∷ [])))
      own_entry (Breaks g k call) go on own =
          ends_has i w (Breaks g k call) entries go on places h (subst (λ (x : ℕ). deeds_after w.deeds (Breaks x k call) h ≡ []) (sym (eqb-true g h own)) (deeds_here w.deeds h []))
      own_entry (BreaksIn epoch g k call) go on own =
          ends_has i w (BreaksIn epoch g k call) entries go on places h (subst (λ (x : ℕ). deeds_after w.deeds (BreaksIn epoch x k call) h ≡ []) (sym (eqb-true g h own)) (deeds_here w.deeds h []))
      own_entry (Ends g) go on own =
          ends_has i w (Ends g) entries go on places h (subst (λ (x : ℕ). deeds_after w.deeds (Ends x) h ≡ []) (sym (eqb-true g h own)) (deeds_here w.deeds h []))
      own_entry (Crashes k) go on own = others_have i w (Crashes k) entries go on places h refl
      own_entry (Loses k) go on own = others_have i w (Loses k) entries go on places h refl
      own_entry (Replaces k first newest) go on own = others_have i w (Replaces k first newest) entries go on places h refl

  cores_on : (i : ℕ) (deeds : ℕ → Deeds) (entry : Entry) (entries : List Entry) → CoresOn i deeds (entry ∷ entries) → CoresOn (suc i) (deeds_after deeds entry) entries
  cores_on i deeds entry entries cores j e h = ap (λ (n : ℕ). core_at n e h) (let same : suc i + j ≡ i + suc j = omega arith in same) ∙ cores (suc j) e h

  places_from : (entries : List Entry) (i : ℕ) (w : World) → GoesFrom crashing c w entries → CoresOn i w.deeds entries → HavePlaces i w.deeds → (j : ℕ) → HavePlaces (i + j) (deeds_from w.deeds j entries)
  places_from entries i w goes cores places zero h before behind same = place_later i (i + 0) h before (omega arith) (places h before behind same)
  places_from [] i w goes cores places (suc j) h before behind same = place_later i (i + suc j) h before (omega arith) (places h before behind same)
  places_from (entry ∷ entries) i w goes cores places (suc j) h before behind same =
      let rest = places_from entries (suc i) (after w entry goes.0) goes.2 (cores_on i w.deeds entry entries cores) (places_next i w entry entries goes cores places) j h before behind same in
      place_later (suc i + j) (i + suc j) h before (omega arith) rest

  cores_first : CoresOn 0 no_deeds all
  cores_first j e h = ap (λ (n : ℕ). core_at n e h) (let same : 0 + j ≡ j = omega arith in same) ∙ keeps.cores j e h

  -- whatever a host did first since its start, each core has a place where it was what this made of it
  pub core_place : (j : ℕ) → HavePlaces j (deeds_from no_deeds j all)
  core_place j h before behind same =
      place_later (0 + j) j h before (omega arith)
      (places_from all 0 (opening c) goes_all cores_first (λ g first rest none. none_has 0 g first (nothing_before first rest none)) j h before behind same)
