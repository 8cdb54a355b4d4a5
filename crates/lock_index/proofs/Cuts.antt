-- Ascending lists that are cut in two.
use Rattle.std.proofs.Common.{◌≡◌, ◌<◌, ◌+◌, ℕ, suc, Bool, true, false, cond, not, ◌&&◌, List, [], ◌∷◌, ◌++◌, length, get_or, take, drop, insert, Some, None, refl, sym, ap, subst, ◌∙◌, inl, inr, arith}
use Rattle.std.specs.List.{find, slice_get, AllWithin}
use Rattle.std.specs.List.Sorted.{IsSorted, IsPartitionedBy, IsPartitionPoint}
use Rattle.std.specs.Ordering.{is_lt}
use Rattle.std.specs.Cmp.{IsStrictWeakOrder}
use Rattle.std.specs.declared.cmp.Ordering.{Ordering}
use Rattle.std.proofs.lemmas.Bool.{not-true, not-false, and_parts}
use Rattle.std.proofs.lemmas.List.{length-take, length-drop, get_or-take, get_or-drop, take-append-drop, drop_more, drop_all}
use Rattle.std.proofs.lemmas.List.Sorted.{sorted_far}
use Rattle.std.proofs.lemmas.Option.{slice_get_cases}
use Rattle.lock_index.specs.Placed.{placed, in_order}
use Rattle.lock_index.proofs.Parts.{first}
use Rattle.lock_index.proofs.Ordered.{Each, IsAscending, each_more, filter-in_order, IsSorted-in_order}
use Rattle.lock_index.proofs.Unique.{one_sorted, not_below_itself}

-- what stands at a place is the first of what is behind it
pub slice_get_is_first : {X : Type 0} (xs : List X) (i : ℕ) → slice_get xs i ≡ first (drop i xs)
slice_get_is_first xs i =
    elim (slice_get_cases xs i).1 as (λ w. slice_get xs i ≡ first (drop i xs)) [
      | inl h ↦ h.2 ∙ sym (ap first (drop_more xs i h.0 h.1) ∙ ap Some h.3)
      | inr h ↦ h.1 ∙ sym (ap first (drop_all i xs h.0))
    ]

module _ {X : Type 0} (cmp : X → X → Ordering) where
  abbrev lt : X → X → Bool
  lt x y = is_lt (cmp x y)

  at_each : (P : X → Type 0) (xs : List X) → ((k : ℕ) (d : X) → k < length xs → P (get_or xs k d)) → Each cmp P xs
  at_each P [] at = tt
  at_each P (x ∷ xs) at = (at 0 x (omega arith), at_each P xs (λ k d inside. at (suc k) d (omega (arith, inside))))

  -- what holds at each place in front of one holds of each element of that part
  pub each_in_front : (P : X → Type 0) (xs : List X) (i : ℕ) → AllWithin P xs 0 i → Each cmp P (take i xs)
  each_in_front P xs i within = at_each P (take i xs) (λ k d inside.
      let here : k < i = omega (arith, length-take i xs) in
      subst P (sym (get_or-take i xs k d here)) (within k d (omega arith) here))

  pub each_behind : (P : X → Type 0) (xs : List X) (i : ℕ) → AllWithin P xs i (length xs) → Each cmp P (drop i xs)
  each_behind P xs i within = at_each P (drop i xs) (λ k d inside. subst P (sym (get_or-drop i xs k d)) (within (i + k) d (omega arith) (omega (arith, length-drop i xs))))

  pub ascends_behind : (A B : List X) → IsAscending cmp (A ++ B) → IsAscending cmp B
  ascends_behind [] B up = up
  ascends_behind (a ∷ A) B up = ascends_behind A B up.1

  pub placed_between : (x : X) (A B : List X) → Each cmp (λ y. lt x y ≡ false) A → Each cmp (λ y. lt x y ≡ true) B → A ++ x ∷ B ≡ placed cmp x (A ++ B)
  placed_between x [] [] low high = refl
  placed_between x [] (b ∷ B) low high = ap (λ t. cond t (x ∷ (b ∷ B)) (b ∷ placed cmp x B)) (sym high.0)
  placed_between x (a ∷ A) B low high =
      ap (λ l. a ∷ l) (placed_between x A B low.1 high) ∙ ap (λ t. cond t (x ∷ (a ∷ (A ++ B))) (a ∷ placed cmp x (A ++ B))) (sym low.0)

  -- what is put in where a list is cut is placed
  pub inserted_is_placed : (x : X) (xs : List X) (i : ℕ) → IsPartitionPoint (λ y. not (lt x y) ≡ true) (λ y. not (lt x y) ≡ false) xs i → insert xs i x ≡ placed cmp x xs
  inserted_is_placed x xs i point =
      placed_between x (take i xs) (drop i xs)
      (each_more cmp (λ y. not (lt x y) ≡ true) (λ y. lt x y ≡ false) (λ y h. not-true (lt x y) h) (take i xs) (each_in_front (λ y. not (lt x y) ≡ true) xs i point.0))
      (each_more cmp (λ y. not (lt x y) ≡ false) (λ y. lt x y ≡ true) (λ y h. not-false (lt x y) h) (drop i xs) (each_behind (λ y. not (lt x y) ≡ false) xs i point.1))
      ∙ ap (placed cmp x) (take-append-drop i xs)

  each_put_in : (P : X → Type 0) (x : X) (A B : List X) → P x → Each cmp P (A ++ B) → Each cmp P (A ++ x ∷ B)
  each_put_in P x [] B one each = (one, each)
  each_put_in P x (a ∷ A) B one each = (each.0, each_put_in P x A B one each.1)

  pub ascends_between : (x : X) (A B : List X) → IsAscending cmp (A ++ B) → Each cmp (λ y. lt x y ≡ false) A → Each cmp (λ y. lt y x ≡ false) B → IsAscending cmp (A ++ x ∷ B)
  ascends_between x [] B up low high = (high, up)
  ascends_between x (a ∷ A) B up low high = (each_put_in (λ y. lt y a ≡ false) x A B low.0 up.0, ascends_between x A B up.1 low.1 high)

  each_taken_out : (P : X → Type 0) (x : X) (A B : List X) → Each cmp P (A ++ x ∷ B) → Each cmp P (A ++ B)
  each_taken_out P x [] B each = each.1
  each_taken_out P x (a ∷ A) B each = (each.0, each_taken_out P x A B each.1)

  pub ascends_taken_out : (x : X) (A B : List X) → IsAscending cmp (A ++ x ∷ B) → IsAscending cmp (A ++ B)
  ascends_taken_out x [] B up = up.1
  ascends_taken_out x (a ∷ A) B up = (each_taken_out (λ y. lt y a ≡ false) x A B up.0, ascends_taken_out x A B up.1)

  pub find_none : (P : X → Bool) (xs : List X) → Each cmp (λ y. P y ≡ false) xs → find P xs ≡ None
  find_none P [] each = refl
  find_none P (x ∷ xs) each = ap (λ t. cond t (Some x) (find P xs)) each.0 ∙ find_none P xs each.1

  pub find_behind : (P : X → Bool) (A B : List X) → Each cmp (λ y. P y ≡ false) A → find P (A ++ B) ≡ find P B
  find_behind P [] B each = refl
  find_behind P (a ∷ A) B each = ap (λ t. cond t (Some a) (find P (A ++ B))) each.0 ∙ find_behind P A B each.1

  -- who is found does not stand among those that it does not tie with
  pub found_behind : (P : X → Bool) (own : X) (A B : List X) → lt own own ≡ false → Each cmp (λ y. lt y own ≡ true) A → find P (A ++ B) ≡ Some own → find P B ≡ Some own
  found_behind P own [] B itself low found = found
  found_behind P own (a ∷ A) B itself low found =
      elim (P a) as (λ t. cond t (Some a) (find P (A ++ B)) ≡ Some own → find P B ≡ Some own) [
        | true ↦ λ e.
            let same : a ≡ own = cc in
            let below : true ≡ false = sym low.0 ∙ ap (λ y. lt y own) same ∙ itself in
            let impossible : ⊥ = cc in absurd impossible
        | false ↦ λ e. found_behind P own A B itself low.1 e
      ] found

  module _ (order : IsStrictWeakOrder lt) where
    -- a test that holds of all below one that passes cuts an ascending list
    pub partitioned : (p : X → Bool) → ((x y : X) → lt y x ≡ false → p y ≡ true → p x ≡ true) → (xs : List X) → IsSorted cmp xs → IsPartitionedBy p xs
    partitioned p down xs up i j d before inside passes = down (get_or xs i d) (get_or xs j d) (sorted_far lt order xs up i j d before inside) passes

    pub in_order_sorted : (xs : List X) → IsSorted cmp xs → in_order cmp xs ≡ xs
    in_order_sorted xs up =
        one_sorted cmp order (in_order cmp xs) xs (IsSorted-in_order cmp order xs) up
        (λ z. filter-in_order cmp order (λ y. not (lt z y) && not (lt y z)) (λ x y one two.
        order.chain x z y (not-true (lt x z) (and_parts (not (lt z x)) (not (lt x z)) one).1) (not-true (lt z y) (and_parts (not (lt z y)) (not (lt y z)) two).0)) xs)

    -- what is found stands behind those that are below it
    pub found_from : (P : X → Bool) (own : X) (xs : List X) (i : ℕ) → AllWithin (λ y. lt y own ≡ true) xs 0 i → find P xs ≡ Some own → find P (drop i xs) ≡ Some own
    found_from P own xs i below found =
        found_behind P own (take i xs) (drop i xs) (not_below_itself cmp order own) (each_in_front (λ y. lt y own ≡ true) xs i below) (ap (find P) (take-append-drop i xs) ∙ found)
