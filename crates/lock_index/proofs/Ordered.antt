-- To place one element after the other sorts, and leaves those that tie in their order.
use Rattle.std.proofs.Common.{◌≡◌, ◌≤◌, ◌<◌, ◌+◌, ℕ, zero, suc, Bool, true, false, cond, List, [], ◌∷◌, ◌++◌, length, get_or, refl, sym, ap, ◌∙◌, arith, append_assoc, length-append}
use Rattle.std.specs.List.{filter, fold}
use Rattle.std.specs.List.Sorted.{IsSorted}
use Rattle.std.specs.Ordering.{is_lt}
use Rattle.std.specs.Cmp.{IsStrictWeakOrder}
use Rattle.std.specs.declared.cmp.Ordering.{Ordering}
use Rattle.std.proofs.lemmas.List.{append-nil, nil_from_length}
use Rattle.lock_index.specs.Placed.{placed, in_order}

module _ {X : Type 0} (cmp : X → X → Ordering) where
  abbrev lt : X → X → Bool
  lt x y = is_lt (cmp x y)

  abbrev pub Each : (X → Type 0) → List X → Type 0
  Each P [] = Unit {0}
  Each P (x ∷ xs) = P x × Each P xs

  abbrev pub IsAscending : List X → Type 0
  IsAscending [] = Unit {0}
  IsAscending (x ∷ xs) = Each (λ y. lt y x ≡ false) xs × IsAscending xs

  pub each_more : (P Q : X → Type 0) → ((x : X) → P x → Q x) → (xs : List X) → Each P xs → Each Q xs
  each_more P Q more [] each = tt
  each_more P Q more (x ∷ xs) each = (more x each.0, each_more P Q more xs each.1)

  each-placed : (P : X → Type 0) (x : X) (ys : List X) → P x → Each P ys → Each P (placed cmp x ys)
  each-placed P x [] one each = (one, tt)
  each-placed P x (y ∷ ys) one each =
      elim (lt x y) as (λ t. Each P (cond t (x ∷ (y ∷ ys)) (y ∷ placed cmp x ys))) [
        | true ↦ (one, each)
        | false ↦ (each.0, each-placed P x ys one each.1)
      ]

  each_any : (xs : List X) → Each (λ x. Unit {0}) xs
  each_any [] = tt
  each_any (x ∷ xs) = (tt, each_any xs)

  pub clash : (b : Bool) → b ≡ true → b ≡ false → ⊥
  clash b yes_is no_is = let both : true ≡ false = sym yes_is ∙ no_is in cc

  none_kept : (P : X → Bool) (ys : List X) → Each (λ z. P z ≡ false) ys → filter P ys ≡ []
  none_kept P [] each = refl
  none_kept P (y ∷ ys) each = ap (λ t. cond t (y ∷ filter P ys) (filter P ys)) each.0 ∙ none_kept P ys each.1

  pub each_refused : (P : X → Bool) (ys : List X) → filter P ys ≡ [] → Each (λ z. P z ≡ false) ys
  each_refused P [] none = tt
  each_refused P (y ∷ ys) none =
      elim (P y) as (λ t. P y ≡ t → cond t (y ∷ filter P ys) (filter P ys) ≡ [] → (P y ≡ false) × Each (λ z. P z ≡ false) ys) [
        | true ↦ λ e h. let impossible : ⊥ = cc in absurd impossible
        | false ↦ λ e h. (e, each_refused P ys h)
      ] refl none

  kept_one : (P : X → Bool) (x : X) (xs ys : List X) → (xs ++ filter P (x ∷ [])) ++ filter P ys ≡ xs ++ filter P (x ∷ ys)
  kept_one P x xs ys = append_assoc xs (filter P (x ∷ [])) (filter P ys) ∙ elim (P x) as (λ t. xs ++ (cond t (x ∷ []) [] ++ filter P ys) ≡ xs ++ cond t (x ∷ filter P ys) (filter P ys)) [
    | true ↦ refl
    | false ↦ refl
  ]

  module _ (order : IsStrictWeakOrder lt) where
    -- what is not below y is below nothing that y is not above
    before_rest : (x y : X) (ys : List X) → lt x y ≡ true → Each (λ z. lt z y ≡ false) ys → Each (λ z. lt x z ≡ true) ys
    before_rest x y ys less each = each_more (λ z. lt z y ≡ false) (λ z. lt x z ≡ true) (λ z h. elim (lt x z) as (λ t. lt x z ≡ t → t ≡ true) [
      | true ↦ λ e. refl
      | false ↦ λ e. absurd (clash (lt x y) less (order.chain x z y e h))
    ] refl) ys each

    pub IsAscending-placed : (x : X) (ys : List X) → IsAscending ys → IsAscending (placed cmp x ys)
    IsAscending-placed x [] up = (tt, tt)
    IsAscending-placed x (y ∷ ys) up =
        elim (lt x y) as (λ t. lt x y ≡ t → IsAscending (cond t (x ∷ (y ∷ ys)) (y ∷ placed cmp x ys))) [
          | true ↦ λ e.
              let back : lt y x ≡ false = order.one_way x y e in
              ((back, each_more (λ z. lt z y ≡ false) (λ z. lt z x ≡ false) (λ z h. order.chain z y x h back) ys up.0), up)
          | false ↦ λ e. (each-placed (λ z. lt z y ≡ false) x ys e up.0, IsAscending-placed x ys up.1)
        ] refl

    refused : (P : X → Bool) (x : X) (ys : List X) → P x ≡ true → Each (λ z. P x ≡ true → P z ≡ true → lt x z ≡ false) ys → Each (λ z. lt x z ≡ true) ys → Each (λ z. P z ≡ false) ys
    refused P x [] own tied later = tt
    refused P x (z ∷ ys) own tied later = (
      elim (P z) as (λ t. P z ≡ t → t ≡ false) [
        | true ↦ λ e. absurd (clash (lt x z) later.0 (tied.0 own e))
        | false ↦ λ e. refl
      ] refl,
      refused P x ys own tied.1 later.1,
    )

    -- an element stands behind those that tie with it
    pub filter-placed : (P : X → Bool) (x : X) (ys : List X) → IsAscending ys → Each (λ z. P x ≡ true → P z ≡ true → lt x z ≡ false) ys → filter P (placed cmp x ys) ≡ filter P ys ++ filter P (x ∷ [])
    filter-placed P x [] up tied = refl
    filter-placed P x (y ∷ ys) up tied =
        elim (lt x y) as (λ t. lt x y ≡ t → filter P (cond t (x ∷ (y ∷ ys)) (y ∷ placed cmp x ys)) ≡ filter P (y ∷ ys) ++ filter P (x ∷ [])) [
          | true ↦ λ e. elim (P x) as (λ p. P x ≡ p → cond p (x ∷ filter P (y ∷ ys)) (filter P (y ∷ ys)) ≡ filter P (y ∷ ys) ++ cond p (x ∷ []) []) [
            | true ↦ λ own.
                let later : Each (λ z. lt x z ≡ true) (y ∷ ys) = (e, before_rest x y ys e up.0) in
                let none : filter P (y ∷ ys) ≡ [] = none_kept P (y ∷ ys) (refused P x (y ∷ ys) own tied later) in
                ap (λ l. x ∷ l) none ∙ ap (λ l. l ++ x ∷ []) (sym none)
            | false ↦ λ own. sym (append-nil (filter P (y ∷ ys)))
          ] refl
          | false ↦ λ e. ap (λ l. cond (P y) (y ∷ l) l) (filter-placed P x ys up.1 tied.1) ∙ elim (P y) as (λ p. cond p (y ∷ (filter P ys ++ filter P (x ∷ []))) (filter P ys ++ filter P (x ∷ [])) ≡ cond p (y ∷ filter P ys) (filter P ys) ++ filter P (x ∷ [])) [
            | true ↦ refl
            | false ↦ refl
          ]
        ] refl

    -- a test whose elements all tie
    pub filter-in_order_from : (P : X → Bool) → ((x z : X) → P x ≡ true → P z ≡ true → lt x z ≡ false) → (sorted xs : List X) → IsAscending sorted
        → filter P (fold (λ s x. placed cmp x s) sorted xs) ≡ filter P sorted ++ filter P xs
    filter-in_order_from P tie sorted [] up = sym (append-nil (filter P sorted))
    filter-in_order_from P tie sorted (x ∷ xs) up =
        filter-in_order_from P tie (placed cmp x sorted) xs (IsAscending-placed x sorted up)
        ∙ ap (λ l. l ++ filter P xs) (filter-placed P x sorted up (each_more (λ z. Unit {0}) (λ z. P x ≡ true → P z ≡ true → lt x z ≡ false) (λ z h. tie x z) sorted (each_any sorted)))
        ∙ kept_one P x (filter P sorted) xs

    pub filter-in_order : (P : X → Bool) → ((x z : X) → P x ≡ true → P z ≡ true → lt x z ≡ false) → (xs : List X) → filter P (in_order cmp xs) ≡ filter P xs
    filter-in_order P tie xs = filter-in_order_from P tie [] xs tt

    -- a test that one element passes at most
    single_from : (P : X → Bool) (sorted xs : List X) → IsAscending sorted → length (filter P sorted) + length (filter P xs) ≤ 1
        → filter P (fold (λ s x. placed cmp x s) sorted xs) ≡ filter P sorted ++ filter P xs
    single_from P sorted [] up few = sym (append-nil (filter P sorted))
    single_from P sorted (x ∷ xs) up few =
        let tied : Each (λ z. P x ≡ true → P z ≡ true → lt x z ≡ false) sorted = elim (P x) as (λ t. P x ≡ t → length (filter P sorted) + length (cond t (x ∷ filter P xs) (filter P xs)) ≤ 1 → Each (λ z. t ≡ true → P z ≡ true → lt x z ≡ false) sorted) [
          | true ↦ λ e h. each_more (λ z. P z ≡ false) (λ z. true ≡ true → P z ≡ true → lt x z ≡ false) (λ z no_is own yes_is. absurd (clash (P z) yes_is no_is)) sorted (each_refused P sorted (nil_from_length (filter P sorted) (omega (arith, h))))
          | false ↦ λ e h. each_more (λ z. Unit {0}) (λ z. false ≡ true → P z ≡ true → lt x z ≡ false) (λ z t own. let impossible : ⊥ = cc in absurd impossible) sorted (each_any sorted)
        ] refl few in
        let step = filter-placed P x sorted up tied in
        let counts : length (filter P (placed cmp x sorted)) + length (filter P xs) ≤ 1 =
        let one : length (filter P (placed cmp x sorted)) ≡ length (filter P sorted) + length (filter P (x ∷ [])) = ap length step ∙ length-append (filter P sorted) (filter P (x ∷ [])) in
        let two : length (filter P (x ∷ xs)) ≡ length (filter P (x ∷ [])) + length (filter P xs) = elim (P x) as (λ t. length (cond t (x ∷ filter P xs) (filter P xs)) ≡ length (cond t (x ∷ []) []) + length (filter P xs)) [
          | true ↦ omega arith
          | false ↦ omega arith
        ] in
        omega (arith, few) in
        single_from P (placed cmp x sorted) xs (IsAscending-placed x sorted up) counts
        ∙ ap (λ l. l ++ filter P xs) step
        ∙ kept_one P x (filter P sorted) xs

    pub filter-in_order_single : (P : X → Bool) (xs : List X) → length (filter P xs) ≤ 1 → filter P (in_order cmp xs) ≡ filter P xs
    filter-in_order_single P xs few = single_from P [] xs tt (omega (arith, few))

    ascends_from : (sorted xs : List X) → IsAscending sorted → IsAscending (fold (λ s x. placed cmp x s) sorted xs)
    ascends_from sorted [] up = up
    ascends_from sorted (x ∷ xs) up = ascends_from (placed cmp x sorted) xs (IsAscending-placed x sorted up)

    sorted_at : (xs : List X) (k : ℕ) (d : X) → IsAscending xs → k + 1 < length xs → lt (get_or xs (k + 1) d) (get_or xs k d) ≡ false
    sorted_at [] k d up far = absurd (omega (arith, far))
    sorted_at (x ∷ []) k d up far = absurd (omega (arith, far))
    sorted_at (x ∷ (y ∷ ys)) zero d up far = up.0.0
    sorted_at (x ∷ (y ∷ ys)) (suc k) d up far =
        let more : suc k + 1 ≡ suc (k + 1) = omega arith in
        rw more (sorted_at (y ∷ ys) k d up.1 (omega (arith, far)))

    pub sorted_from_ascending : (xs : List X) → IsAscending xs → IsSorted cmp xs
    sorted_from_ascending xs up k d from far = sorted_at xs k d up far

    pub IsSorted-in_order : (xs : List X) → IsSorted cmp (in_order cmp xs)
    IsSorted-in_order xs = sorted_from_ascending (in_order cmp xs) (ascends_from [] xs tt)
