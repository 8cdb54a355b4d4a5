-- The parts of a list that tests pick.
use Rattle.std.proofs.Common.{◌≡◌, ◌≤◌, ◌+◌, ℕ, zero, suc, Bool, true, false, cond, not, ◌||◌, ◌==◌, List, [], ◌∷◌, ◌++◌, length, Option, Some, None, refl, sym, ap, ◌∙◌, arith}
use Rattle.std.specs.List.{filter, find, list_any}
use Rattle.std.proofs.lemmas.Bool.{eq-eqb}
use Rattle.std.proofs.lemmas.List.Elements.{filter-append}
use Rattle.std.proofs.lemmas.Map.Views.{any-filter_same}

pub same_truth : (a b : Bool) → (a ≡ true → b ≡ true) → (b ≡ true → a ≡ true) → a ≡ b
same_truth true b there back = sym (there refl)
same_truth false true there back = back refl
same_truth false false there back = refl

pub or_false : (a b : Bool) → (a || b) ≡ false → (a ≡ false) × (b ≡ false)
or_false true b h = let impossible : ⊥ = cc in absurd impossible
or_false false b h = (refl, h)

-- the first of a list
abbrev pub first : {X : Type 0} → List X → Option X
first [] = None
first (x ∷ xs) = Some x

pub find_is_first : {X : Type 0} (P : X → Bool) (xs : List X) → find P xs ≡ first (filter P xs)
find_is_first P [] = refl
find_is_first P (x ∷ xs) = elim (P x) as (λ b. cond b (Some x) (find P xs) ≡ first (cond b (x ∷ filter P xs) (filter P xs))) [
  | true ↦ refl
  | false ↦ find_is_first P xs
]

pub filter-filter : {X : Type 0} (P Q : X → Bool) (xs : List X) → filter P (filter Q xs) ≡ filter Q (filter P xs)
filter-filter P Q [] = refl
filter-filter P Q (x ∷ xs) =
    elim (P x) as (λ p. P x ≡ p → filter P (cond (Q x) (x ∷ filter Q xs) (filter Q xs)) ≡ filter Q (cond p (x ∷ filter P xs) (filter P xs))) [
      | true ↦ λ e. elim (Q x) as (λ q. filter P (cond q (x ∷ filter Q xs) (filter Q xs)) ≡ cond q (x ∷ filter Q (filter P xs)) (filter Q (filter P xs))) [
        | true ↦ ap (λ p. cond p (x ∷ filter P (filter Q xs)) (filter P (filter Q xs))) e ∙ ap (λ ys. x ∷ ys) (filter-filter P Q xs)
        | false ↦ filter-filter P Q xs
      ]
      | false ↦ λ e. elim (Q x) as (λ q. filter P (cond q (x ∷ filter Q xs) (filter Q xs)) ≡ filter Q (filter P xs)) [
        | true ↦ ap (λ p. cond p (x ∷ filter P (filter Q xs)) (filter P (filter Q xs))) e ∙ filter-filter P Q xs
        | false ↦ filter-filter P Q xs
      ]
    ] refl

-- a filter changes nothing where a stricter one follows
pub filter_within : {X : Type 0} (P Q : X → Bool) → ((x : X) → P x ≡ true → Q x ≡ true) → (xs : List X) → filter P (filter Q xs) ≡ filter P xs
filter_within P Q stricter [] = refl
filter_within P Q stricter (x ∷ xs) =
    elim (Q x) as (λ q. Q x ≡ q → filter P (cond q (x ∷ filter Q xs) (filter Q xs)) ≡ cond (P x) (x ∷ filter P xs) (filter P xs)) [
      | true ↦ λ e. ap (λ ys. cond (P x) (x ∷ ys) ys) (filter_within P Q stricter xs)
      | false ↦ λ e. elim (P x) as (λ p. P x ≡ p → filter P (filter Q xs) ≡ cond p (x ∷ filter P xs) (filter P xs)) [
        | true ↦ λ f. let clash : false ≡ true = sym e ∙ stricter x f in let impossible : ⊥ = cc in absurd impossible
        | false ↦ λ f. filter_within P Q stricter xs
      ] refl
    ] refl

pub any_within : {X : Type 0} (P Q : X → Bool) → ((x : X) → P x ≡ true → Q x ≡ true) → (xs : List X) → list_any P (filter Q xs) ≡ list_any P xs
any_within P Q stricter xs = any-filter_same P Q true stricter xs

-- what does not pass in a list does not in a part of it
pub any_filter : {X : Type 0} (P Q : X → Bool) (xs : List X) → list_any P xs ≡ false → list_any P (filter Q xs) ≡ false
any_filter P Q [] h = refl
any_filter P Q (x ∷ xs) h =
    let parts = or_false (P x) (list_any P xs) h in
    elim (Q x) as (λ b. list_any P (cond b (x ∷ filter Q xs) (filter Q xs)) ≡ false) [
      | true ↦ ap (λ b. b || list_any P (filter Q xs)) parts.0 ∙ any_filter P Q xs parts.1
      | false ↦ any_filter P Q xs parts.1
    ]

pub any_from_filter : {X : Type 0} (P Q : X → Bool) (xs : List X) → list_any P (filter Q xs) ≡ true → list_any P xs ≡ true
any_from_filter P Q xs h = elim (list_any P xs) as (λ b. list_any P xs ≡ b → b ≡ true) [
  | true ↦ λ e. refl
  | false ↦ λ e. sym (any_filter P Q xs e) ∙ h
] refl

pub length_parts : {X : Type 0} (P : X → Bool) (xs : List X) → length (filter P xs) + length (filter (λ x. not (P x)) xs) ≡ length xs
length_parts P [] = refl
length_parts P (x ∷ xs) =
    elim (P x) as (λ b. length (cond b (x ∷ filter P xs) (filter P xs)) + length (cond (not b) (x ∷ filter (λ y. not (P y)) xs) (filter (λ y. not (P y)) xs)) ≡ suc (length xs)) [
      | true ↦ omega (arith, length_parts P xs)
      | false ↦ omega (arith, length_parts P xs)
    ]

module _ {X : Type 0} (key : X → ℕ) where
  abbrev pub has : ℕ → X → Bool
  has n x = key x == n

  -- under each key the same elements, in the same order
  abbrev pub AlikeBy : List X → List X → Type 0
  AlikeBy xs ys = (n : ℕ) → filter (has n) xs ≡ filter (has n) ys

  has_own : (x : X) → has (key x) x ≡ true
  has_own x = eq-eqb (key x) (key x) refl

  pub AlikeBy-filter : (Q : X → Bool) (xs ys : List X) → AlikeBy xs ys → AlikeBy (filter Q xs) (filter Q ys)
  AlikeBy-filter Q xs ys alike n = filter-filter (has n) Q xs ∙ ap (filter Q) (alike n) ∙ filter-filter Q (has n) ys

  pub AlikeBy-append : (zs xs ys : List X) → AlikeBy xs ys → AlikeBy (xs ++ zs) (ys ++ zs)
  AlikeBy-append zs xs ys alike n = filter-append (has n) xs zs ∙ ap (λ l. l ++ filter (has n) zs) (alike n) ∙ sym (filter-append (has n) ys zs)

  -- what passes stands under some key
  holder : (P : X → Bool) (xs : List X) → list_any P xs ≡ true → (x : X) × (list_any P (filter (has (key x)) xs) ≡ true)
  holder P [] h = let impossible : ⊥ = cc in absurd impossible
  holder P (x ∷ xs) h =
      elim (P x) as (λ b. P x ≡ b → (b || list_any P xs) ≡ true → (y : X) × (list_any P (filter (has (key y)) (x ∷ xs)) ≡ true)) [
        | true ↦ λ e t. (x, ap (λ b. list_any P (cond b (x ∷ filter (has (key x)) xs) (filter (has (key x)) xs))) (has_own x) ∙ ap (λ b. b || list_any P (filter (has (key x)) xs)) e)
        | false ↦ λ e t.
            let tail = holder P xs t in (
              tail.0,
              elim (has (key tail.0) x) as (λ b. list_any P (cond b (x ∷ filter (has (key tail.0)) xs) (filter (has (key tail.0)) xs)) ≡ true) [
                | true ↦ ap (λ b. b || list_any P (filter (has (key tail.0)) xs)) e ∙ tail.1
                | false ↦ tail.1
              ],
            )
      ] refl h

  any_follows : (P : X → Bool) (xs ys : List X) → AlikeBy xs ys → list_any P xs ≡ true → list_any P ys ≡ true
  any_follows P xs ys alike h =
      let held = holder P xs h in
      any_from_filter P (has (key held.0)) ys (ap (list_any P) (sym (alike (key held.0))) ∙ held.1)

  pub any_alike : (P : X → Bool) (xs ys : List X) → AlikeBy xs ys → list_any P xs ≡ list_any P ys
  any_alike P xs ys alike = same_truth _ _ (any_follows P xs ys alike) (any_follows P ys xs (λ n. sym (alike n)))

  pub find_alike : (n : ℕ) (xs ys : List X) → AlikeBy xs ys → find (has n) xs ≡ find (has n) ys
  find_alike n xs ys alike = find_is_first (has n) xs ∙ ap first (alike n) ∙ sym (find_is_first (has n) ys)

  counted : (x : X) (xs : List X) → length (filter (has (key x)) (x ∷ xs)) ≡ suc (length (filter (has (key x)) xs))
  counted x xs = ap (λ b. length (cond b (x ∷ filter (has (key x)) xs) (filter (has (key x)) xs))) (has_own x)

  length_within : (n : ℕ) (xs ys : List X) → length xs ≤ n → AlikeBy xs ys → length xs ≡ length ys
  length_within n [] [] few alike = refl
  length_within n [] (y ∷ ys) few alike = absurd (omega (arith, counted y ys, ap length (alike (key y))))
  length_within zero (x ∷ xs) ys few alike = absurd (omega (arith, few))
  length_within (suc n) (x ∷ xs) ys few alike =
      let others = length_within n (filter (λ y. not (has (key x) y)) (x ∷ xs)) (filter (λ y. not (has (key x) y)) ys) (omega (arith, few, counted x xs, length_parts (has (key x)) (x ∷ xs))) (AlikeBy-filter (λ y. not (has (key x) y)) (x ∷ xs) ys alike) in
      omega (arith, others, length_parts (has (key x)) (x ∷ xs), length_parts (has (key x)) ys, ap length (alike (key x)))

  pub length_alike : (xs ys : List X) → AlikeBy xs ys → length xs ≡ length ys
  length_alike xs ys alike = length_within (length xs) xs ys (omega arith) alike
