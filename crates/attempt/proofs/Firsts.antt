-- The first number below a bound that passes a test, and how many pass.
use Rattle.std.proofs.Common.{ℕ, zero, suc, ◌+◌, ◌<◌, ◌≤◌, ◌≡◌, ◌⊎◌, inl, inr, Bool, true, false, cond, Option, Some, None, refl, sym, subst, ap, ◌∙◌, arith, le_antisymm}
use Rattle.std.proofs.lemmas.Bool.{cases_eq}
use Rattle.attempt.specs.Numbers.{count, found, first_below}

-- THE FIRST

-- nothing is found where neither is
found_none : (o : Option ℕ) (b : Bool) (n : ℕ) → found o b n ≡ None → (o ≡ None) × (b ≡ false)
found_none (Some d) b n e = absurd (cc)
found_none None true n e = absurd (cc)
found_none None false n e = (refl, refl)

-- where there is none, none below the bound passes
pub none_below : (n : ℕ) (g : ℕ → Bool) → first_below n g ≡ None → (d : ℕ) → d < n → g d ≡ false
none_below zero g e d l = absurd (omega arith)
none_below (suc n) g e d l =
    let two = found_none (first_below n g) (g n) n e in
    elim (cases_eq d n) [ inl same ↦ ap g same ∙ two.1 | inr other ↦ none_below n g two.0 d (omega arith) ]

-- and the other way round
pub below_none : (n : ℕ) (g : ℕ → Bool) → ((d : ℕ) → d < n → g d ≡ false) → first_below n g ≡ None
below_none zero g e = refl
below_none (suc n) g e = rw (below_none n g (λ d l. e d (omega arith)), e n (omega arith)) refl

-- a number is the first: it passes, and none before it does
pub record IsFirst (n : ℕ) (g : ℕ → Bool) (d : ℕ) : Type 0 where
  pub below : d < n
  pub passes : g d ≡ true
  pub none : (e : ℕ) → e < d → g e ≡ false

-- what is found is the one before, or the new one
found_some : (o : Option ℕ) (b : Bool) (n d : ℕ) → found o b n ≡ Some d → (o ≡ Some d) ⊎ ((o ≡ None) × (n ≡ d) × (b ≡ true))
found_some (Some e) b n d is = inl is
found_some None true n d is = inr (refl, cc, refl)
found_some None false n d is = absurd (cc)

-- what is found is the first
pub some_below : (n : ℕ) (g : ℕ → Bool) (d : ℕ) → first_below n g ≡ Some d → IsFirst n g d
some_below zero g d e = absurd (cc)
some_below (suc n) g d e =
    elim (found_some (first_below n g) (g n) n d e) [
      | inl old ↦ (let is = some_below n g d old in record { below = omega (arith, is.below); passes = is.passes; none = is.none })
      | inr new ↦
          subst (IsFirst (suc n) g) new.1 (record { below = omega arith; passes = new.2; none = none_below n g new.0 })
    ]

-- and the other way round
pub below_some : (n : ℕ) (g : ℕ → Bool) (d : ℕ) → IsFirst n g d → first_below n g ≡ Some d
below_some zero g d is = absurd (omega (arith, is.below))
below_some (suc n) g d is =
    elim (cases_eq d n) [
      | inl here ↦
          (let none : first_below n g ≡ None = below_none n g (λ e l. is.none e (omega arith)) in
          let passes : g n ≡ true = ap g (sym here) ∙ is.passes in
          rw (none, passes) (ap Some (sym here)))
      | inr there ↦
          (let before : first_below n g ≡ Some d = below_some n g d (record { below = omega (arith, is.below); passes = is.passes; none = is.none }) in
          rw before refl)
    ]

-- HOW MANY

-- where more pass, the count is no less
pub count_below : (n : ℕ) (g h : ℕ → Bool) → ((d : ℕ) → d < n → g d ≡ true → h d ≡ true) → count n g ≤ count n h
count_below zero g h e = omega arith
count_below (suc n) g h e = go (g n) (h n) refl refl (count_below n g h (λ d l. e d (omega arith)))
  where
    go : (x y : Bool) → g n ≡ x → h n ≡ y → count n g ≤ count n h → count n g + cond x 1 0 ≤ count n h + cond y 1 0
    go true true eg eh less = omega arith
    go true false eg eh less = let both = e n (omega arith) eg in absurd (cc)
    go false true eg eh less = omega arith
    go false false eg eh less = omega arith

-- where the same pass, it is the same
pub count_same : (n : ℕ) (g h : ℕ → Bool) → ((d : ℕ) → d < n → g d ≡ h d) → count n g ≡ count n h
count_same n g h e = le_antisymm (count_below n g h (λ d l is. sym (e d l) ∙ is)) (count_below n h g (λ d l is. e d l ∙ is))

-- where all pass, it is the bound
pub count_all : (n : ℕ) → count n (λ d. true) ≡ n
count_all zero = refl
count_all (suc n) = let before : count n (λ d. true) ≡ n = count_all n in omega arith

-- where all from a number on pass, it is that much more
pub count_from : (n from : ℕ) (p : ℕ → Bool) → from ≤ n → ((e : ℕ) → from ≤ e → p e ≡ true) → count n p + from ≡ count from p + n
count_from zero from p few all = (let same : from ≡ zero = omega arith in subst (λ (k : ℕ). count zero p + k ≡ count k p + zero) (sym same) refl)
count_from (suc n) from p few all = elim (cases_eq from (suc n)) [
  | inl same ↦ subst (λ (k : ℕ). count (suc n) p + k ≡ count k p + suc n) (sym same) refl
  | inr off ↦
      (let rest = count_from n from p (omega arith) all in
      let one : ℕ = 1 in
      let here : cond (p n) 1 0 ≡ one = ap (λ (b : Bool). cond b 1 0) (all n (omega arith)) in
      omega (arith, rest, here))
]

-- by the next number it is one more, if that passes
pub count_next : (n : ℕ) (p : ℕ → Bool) (b : Bool) → p n ≡ b → count (n + 1) p ≡ count n p + cond b 1 0
count_next n p b is =
    let more : n + 1 ≡ suc n = omega arith in
    ap (λ (k : ℕ). count k p) more ∙ ap (λ (t : Bool). count n p + cond t 1 0) is
