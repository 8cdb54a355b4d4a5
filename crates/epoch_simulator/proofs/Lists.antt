-- Items of lists that were put, and the last item of a list.
use Rattle.std.proofs.Common.{ℕ, zero, suc, ◌<◌, ◌≡◌, ◌≢◌, ◌==◌, true, false, List, [], ◌∷◌, ◌++◌, length, slice_get, set, Some, refl, sym, ap, ◌∙◌, subst, arith, inl, inr}
use Rattle.std.proofs.lemmas.Bool.{cases_Bool, eq-eqb, eqb-true}

pub self_eq : (h : ℕ) → (h == h) ≡ true
self_eq h = eq-eqb h h refl

-- numbers that differ are told apart
pub not_eq : (g h : ℕ) → g ≢ h → (g == h) ≡ false
not_eq g h not = elim (cases_Bool (g == h)) [ inl same ↦ absurd (not (eqb-true g h same)) | inr other ↦ other ]

module _ {X : Type 0} where
  -- what was put at a place is there
  pub get_same : (l : List X) (i : ℕ) (x : X) → i < length l → slice_get (set l i x) i ≡ Some x
  get_same [] i x inside = absurd (omega (arith, inside))
  get_same (y ∷ l) zero x inside = refl
  get_same (y ∷ l) (suc i) x inside = get_same l i x (omega (arith, inside))

  -- and all others stay
  pub get_other : (l : List X) (i j : ℕ) (x : X) → j ≢ i → slice_get (set l i x) j ≡ slice_get l j
  get_other [] i j x not = refl
  get_other (y ∷ l) zero zero x not = absurd (not refl)
  get_other (y ∷ l) zero (suc j) x not = refl
  get_other (y ∷ l) (suc i) zero x not = refl
  get_other (y ∷ l) (suc i) (suc j) x not = get_other l i j x (λ same. not (ap suc same))

  -- the last item, or this one where there is none
  abbrev pub last : X → List X → X
  last x [] = x
  last x (y ∷ l) = last y l

  pub last_behind : (x y : X) (l more : List X) → last x (l ++ y ∷ more) ≡ last y more
  last_behind x y [] more = refl
  last_behind x y (z ∷ l) more = last_behind z y l more

  -- lists that are the same end in the same item
  pub same_last : (a b : List X) (x y : X) → a ++ x ∷ [] ≡ b ++ y ∷ [] → x ≡ y
  same_last a b x y same = sym (last_behind x x a []) ∙ ap (last x) same ∙ last_behind x y b []

  -- something stands at each place
  pub some_at : (l : List X) (i : ℕ) → i < length l → (x : X) × (slice_get l i ≡ Some x)
  some_at [] i inside = absurd (omega (arith, inside))
  some_at (y ∷ l) zero inside = (y, refl)
  some_at (y ∷ l) (suc i) inside = some_at l i (omega (arith, inside))

  -- what is so of all items, and of one more at the end
  pub all_more : (P : ℕ → X → Type 0) (l : List X) (x : X) → ((i : ℕ) (y : X) → slice_get l i ≡ Some y → P i y) → P (length l) x → (i : ℕ) (y : X) → slice_get (l ++ x ∷ []) i ≡ Some y → P i y
  all_more P [] x all more zero y is = let same : x ≡ y = cc in subst (P 0) same more
  all_more P [] x all more (suc i) y is = absurd (cc)
  all_more P (z ∷ l) x all more zero y is = all zero y is
  all_more P (z ∷ l) x all more (suc i) y is = all_more (λ j. P (suc j)) l x (λ j w e. all (suc j) w e) more i y is
