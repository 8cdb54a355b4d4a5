-- Lists that begin one another, and lists that grow by one.
use Rattle.std.proofs.Common.{◌≡◌, ◌<◌, ℕ, zero, suc, List, [], ◌∷◌, ◌++◌, length, get_or, slice_get, map, Some, refl, sym, subst, arith}
use Rattle.std.proofs.lemmas.List.{length-map, get_or-map}

-- what holds of each element, and of one more behind them, holds of all
pub each_push : {X : Type 0} (P : ℕ → X → Type 0) (xs : List X) (y : X) → ((i : ℕ) (d : X) → i < length xs → P i (get_or xs i d)) → P (length xs) y
    → (i : ℕ) (d : X) → i < length (xs ++ y ∷ []) → P i (get_or (xs ++ y ∷ []) i d)
each_push P [] y each here zero d few = here
each_push P [] y each here (suc i) d few = absurd (omega arith)
each_push P (x ∷ xs) y each here zero d few = each zero d (omega arith)
each_push P (x ∷ xs) y each here (suc i) d few = each_push (λ k. P (suc k)) xs y (λ k e less. each (suc k) e (omega arith)) here i d (omega arith)

-- the last element stands behind those before it
pub last_stands : {A : Type 0} (before : List A) (x : A) → slice_get (before ++ x ∷ []) (length before) ≡ Some x
last_stands [] x = refl
last_stands (y ∷ before) x = last_stands before x

-- what holds of the images of all elements holds of their list
pub each_mapped : {X Y : Type 0} (f : X → Y) (Q : ℕ → Y → Type 0) (xs : List X) → ((i : ℕ) (d : X) → i < length xs → Q i (f (get_or xs i d)))
    → (i : ℕ) (e : Y) → i < length (map f xs) → Q i (get_or (map f xs) i e)
each_mapped f Q [] each i e few = absurd (omega arith)
each_mapped f Q (x ∷ xs) each i e few =
    let less : i < length (x ∷ xs) = subst (λ (n : ℕ). i < n) (length-map (x ∷ xs) f) few in
    subst (Q i) (sym (get_or-map f (x ∷ xs) i x e less)) (each i x less)
