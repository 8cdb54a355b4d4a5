-- Beginnings of lists, and what stands behind a beginning.
use Rattle.std.specs.Prelude.{◌-◌, take, drop, slice_get}
use Rattle.std.proofs.Common.{ℕ, zero, suc, ◌+◌, ◌<◌, ◌≤◌, ◌≡◌, Some, List, [], ◌∷◌, ◌++◌, length, refl, sym, subst, ap, ◌∙◌, arith}
use Rattle.std.proofs.lemmas.List.{length-take, length-take-le, take-take, take-append-le, take_all, take_at}
use Rattle.world.specs.Headline.{IsPrefix}

pub prefix_short : {A : Type 0} (a b : List A) → IsPrefix a b → length a ≤ length b
prefix_short a b is = let size = ap length is in omega (arith, size, length-take (length a) b)

pub prefix_trans : {A : Type 0} (a b l : List A) → IsPrefix a b → IsPrefix b l → IsPrefix a l
prefix_trans a b l ab bl = ab ∙ ap (take (length a)) bl ∙ take-take (length a) (length b) l (prefix_short a b ab)

pub prefix_more : {A : Type 0} (a b more : List A) → IsPrefix a b → IsPrefix a (b ++ more)
prefix_more a b more is = is ∙ sym (take-append-le (length a) b more (prefix_short a b is))

pub prefix_own : {A : Type 0} (a more : List A) → IsPrefix a (a ++ more)
prefix_own a more = sym (take_at a more (length a) refl)

pub prefix_take : {A : Type 0} (n : ℕ) (l : List A) → n ≤ length l → IsPrefix (take n l) l
prefix_take n l fits = ap (λ (k : ℕ). take k l) (sym (length-take-le n l fits))

-- what stands in a beginning stands in the list
pub prefix_get : {A : Type 0} (a b : List A) (k : ℕ) (x : A) → IsPrefix a b → slice_get a k ≡ Some x → slice_get b k ≡ Some x
prefix_get [] b k x is found = absurd (cc)
prefix_get (y ∷ a) [] k x is found = absurd (cc)
prefix_get (y ∷ a) (z ∷ b) zero x is found = let same : y ≡ z = cc in ap Some (sym same) ∙ found
prefix_get (y ∷ a) (z ∷ b) (suc k) x is found = let rest : a ≡ take (length a) b = cc in prefix_get a b k x rest found

-- an item behind a beginning
pub get_at : {A : Type 0} (a b : List A) (k : ℕ) (x : A) (j : ℕ) → slice_get b k ≡ Some x → j ≡ length a + k → slice_get (a ++ b) j ≡ Some x
get_at [] b k x j found at = let same : k ≡ j = omega (arith, at) in subst (λ (n : ℕ). slice_get b n ≡ Some x) same found
get_at (y ∷ a) b k x zero found at = absurd (omega (arith, at))
get_at (y ∷ a) b k x (suc j) found at = get_at a b k x j found (omega (arith, at))

pub get_from : {A : Type 0} (a b : List A) (j : ℕ) (x : A) → slice_get (a ++ b) j ≡ Some x → length a ≤ j → slice_get b (j - length a) ≡ Some x
get_from [] b j x found le = let same : j ≡ j - 0 = omega arith in subst (λ (n : ℕ). slice_get b n ≡ Some x) same found
get_from (y ∷ a) b zero x found le = absurd (omega (arith, le))
get_from (y ∷ a) b (suc j) x found le =
    let same : j - length a ≡ suc j - suc (length a) = omega arith in
    subst (λ (n : ℕ). slice_get b n ≡ Some x) same (get_from a b j x found (omega (arith, le)))

pub get_before : {A : Type 0} (a b : List A) (k : ℕ) (x : A) → k < length a → slice_get (a ++ b) k ≡ Some x → slice_get a k ≡ Some x
get_before [] b k x less found = absurd (omega (arith, less))
get_before (y ∷ a) b zero x less found = found
get_before (y ∷ a) b (suc k) x less found = get_before a b k x (omega (arith, less)) found

-- the item at a place below the length
pub item_below : {A : Type 0} (l : List A) (n : ℕ) → n < length l → (x : A) × (slice_get l n ≡ Some x)
item_below [] n less = absurd (omega (arith, less))
item_below (x ∷ l) zero less = (x, refl)
item_below (x ∷ l) (suc n) less = item_below l n (omega (arith, less))

pub drop_get : {A : Type 0} (n : ℕ) (l : List A) (k : ℕ) (x : A) (j : ℕ) → slice_get (drop n l) k ≡ Some x → j ≡ n + k → slice_get l j ≡ Some x
drop_get zero l k x j found at = let same : k ≡ j = omega (arith, at) in subst (λ (m : ℕ). slice_get l m ≡ Some x) same found
drop_get (suc n) [] k x j found at = absurd (cc)
drop_get (suc n) (y ∷ l) k x zero found at = absurd (omega (arith, at))
drop_get (suc n) (y ∷ l) k x (suc j) found at = drop_get n l k x j found (omega (arith, at))

-- lists that begin one another are the same
pub prefix_both : {A : Type 0} (a b : List A) → IsPrefix a b → IsPrefix b a → a ≡ b
prefix_both a b ab ba = let one = prefix_short a b ab in let two = prefix_short b a ba in ab ∙ take_all (length a) b (omega (arith, one, two))
