-- Lists whose elements all meet a condition, or are changed one by one.
use Rattle.std.proofs.Common.{◌≡◌, ◌<◌, ◌+◌, ◌++◌, ℕ, zero, suc, List, [], ◌∷◌, Some, length, map, slice_get, slice_set, replicate, refl, sym, ap, subst, arith}

-- each element meets it
abbrev pub Each : {X : Type 0} → (X → Type 0) → List X → Type 0
Each {X} P xs = (k : ℕ) (x : X) → slice_get xs k ≡ Some x → P x

-- so far
abbrev pub EachBelow : {X : Type 0} → (X → Type 0) → ℕ → List X → Type 0
EachBelow {X} P n xs = (k : ℕ) (x : X) → k < n → slice_get xs k ≡ Some x → P x

pub Each-replicate : {X : Type 0} (P : X → Type 0) (n : ℕ) (x : X) → P x → Each P (replicate n x)
Each-replicate P zero x px k y is = absurd (cc)
Each-replicate P (suc n) x px zero y is = let e : x ≡ y = cc in subst P e px
Each-replicate P (suc n) x px (suc k) y is = Each-replicate P n x px k y is

-- one more is put where the others were looked at so far
pub EachBelow-set : {X : Type 0} (P : X → Type 0) (xs : List X) (i : ℕ) (v : X) → P v → EachBelow P i xs → EachBelow P (i + 1) (slice_set xs i v)
EachBelow-set P [] i v pv all k x below is = absurd (cc)
EachBelow-set P (y ∷ ys) zero v pv all zero x below is = let e : v ≡ x = cc in subst P e pv
EachBelow-set P (y ∷ ys) zero v pv all (suc k) x below is = absurd (omega (arith, below))
EachBelow-set P (y ∷ ys) (suc i) v pv all zero x below is = all zero x (omega arith) is
EachBelow-set P (y ∷ ys) (suc i) v pv all (suc k) x below is = EachBelow-set P ys i v pv (λ n z lt e. all (suc n) z (omega (arith, lt)) e) k x (omega (arith, below)) is

-- the one that is looked at next meets it as it is
pub EachBelow-more : {X : Type 0} (P : X → Type 0) (xs : List X) (i : ℕ) (v : X) → P v → slice_get xs i ≡ Some v → EachBelow P i xs → EachBelow P (i + 1) xs
EachBelow-more P [] i v pv there all k x below is = absurd (cc)
EachBelow-more P (y ∷ ys) zero v pv there all zero x below is = let e : v ≡ x = cc in subst P e pv
EachBelow-more P (y ∷ ys) zero v pv there all (suc k) x below is = absurd (omega (arith, below))
EachBelow-more P (y ∷ ys) (suc i) v pv there all zero x below is = all zero x (omega arith) is
EachBelow-more P (y ∷ ys) (suc i) v pv there all (suc k) x below is = EachBelow-more P ys i v pv there (λ n z lt e. all (suc n) z (omega (arith, lt)) e) k x (omega (arith, below)) is

-- ONE BY ONE

-- so many of the elements are changed
abbrev pub mapped_first : {X : Type 0} → (X → X) → ℕ → List X → List X
mapped_first f zero xs = xs
mapped_first f (suc n) [] = []
mapped_first f (suc n) (x ∷ xs) = f x ∷ mapped_first f n xs

-- the next one is changed
pub mapped_first-set : {X : Type 0} (f : X → X) (n : ℕ) (xs : List X) (x : X) → slice_get (mapped_first f n xs) n ≡ Some x → slice_set (mapped_first f n xs) n (f x) ≡ mapped_first f (suc n) xs
mapped_first-set f zero [] x is = absurd (cc)
mapped_first-set f zero (y ∷ ys) x is = let e : y ≡ x = cc in ap (λ z. f z ∷ ys) (sym e)
mapped_first-set f (suc n) [] x is = absurd (cc)
mapped_first-set f (suc n) (y ∷ ys) x is = ap (λ zs. f y ∷ zs) (mapped_first-set f n ys x is)

-- the next one is as it is to be
pub mapped_first-more : {X : Type 0} (f : X → X) (n : ℕ) (xs : List X) (x : X) → slice_get (mapped_first f n xs) n ≡ Some x → f x ≡ x → mapped_first f n xs ≡ mapped_first f (suc n) xs
mapped_first-more f zero [] x is same = absurd (cc)
mapped_first-more f zero (y ∷ ys) x is same = let e : y ≡ x = cc in ap (λ z. z ∷ ys) (subst (λ z. z ≡ f z) (sym e) (sym same))
mapped_first-more f (suc n) [] x is same = refl
mapped_first-more f (suc n) (y ∷ ys) x is same = ap (λ zs. f y ∷ zs) (mapped_first-more f n ys x is same)

-- all are
pub mapped_first-all : {X : Type 0} (f : X → X) (xs : List X) → mapped_first f (length xs) xs ≡ map f xs
mapped_first-all f [] = refl
mapped_first-all f (x ∷ xs) = ap (λ zs. f x ∷ zs) (mapped_first-all f xs)

-- an element of the changed list is a changed one
pub map-get : {X : Type 0} (f : X → X) (xs : List X) (k : ℕ) (y : X) → slice_get (map f xs) k ≡ Some y → (x : X) × (slice_get xs k ≡ Some x) × (f x ≡ y)
map-get f [] k y is = absurd (cc)
map-get f (x ∷ xs) zero y is = (x, refl, (cc))
map-get f (x ∷ xs) (suc k) y is = map-get f xs k y is

-- what holds of two lists, place by place, and of one more of each
pub paired_more : {X Y : Type 0} (R : X → Y → Type 0) (xs : List X) (ys : List Y) (x : X) (y : Y) → R x y
    → ((k : ℕ) (a : X) (b : Y) → slice_get xs k ≡ Some a → slice_get ys k ≡ Some b → R a b)
    → (k : ℕ) (a : X) (b : Y) → slice_get (xs ++ x ∷ []) k ≡ Some a → slice_get (slice_set ys (length xs) y) k ≡ Some b → R a b
paired_more R [] [] x y one all k a b at_x at_y = absurd (cc)
paired_more R [] (z ∷ ys) x y one all zero a b at_x at_y = let e : x ≡ a = cc in let f : y ≡ b = cc in subst (λ u. R u b) e (subst (λ v. R x v) f one)
paired_more R [] (z ∷ ys) x y one all (suc k) a b at_x at_y = absurd (cc)
paired_more R (w ∷ xs) [] x y one all k a b at_x at_y = absurd (cc)
paired_more R (w ∷ xs) (z ∷ ys) x y one all zero a b at_x at_y = all zero a b at_x at_y
paired_more R (w ∷ xs) (z ∷ ys) x y one all (suc k) a b at_x at_y = paired_more R xs ys x y one (λ n c d p q. all (suc n) c d p q) k a b at_x at_y

-- what holds of each element at its place, and of one that is put at its own
pub placed_more : {X : Type 0} (P : ℕ → X → Type 0) (xs : List X) (i : ℕ) (x : X) → P i x → ((k : ℕ) (a : X) → slice_get xs k ≡ Some a → P k a)
    → (k : ℕ) (a : X) → slice_get (slice_set xs i x) k ≡ Some a → P k a
placed_more P [] i x one all k a is = absurd (cc)
placed_more P (y ∷ ys) zero x one all zero a is = let e : x ≡ a = cc in subst (P zero) e one
placed_more P (y ∷ ys) zero x one all (suc k) a is = all (suc k) a is
placed_more P (y ∷ ys) (suc i) x one all zero a is = all zero a is
placed_more P (y ∷ ys) (suc i) x one all (suc k) a is = placed_more (λ n. P (suc n)) ys i x one (λ n b e. all (suc n) b e) k a is
