-- Lists that are filled item by item, each item by that of another list at its place.
use Rattle.std.proofs.Common.{◌≡◌, ◌+◌, ◌<◌, ℕ, zero, suc, List, [], ◌∷◌, Option, Some, refl, subst, arith, length, map, slice_get, slice_set}
use Rattle.std.specs.Prelude.{T, is_none}
use Rattle.c_host.specs.Views.{ShowBelow}

-- those below a place go by those of the other list
abbrev pub GoBelow : {V R : Type 0} → (ℕ → V → R → Type 0) → List V → List R → ℕ → Type 0
GoBelow {V} {R} Goes made from n = (k : ℕ) (v : V) (r : R) → k < n → slice_get made k ≡ Some v → slice_get from k ≡ Some r → Goes k v r

-- where one more is put that goes by its own, one more do
pub goes_put : {V R : Type 0} (Goes : ℕ → V → R → Type 0) (made : List V) (from : List R) (i : ℕ) (v : V) → ((r : R) → slice_get from i ≡ Some r → Goes i v r) →
    GoBelow Goes made from i → GoBelow Goes (slice_set made i v) from (i + 1)
goes_put {V} {R} Goes [] from i v goes before k view r low at there = absurd (subst (λ (o : Option V). T (is_none o)) at tt)
goes_put {V} {R} Goes (x ∷ made) [] i v goes before k view r low at there = absurd (subst (λ (o : Option R). T (is_none o)) there tt)
goes_put {V} {R} Goes (x ∷ made) (l ∷ from) zero v goes before zero view r low at there = let e : v ≡ view = cc in subst (λ (w : V). Goes zero w r) e (goes r there)
goes_put {V} {R} Goes (x ∷ made) (l ∷ from) zero v goes before (suc k) view r low at there = let no : ⊥ = omega arith in absurd no
goes_put {V} {R} Goes (x ∷ made) (l ∷ from) (suc i) v goes before zero view r low at there = before zero view r (omega arith) at there
goes_put {V} {R} Goes (x ∷ made) (l ∷ from) (suc i) v goes before (suc k) view r low at there =
    goes_put (λ n. Goes (suc n)) made from i v goes (λ n w s small a t. before (suc n) w s (omega arith) a t) k view r (omega arith) at there

-- the same of views, which show what they go by wherever it stands
pub shown_put : {V R : Type 0} (Shows : V → R → Type 0) (views : List V) (records : List R) (i : ℕ) (v : V) → ((r : R) → slice_get records i ≡ Some r → Shows v r) →
    ShowBelow Shows views records i → ShowBelow Shows (slice_set views i v) records (i + 1)
shown_put Shows views records i v shows before = goes_put (λ n. Shows) views records i v shows before

-- where each goes by its own, the whole list does
pub all_go : {V R : Type 0} (f : R → V) (made : List V) (from : List R) → length made ≡ length from →
    ((k : ℕ) (v : V) (r : R) → slice_get made k ≡ Some v → slice_get from k ≡ Some r → v ≡ f r) → made ≡ map f from
all_go f [] [] same goes = refl
all_go f [] (r ∷ from) same goes = let no : ⊥ = omega (arith, same) in absurd no
all_go f (v ∷ made) [] same goes = let no : ⊥ = omega (arith, same) in absurd no
all_go f (v ∷ made) (r ∷ from) same goes =
    let head = goes zero v r refl refl in
    let tail = all_go f made from (omega (arith, same)) (λ k. goes (suc k)) in
    λ i. head i ∷ tail i
