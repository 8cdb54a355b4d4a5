-- An entry of a part stands in the whole list, at its place.
use Rattle.std.proofs.Common.{◌≡◌, ℕ, zero, suc, ◌+◌, ◌-◌, ◌≤◌, Bool, true, false, List, [], ◌∷◌, cond, Some, slice_get, filter, refl, ap, ◌∙◌, subst, arith}
use Rattle.world.specs.Entry.{Filled}
use Rattle.cluster_tie.specs.Parts.{Placed, belongs, placed, entries}

abbrev Stands : ℕ → List Filled → ℕ × Filled → Type 0
Stands at log x = (at ≤ x.0) × (slice_get log (x.0 - at) ≡ Some x.1)

behind : (at : ℕ) (e : Filled) (log : List Filled) (x : ℕ × Filled) → Stands (at + 1) log x → Stands at (e ∷ log) x
behind at e log x h = let s = h.0 in let more : x.0 - at ≡ suc (x.0 - (at + 1)) = omega arith in (omega arith, ap (slice_get (e ∷ log)) more ∙ h.1)

first : (at : ℕ) (e : Filled) (log : List Filled) (x : ℕ × Filled) → (at, e) ≡ x → Stands at (e ∷ log) x
first at e log x is = subst (Stands at (e ∷ log)) is (let none : at - at ≡ 0 = omega arith in (omega arith, ap (slice_get (e ∷ log)) none))

stands_then : (at : ℕ) (e : Filled) (log : List Filled) (rest : List Placed) (k : ℕ) (x : ℕ × Filled) → ((j : ℕ) → slice_get rest j ≡ Some x → Stands (at + 1) log x) → (b : Bool) → slice_get (cond b ((at, e) ∷ rest) rest) k ≡ Some x → Stands at (e ∷ log) x
stands_then at e log rest zero x later true h = first at e log x (cc h)
stands_then at e log rest (suc k) x later true h = behind at e log x (later k h)
stands_then at e log rest k x later false h = behind at e log x (later k h)

pub stands : (at : ℕ) (kind : Bool) (n : ℕ) (log : List Filled) (k : ℕ) (x : ℕ × Filled) → slice_get (placed at kind n log) k ≡ Some x → Stands at log x
stands at kind n [] k x h = absurd (cc h)
stands at kind n (e ∷ log) k x h = stands_then at e log (placed (at + 1) kind n log) k x (λ j is. stands (at + 1) kind n log j x is) (belongs kind n e) h

-- WITHOUT THEIR PLACES

keeps_on : (b : Bool) (x : Placed) (xs : List Placed) → entries (cond b (x ∷ xs) xs) ≡ cond b (x.1 ∷ entries xs) (entries xs)
keeps_on true x xs = refl
keeps_on false x xs = refl

kept_on : (b : Bool) (e : Filled) (xs ys : List Filled) → xs ≡ ys → cond b (e ∷ xs) xs ≡ cond b (e ∷ ys) ys
kept_on b e xs ys is = ap (λ (l : List Filled). cond b (e ∷ l) l) is

pub without : (at : ℕ) (kind : Bool) (n : ℕ) (log : List Filled) → entries (placed at kind n log) ≡ filter (belongs kind n) log
without at kind n [] = refl
without at kind n (e ∷ log) =
    keeps_on (belongs kind n e) (at, e) (placed (at + 1) kind n log)
    ∙ kept_on (belongs kind n e) e (entries (placed (at + 1) kind n log)) (filter (belongs kind n) log) (without (at + 1) kind n log)
