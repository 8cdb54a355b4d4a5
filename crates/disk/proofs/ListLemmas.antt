-- A list with blanks behind it, with an item set, and a run of it.
use Rattle.std.proofs.Common.{◌≡◌, ℕ, ◌+◌, ◌<◌, ◌≤◌, zero, suc, List, [], ◌∷◌, ◌++◌, length, get_or, set, take, drop, replicate, refl, sym, ◌∙◌, subst, inl, inr, arith, length-drop}
use Rattle.std.proofs.lemmas.Bool.{cases_lt, cases_eq}
use Rattle.std.proofs.lemmas.List.{get_or-replicate, get_or_past, get_or-set_same, get_or-set_other, get_or-take, get_or-drop, ext_get_or, length-replicate, length-take-le}

pub get_or_more : {X : Type 0} (xs : List X) (n j : ℕ) (d : X) → get_or (xs ++ replicate n d) j d ≡ get_or xs j d
get_or_more [] n j d =
    elim (cases_lt j n) [
      | inl under ↦ get_or-replicate n j d d under
      | inr past ↦ get_or_past (replicate n d) j d (omega (arith, length-replicate n d))
    ]
get_or_more (x ∷ xs) n zero d = refl
get_or_more (x ∷ xs) n (suc j) d = get_or_more xs n j d

-- what holds of the item that was set, and of each other as before
pub set_each : {X : Type 0} (xs : List X) (i : ℕ) (y d : X) → i < length xs → (P : X → Type 0) (j : ℕ) → (j ≡ i → P y) → ((j ≡ i → ⊥) → P (get_or xs j d)) → P (get_or (set xs i y) j d)
set_each xs i y d within P j here there =
    elim (cases_eq j i) [
      | inl is ↦ subst (λ (k : ℕ). P (get_or (set xs i y) k d)) (sym is) (subst P (sym (get_or-set_same xs i y d within)) (here is))
      | inr off ↦ subst P (sym (get_or-set_other xs i j y d off)) (there off)
    ]

-- a run of a list is the list of its items
pub run_is : {X : Type 0} (l items : List X) (a n : ℕ) (d : X) → length items ≡ n → a + n ≤ length l → ((k : ℕ) → k < n → get_or l (a + k) d ≡ get_or items k d) → take n (drop a l) ≡ items
run_is l items a n d long within same =
    let many : length (take n (drop a l)) ≡ n = length-take-le n (drop a l) (omega (arith, length-drop a l)) in
    ext_get_or d (take n (drop a l)) items (many ∙ sym long)
    (λ k inside.
    let under : k < n = omega (arith, many) in
    get_or-take n (drop a l) k d under ∙ get_or-drop a l k d ∙ same k under)
