-- What is known of an element by the place where it stands.
use Rattle.std.proofs.Common.{◌≡◌, ◌≤◌, ◌<◌, ℕ, zero, suc, Bool, true, false, cond, ◌==◌, nat_lt, List, [], ◌∷◌, length, get_or, Some, refl, ap, arith}
use Rattle.std.specs.List.{filter, find}
use Rattle.std.specs.List.Sorted.{IsSorted, IsPartitionPoint}
use Rattle.std.specs.Ordering.{is_lt}
use Rattle.std.proofs.lemmas.Bool.{eqb-true, eq-eqb, ltb-false, le-ltb}
use Rattle.std.proofs.lemmas.List.Sorted.{sorted_far}
use Rattle.std.proofs.lemmas.List.{get_or_default}
use Rattle.lock_index.specs.Shelved.{times}
use Rattle.lock_index.proofs.Parts.{has}
use Rattle.lock_index.proofs.Places.{times-cons}
use Rattle.lock_index.proofs.Keyed.{by_key, key_order, not_lower, key_partitioned}
use Rattle.lock_index.proofs.Quarters.{fails_behind}

-- a number that is listed stands somewhere
pub stands_somewhere : (p : ℕ) (xs : List ℕ) → 1 ≤ times p xs → (at : ℕ) × (at < length xs) × (get_or xs at 0 ≡ p)
stands_somewhere p [] listed = absurd (omega (arith, listed))
stands_somewhere p (q ∷ xs) listed =
    elim (q == p) as (λ b. (q == p) ≡ b → (at : ℕ) × (at < length (q ∷ xs)) × (get_or (q ∷ xs) at 0 ≡ p)) [
      | true ↦ λ e. (0, omega arith, eqb-true q p e)
      | false ↦ λ e.
          let rest = stands_somewhere p xs (omega (arith, listed, times-cons p q xs, ap {B = ℕ} (λ b. cond b 1 0) e)) in
          (suc rest.0, omega (arith, rest.1), rest.2)
    ] refl

module _ {X : Type 0} (P : X → Bool) where
  counted_there : (xs : List X) (at : ℕ) (d : X) → at < length xs → P (get_or xs at d) ≡ true → 1 ≤ length (filter P xs)
  counted_there [] at d inside own = absurd (omega (arith, inside))
  counted_there (x ∷ xs) zero d inside own = omega (arith, ap (λ t. length (cond t (x ∷ filter P xs) (filter P xs))) own)
  counted_there (x ∷ xs) (suc at) d inside own =
      let rest = counted_there xs at d (omega (arith, inside)) own in
      elim (P x) as (λ t. 1 ≤ length (cond t (x ∷ filter P xs) (filter P xs))) [
        | true ↦ omega arith
        | false ↦ rest
      ]

  counted_twice : (xs : List X) (k at : ℕ) (d : X) → k < at → at < length xs → P (get_or xs k d) ≡ true → P (get_or xs at d) ≡ true → 2 ≤ length (filter P xs)
  counted_twice [] k at d less inside first own = absurd (omega (arith, inside))
  counted_twice (x ∷ xs) k zero d less inside first own = absurd (omega (arith, less))
  counted_twice (x ∷ xs) zero (suc at) d less inside first own =
      omega (arith, ap (λ t. length (cond t (x ∷ filter P xs) (filter P xs))) first, counted_there xs at d (omega (arith, inside)) own)
  counted_twice (x ∷ xs) (suc k) (suc at) d less inside first own =
      let rest = counted_twice xs k at d (omega (arith, less)) (omega (arith, inside)) first own in
      elim (P x) as (λ t. 2 ≤ length (cond t (x ∷ filter P xs) (filter P xs))) [
        | true ↦ omega (arith, rest)
        | false ↦ rest
      ]

  -- the one that passes is found
  pub found_there : (xs : List X) (at : ℕ) (d : X) → at < length xs → P (get_or xs at d) ≡ true → length (filter P xs) ≤ 1 → find P xs ≡ Some (get_or xs at d)
  found_there [] at d inside own few = absurd (omega (arith, inside))
  found_there (x ∷ xs) zero d inside own few = ap (λ t. cond t (Some x) (find P xs)) own
  found_there (x ∷ xs) (suc at) d inside own few =
      elim (P x) as (λ t. length (cond t (x ∷ filter P xs) (filter P xs)) ≤ 1 → cond t (Some x) (find P xs) ≡ Some (get_or xs at d)) [
        | true ↦ λ one. absurd (omega (arith, one, counted_there xs at d (omega (arith, inside)) own))
        | false ↦ λ one. found_there xs at d (omega (arith, inside)) own one
      ] few

  -- where one alone passes, none behind it does
  pub none_later : (xs : List X) (i k : ℕ) (d : X) → i < k → k < length xs → P (get_or xs i d) ≡ true → length (filter P xs) ≤ 1 → P (get_or xs k d) ≡ false
  none_later xs i k d behind inside own few = elim (P (get_or xs k d)) as (λ t. P (get_or xs k d) ≡ t → t ≡ false) [
    | true ↦ λ h. absurd (omega (arith, few, counted_twice xs i k d behind inside own h))
    | false ↦ λ h. refl
  ] refl

-- in a list that rises, the one element of a number stands where the lower ones end
pub cut_where_stands : {X : Type 0} (key : X → ℕ) (n : ℕ) (xs : List X) (at : ℕ) (d : X) → IsSorted (by_key key) xs → length (filter (has key n) xs) ≤ 1 → at < length xs → key (get_or xs at d) ≡ n
    → IsPartitionPoint (λ x. nat_lt (key x) n ≡ true) (λ x. nat_lt (key x) n ≡ false) xs at
cut_where_stands key n xs at d up few inside is =
    let own = eq-eqb (key (get_or xs at d)) n is in (
      λ k e low before.
          elim (nat_lt (key (get_or xs k e)) n) as (λ t. nat_lt (key (get_or xs k e)) n ≡ t → t ≡ true) [
            | true ↦ λ h. refl
            | false ↦ λ h.
                let there : k < length xs = omega (arith, before, inside) in
                let same = get_or_default xs k d e there in
                let above = not_lower key (get_or xs at d) (get_or xs k d) (sorted_far (λ a b. is_lt (by_key key a b)) (key_order key) xs up k at d (omega (arith, before)) inside) in
                let high = ltb-false (key (get_or xs k e)) n h in
                let equal : key (get_or xs k d) ≡ n = omega (arith, above, high, is, ap key same) in
                absurd (omega (arith, few, counted_twice (has key n) xs k at d before inside (eq-eqb (key (get_or xs k d)) n equal) own))
          ] refl,
      fails_behind (λ x. nat_lt (key x) n) xs (key_partitioned key n xs up) at (get_or xs at d) (get_or_default xs at d (get_or xs at d) inside) (le-ltb (key (get_or xs at d)) n (omega (arith, is))) at (omega arith),
    )
