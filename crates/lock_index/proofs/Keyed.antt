-- Lists that rise by a number of their elements.
use Rattle.std.proofs.Common.{◌≡◌, ◌≤◌, ◌<◌, ◌+◌, ℕ, suc, Bool, true, false, cond, not, ◌&&◌, ◌==◌, nat_lt, List, [], ◌∷◌, ◌++◌, length, get_or, take, drop, insert, remove, set, Option, Some, None, refl, sym, ap, subst, ◌∙◌, inl, inr, arith, length-append}
use Rattle.std.specs.Bool.{then_some}
use Rattle.std.specs.List.{filter, find}
use Rattle.std.specs.List.Sorted.{IsSorted, IsPartitionedBy, IsPartitionPoint}
use Rattle.std.specs.Ordering.{is_lt, nat_cmp}
use Rattle.std.specs.Cmp.{IsStrictWeakOrder}
use Rattle.std.specs.declared.cmp.Ordering.{Ordering}
use Rattle.std.specs.declared.cmp.Ordering.TheVariants.{Less, Equal, Greater}
use Rattle.std.proofs.lemmas.Bool.{cases_lt, not-true, and_parts, ltb-true, ltb-false, lt-ltb, le-ltb, eqb-true, eqb-false, eq-eqb, ne_eqb}
use Rattle.std.proofs.lemmas.Cmp.{nat_cmp_total}
use Rattle.std.proofs.lemmas.List.{take-append-drop, length-drop, drop_more, drop_all, set_split, append-nil, nil_from_length}
use Rattle.std.proofs.lemmas.List.Elements.{filter-append}
use Rattle.std.proofs.lemmas.List.MinMax.{ranks_by}
use Rattle.lock_index.specs.Placed.{in_order}
use Rattle.lock_index.proofs.Parts.{has, first, filter-filter, filter_within}
use Rattle.lock_index.proofs.Ordered.{Each, IsAscending, each_more, filter-in_order, sorted_from_ascending, IsSorted-in_order}
use Rattle.lock_index.proofs.Unique.{ascends, one_sorted}
use Rattle.lock_index.proofs.Cuts.{each_in_front, each_behind, ascends_behind, ascends_between, ascends_taken_out, find_none, find_behind, partitioned}

pub is_lt_nat : (a b : ℕ) → is_lt (nat_cmp a b) ≡ nat_lt a b
is_lt_nat a b = elim (nat_lt a b) as (λ t. is_lt (cond t Less (cond (a == b) Equal Greater)) ≡ t) [
  | true ↦ refl
  | false ↦ elim (a == b) as (λ u. is_lt (cond u Equal Greater) ≡ false) [
    | true ↦ refl
    | false ↦ refl
  ]
]

-- to leave out what nothing passes changes nothing
pub filter_none : {X : Type 0} (P : X → Bool) (xs : List X) → length (filter P xs) ≡ 0 → filter (λ x. not (P x)) xs ≡ xs
filter_none P [] none = refl
filter_none P (x ∷ xs) none =
    elim (P x) as (λ t. length (cond t (x ∷ filter P xs) (filter P xs)) ≡ 0 → cond (not t) (x ∷ filter (λ y. not (P y)) xs) (filter (λ y. not (P y)) xs) ≡ x ∷ xs) [
      | true ↦ λ e. absurd (omega (arith, e))
      | false ↦ λ e. ap (λ l. x ∷ l) (filter_none P xs e)
    ] none

counted_one : {X : Type 0} (P : X → Bool) (x : X) (xs : List X) → P x ≡ true → length (filter P (x ∷ xs)) ≡ suc (length (filter P xs))
counted_one P x xs own = ap (λ t. length (cond t (x ∷ filter P xs) (filter P xs))) own

counted_parts : {X : Type 0} (P : X → Bool) (x : X) (A C : List X) → P x ≡ true → length (filter P (A ++ x ∷ C)) ≤ 1 → (length (filter P A) ≡ 0) × (length (filter P C) ≡ 0)
counted_parts P x A C own few =
    let all : length (filter P (A ++ x ∷ C)) ≡ length (filter P A) + length (filter P (x ∷ C)) = ap length (filter-append P A (x ∷ C)) ∙ length-append (filter P A) (filter P (x ∷ C)) in
    let here = counted_one P x C own in
    (omega (arith, all, here, few), omega (arith, all, here, few))

-- to leave out what one element alone passes is to take it out
pub filter_one : {X : Type 0} (P : X → Bool) (x : X) (A C : List X) → P x ≡ true → length (filter P (A ++ x ∷ C)) ≤ 1 → filter (λ y. not (P y)) (A ++ x ∷ C) ≡ A ++ C
filter_one P x A C own few =
    let none = counted_parts P x A C own few in
    filter-append (λ y. not (P y)) A (x ∷ C)
    ∙ (λ i. filter_none P A none.0 i ++ cond (not (own i)) (x ∷ filter (λ y. not (P y)) C) (filter (λ y. not (P y)) C))
    ∙ ap (λ l. A ++ l) (filter_none P C none.1)

none_left : {X : Type 0} (P : X → Bool) (xs : List X) → length (filter P (filter (λ x. not (P x)) xs)) ≡ 0
none_left P [] = refl
none_left P (x ∷ xs) =
    elim (P x) as (λ t. P x ≡ t → length (filter P (cond (not t) (x ∷ filter (λ y. not (P y)) xs) (filter (λ y. not (P y)) xs))) ≡ 0) [
      | true ↦ λ e. none_left P xs
      | false ↦ λ e. ap (λ t. length (cond t (x ∷ filter P (filter (λ y. not (P y)) xs)) (filter P (filter (λ y. not (P y)) xs)))) e ∙ none_left P xs
    ] refl

pub kept_fewer : {X : Type 0} (P : X → Bool) (xs : List X) → length (filter P xs) ≤ length xs
kept_fewer P [] = omega arith
kept_fewer P (x ∷ xs) = elim (P x) as (λ b. length (cond b (x ∷ filter P xs) (filter P xs)) ≤ suc (length xs)) [
  | true ↦ omega (arith, kept_fewer P xs)
  | false ↦ omega (arith, kept_fewer P xs)
]

-- the first, where it passes
abbrev pub first_if : {X : Type 0} → (X → Bool) → Option X → Option X
first_if P None = None
first_if P (Some x) = cond (P x) (Some x) None

-- nothing is found where none is counted
pub absent_count : {X : Type 0} (P : X → Bool) (xs : List X) → find P xs ≡ None → length (filter P xs) ≡ 0
absent_count P [] h = refl
absent_count P (x ∷ xs) h =
    elim (P x) as (λ t. cond t (Some x) (find P xs) ≡ None → length (cond t (x ∷ filter P xs) (filter P xs)) ≡ 0) [
      | true ↦ λ e. let impossible : ⊥ = cc in absurd impossible
      | false ↦ λ e. absent_count P xs e
    ] h

-- what is found in the rest of a list
pub inside_where_found : {X : Type 0} (P : X → Bool) (xs : List X) (i : ℕ) (x : X) → find P (drop i xs) ≡ Some x → i < length xs
inside_where_found {X} P xs i x found =
    elim (cases_lt i (length xs)) as (λ w. i < length xs) [
      | inl less ↦ less
      | inr far ↦ let none : None ≡ Some x = ap (find P) (sym (drop_all i xs far)) ∙ found in let impossible : ⊥ = cc in absurd impossible
    ]

pub stands_where_found : {X : Type 0} (P : X → Bool) (xs : List X) (i : ℕ) (x d : X) → find P (drop i xs) ≡ Some x → P (get_or xs i d) ≡ true → get_or xs i d ≡ x
stands_where_found P xs i x d found own =
    let first : find P (drop i xs) ≡ Some (get_or xs i d) =
    ap (find P) (drop_more xs i d (inside_where_found P xs i x found)) ∙ ap (λ t. cond t (Some (get_or xs i d)) (find P (drop (i + 1) xs))) own in
    let both : Some (get_or xs i d) ≡ Some x = sym first ∙ found in cc

pub remove_where_stands : {X : Type 0} (P : X → Bool) (xs : List X) (i : ℕ) (d : X) → i < length xs → P (get_or xs i d) ≡ true → length (filter P xs) ≤ 1 → remove xs i ≡ filter (λ y. not (P y)) xs
remove_where_stands {X} P xs i d inside own few =
    let more : suc i ≡ i + 1 = omega arith in
    let rest : drop i xs ≡ get_or xs i d ∷ drop (suc i) xs = drop_more xs i d inside ∙ ap (λ k. get_or xs i d ∷ drop k xs) (sym more) in
    let whole : take i xs ++ get_or xs i d ∷ drop (suc i) xs ≡ xs = ap (λ l. take i xs ++ l) (sym rest) ∙ take-append-drop i xs in
    let once : length (filter P (take i xs ++ get_or xs i d ∷ drop (suc i) xs)) ≤ 1 = subst (λ (l : List X). length (filter P l) ≤ 1) (sym whole) few in
    sym (filter_one P (get_or xs i d) (take i xs) (drop (suc i) xs) own once) ∙ ap (filter (λ y. not (P y))) whole

tested : {X : Type 0} (b : Bool) (x : X) → then_some b x ≡ cond b (Some x) None
tested true x = refl
tested false x = refl

pub then_some_if : {X : Type 0} (P : X → Bool) (x : X) → then_some (P x) x ≡ first_if P (Some x)
then_some_if P x = tested (P x) x

module _ {X : Type 0} (key : X → ℕ) where
  abbrev pub by_key : X → X → Ordering
  by_key a b = nat_cmp (key a) (key b)

  pub key_order : IsStrictWeakOrder (λ a b. is_lt (by_key a b))
  key_order = ranks_by nat_cmp_total key

  pub not_lower : (a b : X) → is_lt (by_key a b) ≡ false → key b ≤ key a
  not_lower a b h = ltb-false (key a) (key b) (sym (is_lt_nat (key a) (key b)) ∙ h)

  no_lower : (a b : X) → key b ≤ key a → is_lt (by_key a b) ≡ false
  no_lower a b h = is_lt_nat (key a) (key b) ∙ le-ltb (key a) (key b) h

  -- elements of lower numbers stand in front
  pub key_partitioned : (n : ℕ) (xs : List X) → IsSorted by_key xs → IsPartitionedBy (λ x. nat_lt (key x) n) xs
  key_partitioned n xs up = partitioned by_key key_order (λ x. nat_lt (key x) n) (λ x y not_less passes.
      lt-ltb (key x) n (omega (arith, ltb-true (key y) n passes, not_lower y x not_less))) xs up

  none_above : (n : ℕ) (b : X) (C : List X) → n < key b → Each by_key (λ y. is_lt (by_key y b) ≡ false) C → Each by_key (λ y. has key n y ≡ false) C
  none_above n b C above later = each_more by_key (λ y. is_lt (by_key y b) ≡ false) (λ y. has key n y ≡ false) (λ y h. ne_eqb (key y) n (λ e. absurd (omega (arith, e, above, not_lower y b h)))) C later

  find_head : (n : ℕ) (B : List X) → Each by_key (λ y. nat_lt (key y) n ≡ false) B → IsAscending by_key B → find (has key n) B ≡ first_if (has key n) (first B)
  find_head n [] high up = refl
  find_head n (b ∷ C) high up =
      elim (key b == n) as (λ t. (key b == n) ≡ t → cond t (Some b) (find (has key n) C) ≡ cond t (Some b) None) [
        | true ↦ λ e. refl
        | false ↦ λ e.
            let differ = eqb-false (key b) n e in
            let above : n < key b = omega (arith, ltb-false (key b) n high.0, differ) in
            find_none by_key (has key n) C (none_above n b C above up.0)
      ] refl

  -- what is found by its number is the first that is no lower, where it has the number
  pub find_at_cut : (n : ℕ) (xs : List X) (i : ℕ) → IsSorted by_key xs → IsPartitionPoint (λ x. nat_lt (key x) n ≡ true) (λ x. nat_lt (key x) n ≡ false) xs i
      → find (has key n) xs ≡ first_if (has key n) (first (drop i xs))
  find_at_cut n xs i up point =
      let whole = take-append-drop i xs in
      let low = each_in_front by_key (λ x. nat_lt (key x) n ≡ true) xs i point.0 in
      let high = each_behind by_key (λ x. nat_lt (key x) n ≡ false) xs i point.1 in
      let rise : IsAscending by_key (take i xs ++ drop i xs) = subst (λ (l : List X). IsAscending by_key l) (sym whole) (ascends by_key key_order xs up) in
      ap (find (has key n)) (sym whole)
      ∙ find_behind by_key (has key n) (take i xs) (drop i xs) (each_more by_key (λ x. nat_lt (key x) n ≡ true) (λ x. has key n x ≡ false) (λ x h. ne_eqb (key x) n (λ e. absurd (omega (arith, e, ltb-true (key x) n h)))) (take i xs) low)
      ∙ find_head n (drop i xs) high (ascends_behind by_key (take i xs) (drop i xs) rise)

  first_is : (n : ℕ) (B : List X) (own : X) → first_if (has key n) (first B) ≡ Some own → (rest : List X) × (B ≡ own ∷ rest) × (key own ≡ n)
  first_is n [] own h = let impossible : ⊥ = cc in absurd impossible
  first_is n (b ∷ C) own h =
      elim (key b == n) as (λ t. (key b == n) ≡ t → cond t (Some b) None ≡ Some own → (rest : List X) × (b ∷ C ≡ own ∷ rest) × (key own ≡ n)) [
        | true ↦ λ e k.
            let same : b ≡ own = cc in
            (C, ap (λ x. x ∷ C) same, ap key (sym same) ∙ eqb-true (key b) n e)
        | false ↦ λ e k. let impossible : ⊥ = cc in absurd impossible
      ] refl h

  -- the element of a number stands where the lower ones end
  pub stands_at_cut : (n : ℕ) (xs : List X) (i : ℕ) (own : X) → IsSorted by_key xs → IsPartitionPoint (λ x. nat_lt (key x) n ≡ true) (λ x. nat_lt (key x) n ≡ false) xs i
      → find (has key n) xs ≡ Some own → (rest : List X) × (drop i xs ≡ own ∷ rest) × (key own ≡ n)
  stands_at_cut n xs i own up point found = first_is n (drop i xs) own (sym (find_at_cut n xs i up point) ∙ found)

  pub cut_is_inside : (xs : List X) (i : ℕ) (own : X) (rest : List X) → drop i xs ≡ own ∷ rest → (i < length xs) × (drop (suc i) xs ≡ rest)
  cut_is_inside xs i own rest stands =
      let inside : i < length xs = omega (arith, ap length stands, length-drop i xs) in
      let both : get_or xs i own ∷ drop (i + 1) xs ≡ own ∷ rest = sym (drop_more xs i own inside) ∙ stands in
      let more : suc i ≡ i + 1 = omega arith in
      let tail : drop (i + 1) xs ≡ rest = cc in
      (inside, ap (λ k. drop k xs) more ∙ tail)

  -- an element in place of the one of its number
  pub rising_set : (x : X) (xs : List X) (i : ℕ) (own : X) (rest : List X) → IsSorted by_key xs → IsPartitionPoint (λ y. nat_lt (key y) (key x) ≡ true) (λ y. nat_lt (key y) (key x) ≡ false) xs i
      → drop i xs ≡ own ∷ rest → key own ≡ key x → IsSorted by_key (take i xs ++ x ∷ rest)
  rising_set x xs i own rest up point stands same =
      let whole : take i xs ++ own ∷ rest ≡ xs = ap (λ l. take i xs ++ l) (sym stands) ∙ take-append-drop i xs in
      let rise : IsAscending by_key (take i xs ++ own ∷ rest) = subst (λ (l : List X). IsAscending by_key l) (sym whole) (ascends by_key key_order xs up) in
      let low = each_in_front by_key (λ y. nat_lt (key y) (key x) ≡ true) xs i point.0 in
      let later : IsAscending by_key (own ∷ rest) = ascends_behind by_key (take i xs) (own ∷ rest) rise in
      sorted_from_ascending by_key key_order (take i xs ++ x ∷ rest)
      (ascends_between by_key x (take i xs) rest (ascends_taken_out by_key own (take i xs) rest rise)
      (each_more by_key (λ y. nat_lt (key y) (key x) ≡ true) (λ y. is_lt (by_key x y) ≡ false) (λ y h. no_lower x y (omega (arith, ltb-true (key y) (key x) h))) (take i xs) low)
      (each_more by_key (λ y. is_lt (by_key y own) ≡ false) (λ y. is_lt (by_key y x) ≡ false) (λ y h. no_lower y x (omega (arith, same, not_lower y own h))) rest later.0))

  -- a new element where the lower ones end
  pub rising_insert : (x : X) (xs : List X) (i : ℕ) → IsSorted by_key xs → IsPartitionPoint (λ y. nat_lt (key y) (key x) ≡ true) (λ y. nat_lt (key y) (key x) ≡ false) xs i → IsSorted by_key (insert xs i x)
  rising_insert x xs i up point =
      let rise : IsAscending by_key (take i xs ++ drop i xs) = subst (λ (l : List X). IsAscending by_key l) (sym (take-append-drop i xs)) (ascends by_key key_order xs up) in
      sorted_from_ascending by_key key_order (insert xs i x)
      (ascends_between by_key x (take i xs) (drop i xs) rise
      (each_more by_key (λ y. nat_lt (key y) (key x) ≡ true) (λ y. is_lt (by_key x y) ≡ false) (λ y h. no_lower x y (omega (arith, ltb-true (key y) (key x) h))) (take i xs) (each_in_front by_key (λ y. nat_lt (key y) (key x) ≡ true) xs i point.0))
      (each_more by_key (λ y. nat_lt (key y) (key x) ≡ false) (λ y. is_lt (by_key y x) ≡ false) (λ y h. is_lt_nat (key y) (key x) ∙ h) (drop i xs) (each_behind by_key (λ y. nat_lt (key y) (key x) ≡ false) xs i point.1)))

  -- under each number the same elements as where the new one stands at the end
  pub alike_between : (x : X) (A C : List X) → length (filter (has key (key x)) A) ≡ 0 → length (filter (has key (key x)) C) ≡ 0
      → (n : ℕ) → filter (has key n) (A ++ x ∷ C) ≡ filter (has key n) ((A ++ C) ++ x ∷ [])
  alike_between x A C none_a none_c n =
      let middle : filter (has key n) A ++ filter (has key n) (x ∷ C) ≡ (filter (has key n) A ++ filter (has key n) C) ++ filter (has key n) (x ∷ []) =
      elim (key x == n) as (λ t. (key x == n) ≡ t → filter (has key n) A ++ cond t (x ∷ filter (has key n) C) (filter (has key n) C) ≡ (filter (has key n) A ++ filter (has key n) C) ++ cond t (x ∷ []) []) [
        | true ↦ λ e.
            let empty : filter (has key n) C ≡ [] = nil_from_length (filter (has key n) C) (ap (λ m. length (filter (has key m) C)) (sym (eqb-true (key x) n e)) ∙ none_c) in
            ap (λ l. filter (has key n) A ++ x ∷ l) empty
            ∙ ap (λ l. l ++ x ∷ []) (sym (append-nil (filter (has key n) A)))
            ∙ ap (λ l. (filter (has key n) A ++ l) ++ x ∷ []) (sym empty)
        | false ↦ λ e. sym (append-nil (filter (has key n) A ++ filter (has key n) C))
      ] refl in
      filter-append (has key n) A (x ∷ C) ∙ middle
      ∙ sym (filter-append (has key n) (A ++ C) (x ∷ []) ∙ ap (λ l. l ++ filter (has key n) (x ∷ [])) (filter-append (has key n) A C))

  pub alike_set : (x own : X) (A C : List X) → key own ≡ key x → length (filter (has key (key x)) (A ++ own ∷ C)) ≤ 1
      → (n : ℕ) → filter (has key n) (A ++ x ∷ C) ≡ filter (has key n) (filter (λ y. not (has key (key x) y)) (A ++ own ∷ C) ++ x ∷ [])
  alike_set x own A C same few n =
      let own_is : has key (key x) own ≡ true = eq-eqb (key own) (key x) same in
      let none = counted_parts (has key (key x)) own A C own_is few in
      alike_between x A C none.0 none.1 n ∙ ap (λ l. filter (has key n) (l ++ x ∷ [])) (sym (filter_one (has key (key x)) own A C own_is few))

  pub alike_insert : (x : X) (A C : List X) → length (filter (has key (key x)) (A ++ C)) ≡ 0
      → (n : ℕ) → filter (has key n) (A ++ x ∷ C) ≡ filter (has key n) (filter (λ y. not (has key (key x) y)) (A ++ C) ++ x ∷ [])
  alike_insert x A C absent n =
      let all : length (filter (has key (key x)) (A ++ C)) ≡ length (filter (has key (key x)) A) + length (filter (has key (key x)) C) =
      ap length (filter-append (has key (key x)) A C) ∙ length-append (filter (has key (key x)) A) (filter (has key (key x)) C) in
      alike_between x A C (omega (arith, all, absent)) (omega (arith, all, absent)) n
      ∙ ap (λ l. filter (has key n) (l ++ x ∷ [])) (sym (filter_none (has key (key x)) (A ++ C) absent))

  -- a list that rises is in order
  pub in_key_order : (ys zs : List X) → IsSorted by_key ys → ((n : ℕ) → filter (has key n) ys ≡ filter (has key n) zs) → ys ≡ in_order by_key zs
  in_key_order ys zs up alike =
      one_sorted by_key key_order ys (in_order by_key zs) up (IsSorted-in_order by_key key_order zs) (λ z.
      let stricter : (y : X) → (not (is_lt (by_key z y)) && not (is_lt (by_key y z))) ≡ true → has key (key z) y ≡ true = λ y h.
      let parts = and_parts (not (is_lt (by_key z y))) (not (is_lt (by_key y z))) h in
      eq-eqb (key y) (key z) (omega (arith, not_lower z y (not-true (is_lt (by_key z y)) parts.0), not_lower y z (not-true (is_lt (by_key y z)) parts.1))) in
      let tie : (x y : X) → has key (key z) x ≡ true → has key (key z) y ≡ true → is_lt (by_key x y) ≡ false = λ x y one two. no_lower x y (omega (arith, eqb-true (key x) (key z) one, eqb-true (key y) (key z) two)) in
      sym (filter_within (λ y. not (is_lt (by_key z y)) && not (is_lt (by_key y z))) (has key (key z)) stricter ys)
      ∙ ap (filter (λ y. not (is_lt (by_key z y)) && not (is_lt (by_key y z)))) (alike (key z) ∙ sym (filter-in_order by_key key_order (has key (key z)) tie zs))
      ∙ filter_within (λ y. not (is_lt (by_key z y)) && not (is_lt (by_key y z))) (has key (key z)) stricter (in_order by_key zs))

  -- what a change where the lower ones end makes of the list
  pub insert_at_cut : (x : X) (xs : List X) (i : ℕ) → find (has key (key x)) xs ≡ None → (n : ℕ) → filter (has key n) (insert xs i x) ≡ filter (has key n) (filter (λ y. not (has key (key x) y)) xs ++ x ∷ [])
  insert_at_cut x xs i absent n =
      let whole : take i xs ++ drop i xs ≡ xs = take-append-drop i xs in
      alike_insert x (take i xs) (drop i xs) (ap (λ l. length (filter (has key (key x)) l)) whole ∙ absent_count (has key (key x)) xs absent) n
      ∙ ap (λ l. filter (has key n) (filter (λ y. not (has key (key x) y)) l ++ x ∷ [])) whole

  pub set_at_cut : (x : X) (xs : List X) (i : ℕ) (own : X) → IsSorted by_key xs → IsPartitionPoint (λ y. nat_lt (key y) (key x) ≡ true) (λ y. nat_lt (key y) (key x) ≡ false) xs i
      → find (has key (key x)) xs ≡ Some own → length (filter (has key (key x)) xs) ≤ 1
      → (i < length xs) × IsSorted by_key (set xs i x) × ((n : ℕ) → filter (has key n) (set xs i x) ≡ filter (has key n) (filter (λ y. not (has key (key x) y)) xs ++ x ∷ []))
  set_at_cut x xs i own up point found few =
      let stands = stands_at_cut (key x) xs i own up point found in
      let inside = cut_is_inside xs i own stands.0 stands.1 in
      let whole : take i xs ++ own ∷ stands.0 ≡ xs = ap (λ l. take i xs ++ l) (sym stands.1) ∙ take-append-drop i xs in
      let next : set xs i x ≡ take i xs ++ x ∷ stands.0 = set_split xs i x inside.0 ∙ ap (λ l. take i xs ++ x ∷ l) inside.1 in
      let once : length (filter (has key (key x)) (take i xs ++ own ∷ stands.0)) ≤ 1 = subst (λ (l : List X). length (filter (has key (key x)) l) ≤ 1) (sym whole) few in (
        inside.0,
        subst (λ (l : List X). IsSorted by_key l) (sym next) (rising_set x xs i own stands.0 up point stands.1 stands.2),
        λ n.
            ap (filter (has key n)) next ∙ alike_set x own (take i xs) stands.0 stands.2 once n
            ∙ ap (λ l. filter (has key n) (filter (λ y. not (has key (key x) y)) l ++ x ∷ [])) whole,
      )

  pub remove_at_cut : (n : ℕ) (xs : List X) (i : ℕ) (own : X) → IsSorted by_key xs → IsPartitionPoint (λ y. nat_lt (key y) n ≡ true) (λ y. nat_lt (key y) n ≡ false) xs i
      → find (has key n) xs ≡ Some own → length (filter (has key n) xs) ≤ 1 → (i < length xs) × (remove xs i ≡ filter (λ y. not (has key n y)) xs)
  remove_at_cut n xs i own up point found few =
      let stands = stands_at_cut n xs i own up point found in
      let inside = cut_is_inside xs i own stands.0 stands.1 in
      let whole : take i xs ++ own ∷ stands.0 ≡ xs = ap (λ l. take i xs ++ l) (sym stands.1) ∙ take-append-drop i xs in
      let once : length (filter (has key n) (take i xs ++ own ∷ stands.0)) ≤ 1 = subst (λ (l : List X). length (filter (has key n) l) ≤ 1) (sym whole) few in (
        inside.0,
        ap (λ l. take i xs ++ l) inside.1
            ∙ sym (filter_one (has key n) own (take i xs) stands.0 (eq-eqb (key own) n stands.2) once)
            ∙ ap (filter (λ y. not (has key n y))) whole,
      )

  -- a list in which each number stands once
  pub distinct_at_end : (x : X) (xs : List X) → ((n : ℕ) → length (filter (has key n) xs) ≤ 1) → (n : ℕ) → length (filter (has key n) (filter (λ y. not (has key (key x) y)) xs ++ x ∷ [])) ≤ 1
  distinct_at_end x xs distinct n =
      let others = filter (λ y. not (has key (key x) y)) xs in
      let all : length (filter (has key n) (others ++ x ∷ [])) ≡ length (filter (has key n) others) + length (filter (has key n) (x ∷ [])) =
      ap length (filter-append (has key n) others (x ∷ [])) ∙ length-append (filter (has key n) others) (filter (has key n) (x ∷ [])) in
      elim (key x == n) as (λ t. (key x == n) ≡ t → length (filter (has key n) (others ++ x ∷ [])) ≤ 1) [
        | true ↦ λ e.
            let same : key x ≡ n = eqb-true (key x) n e in
            let none : length (filter (has key n) others) ≡ 0 = ap (λ m. length (filter (has key m) others)) (sym same) ∙ none_left (has key (key x)) xs in
            let one : length (filter (has key n) (x ∷ [])) ≡ 1 = ap (λ t. length (cond t (x ∷ []) [])) e in
            omega (arith, all, none, one)
        | false ↦ λ e.
            let fewer : length (filter (has key n) others) ≤ length (filter (has key n) xs) = omega (arith, ap length (filter-filter (has key n) (λ y. not (has key (key x) y)) xs), kept_fewer (λ y. not (has key (key x) y)) (filter (has key n) xs)) in
            let none : length (filter (has key n) (x ∷ [])) ≡ 0 = ap (λ t. length (cond t (x ∷ []) [])) e in
            omega (arith, all, fewer, none, distinct n)
      ] refl
