-- One more client is taken away.
use Rattle.std.proofs.Common.{◌≡◌, ◌≢◌, ◌<◌, ◌≤◌, ◌+◌, ℕ, zero, suc, Bool, true, false, ◌||◌, List, [], ◌∷◌, ◌++◌, length, slice_index_or, slice_set, replicate, refl, sym, ◌∙◌, ap, subst, arith, nat_eq, inl, inr, true≢false}
use Rattle.std.proofs.lemmas.List.{get_or-set_same, get_or-set_other, length-set, length-append}
use Rattle.std.proofs.lemmas.List.Folds.{list_any-append}
use Rattle.std.proofs.lemmas.Map.Steps.{length-le_from_distinct_below}
use Rattle.std.proofs.lemmas.Bool.{eqb-true, eq-eqb}
use Rattle.std.specs.List.{IsDistinct, list_any, AllByRecursion}
use Rattle.inspect.specs.Marks.{Marked}
use Rattle.inspect.specs.Peeled.{IsPeeled, IsHeldUp, is_left, is_taken}
use Rattle.inspect.proofs.MarkLemmas.{same_or_not}

differ : (i j : ℕ) → i ≢ j → nat_eq i j ≡ false
differ i j other = on_test (nat_eq i j) refl
  where
    on_test : (b : Bool) → nat_eq i j ≡ b → nat_eq i j ≡ false
    on_test true is = absurd (other (eqb-true i j is))
    on_test false is = is

apart : (i j : ℕ) → nat_eq i j ≡ false → i ≢ j
apart i j is same = true≢false (sym (eq-eqb i j same) ∙ is)

-- DISTINCT LISTS

all_more : (P : ℕ → Type 0) (xs : List ℕ) (a : ℕ) → AllByRecursion P xs → P a → AllByRecursion P (xs ++ a ∷ [])
all_more P [] a all pa = (pa, tt)
all_more P (x ∷ xs) a all pa = (all.0, all_more P xs a all.1 pa)

not_first : (p q : Bool) → (p || q) ≡ false → p ≡ false
not_first true q is = is
not_first false q is = refl

not_second : (p q : Bool) → (p || q) ≡ false → q ≡ false
not_second true q is = absurd (true≢false is)
not_second false q is = is

pub distinct_more : (xs : List ℕ) (a : ℕ) → IsDistinct nat_eq xs → is_taken xs a ≡ false → IsDistinct nat_eq (xs ++ a ∷ [])
unfolding IsDistinct
distinct_more [] a distinct new = (tt, tt)
distinct_more (x ∷ xs) a distinct new =
    let other : x ≢ a = λ is. apart a x (not_first (nat_eq a x) (list_any (nat_eq a) xs) new) (sym is) in
    (all_more (λ y. nat_eq x y ≡ false) xs a distinct.0 (differ x a other), distinct_more xs a distinct.1 (not_second (nat_eq a x) (list_any (nat_eq a) xs) new))

-- whether one is among those taken and one more
taken_more : (xs : List ℕ) (a k : ℕ) → is_taken (xs ++ a ∷ []) k ≡ (is_taken xs k || (nat_eq k a || false))
taken_more xs a k = list_any-append (nat_eq k) xs (a ∷ [])

or_false : (p q r : Bool) → p ≡ false → q ≡ false → (p || (q || false)) ≡ false
or_false p q r is_p is_q = rw is_p rw is_q refl

pub not_taken_more : (xs : List ℕ) (a k : ℕ) → is_taken xs k ≡ false → k ≢ a → is_taken (xs ++ a ∷ []) k ≡ false
not_taken_more xs a k new other = taken_more xs a k ∙ or_false (is_taken xs k) (nat_eq k a) false new (differ k a other)

pub fits_more : (xs : List ℕ) (a : ℕ) → a < 256 → ((k : ℕ) → is_taken xs k ≡ true → k < 256) → (k : ℕ) → is_taken (xs ++ a ∷ []) k ≡ true → k < 256
fits_more xs a fits all k is = elim (same_or_not k a) [
  | inl same ↦ omega (arith, same, fits)
  | inr other ↦ on_test (is_taken xs k) refl other
]
  where
    on_test : (b : Bool) → is_taken xs k ≡ b → k ≢ a → k < 256
    on_test true t other = all k t
    on_test false f other = absurd (true≢false (sym is ∙ not_taken_more xs a k f other))

-- as many as there are numbers
pub at_most : (xs : List ℕ) → IsDistinct nat_eq xs → ((k : ℕ) → is_taken xs k ≡ true → k < 256) → length xs ≤ 256
at_most xs distinct fit = length-le_from_distinct_below xs 256 distinct fit

-- TAKEN AWAY

pub has_room : (edges left : List Bool) (ranks taken : List ℕ) (a : ℕ) → IsPeeled edges left ranks taken → a < 256 → is_left left a ≡ true → length taken < 256
has_room edges left ranks taken a p fits there =
    let one : length (taken ++ a ∷ []) ≡ length taken + 1 = length-append taken (a ∷ []) in
    let most : length (taken ++ a ∷ []) ≤ 256 = at_most (taken ++ a ∷ []) (distinct_more taken a p.distinct (p.not_taken a there)) (fits_more taken a fits p.fit) in
    omega (arith, one, most)

module _ (edges left : List Bool) (ranks taken : List ℕ) (a : ℕ) (p : IsPeeled edges left ranks taken) (fits : a < 256) (there : is_left left a ≡ true) (free : IsHeldUp edges left a → ⊥) where
  abbrev left' : List Bool
  left' = slice_set left a false

  abbrev ranks' : List ℕ
  ranks' = slice_set ranks a (length taken)

  gone : is_left left' a ≡ false
  gone = get_or-set_same left a false false (omega (arith, p.as_many, fits))

  stays : (k : ℕ) → k ≢ a → is_left left' k ≡ is_left left k
  stays k other = get_or-set_other left a k false false other

  rank_here : slice_index_or ranks' a 0 ≡ length taken
  rank_here = get_or-set_same ranks a (length taken) 0 (omega (arith, p.as_many_ranks, fits))

  rank_there : (k : ℕ) → k ≢ a → slice_index_or ranks' k 0 ≡ slice_index_or ranks k 0
  rank_there k other = get_or-set_other ranks a k (length taken) 0 other

  not_here : (k : ℕ) → is_left left' k ≡ true → k ≢ a
  not_here k is same = true≢false (sym is ∙ subst (λ n. is_left left' n ≡ false) (sym same) gone)

  not_left : (b : ℕ) → Marked edges a b → is_left left b ≡ false
  not_left b m = on_test (is_left left b) refl
    where
      on_test : (t : Bool) → is_left left b ≡ t → is_left left b ≡ false
      on_test true is = absurd (free (record { by = b; marked = m; is_left = is }))
      on_test false is = is

  not_left' : (b : ℕ) → is_left left b ≡ false → is_left left' b ≡ false
  not_left' b is = elim (same_or_not b a) [
    | inl same ↦ subst (λ n. is_left left' n ≡ false) (sym same) gone
    | inr other ↦ stays b other ∙ is
  ]

  other_than : (b : ℕ) → is_left left b ≡ false → b ≢ a
  other_than b is same = true≢false (sym there ∙ subst (λ n. is_left left n ≡ false) same is)

  ranked' : (k : ℕ) → k < 256 → is_left left' k ≡ false → slice_index_or ranks' k 0 < length (taken ++ a ∷ [])
  ranked' k lt is =
      let one : length (taken ++ a ∷ []) ≡ length taken + 1 = length-append taken (a ∷ []) in elim (same_or_not k a) [
        | inl same ↦ let e : slice_index_or ranks' k 0 ≡ length taken = ap (λ n. slice_index_or ranks' n 0) same ∙ rank_here in omega (arith, e, one)
        | inr other ↦ let less : slice_index_or ranks k 0 < length taken = p.ranked k lt (sym (stays k other) ∙ is) in omega (arith, less, rank_there k other, one)
      ]

  before' : (x b : ℕ) → Marked edges x b → is_left left' x ≡ false → is_left left' b ≡ false
  before' x b m is = elim (same_or_not x a) [
    | inl same ↦ not_left' b (not_left b (subst (λ n. Marked edges n b) same m))
    | inr other ↦ not_left' b (p.before x b m (sym (stays x other) ∙ is))
  ]

  falls' : (x b : ℕ) → Marked edges x b → is_left left' x ≡ false → slice_index_or ranks' b 0 < slice_index_or ranks' x 0
  falls' x b m is = elim (same_or_not x a) [
    | inl same ↦
        let b_gone : is_left left b ≡ false = not_left b (subst (λ n. Marked edges n b) same m) in
        let less : slice_index_or ranks b 0 < length taken = p.ranked b m.b_fits b_gone in
        let e : slice_index_or ranks' x 0 ≡ length taken = ap (λ n. slice_index_or ranks' n 0) same ∙ rank_here in omega (arith, less, e, rank_there b (other_than b b_gone))
    | inr other ↦
        let x_gone : is_left left x ≡ false = sym (stays x other) ∙ is in
        let b_gone : is_left left b ≡ false = p.before x b m x_gone in
        let less : slice_index_or ranks b 0 < slice_index_or ranks x 0 = p.falls x b m x_gone in
        omega (arith, less, rank_there x other, rank_there b (other_than b b_gone))
  ]

  pub peeled_more : IsPeeled edges (slice_set left a false) (slice_set ranks a (length taken)) (taken ++ a ∷ [])
  peeled_more = record {
    as_many = length-set left a false ∙ p.as_many;
    as_many_ranks = length-set ranks a (length taken) ∙ p.as_many_ranks;
    not_taken = λ k is. let other = not_here k is in not_taken_more taken a k (p.not_taken k (sym (stays k other) ∙ is)) other;
    ranked = ranked';
    before = before';
    falls = falls';
    distinct = distinct_more taken a p.distinct (p.not_taken a there);
    fit = fits_more taken a fits p.fit;
  }

-- AT FIRST

full : (n k : ℕ) → k < n → slice_index_or (replicate n true) k false ≡ true
full zero k lt = absurd (omega (arith, lt))
full (suc n) zero lt = refl
full (suc n) (suc k) lt = full n k (omega (arith, lt))

length-same : {X : Type 0} (n : ℕ) (x : X) → length (replicate n x) ≡ n
length-same zero x = refl
length-same (suc n) x = ap suc (length-same n x)

pub peeled_first : (edges : List Bool) → IsPeeled edges (replicate 256 true) (replicate 256 0) []
unfolding IsDistinct
peeled_first edges = record {
  as_many = length-same 256 true;
  as_many_ranks = length-same {X = ℕ} 256 0;
  not_taken = λ k is. refl;
  ranked = λ k lt is. absurd (true≢false (sym (full 256 k lt) ∙ is));
  before = λ x b m is. absurd (true≢false (sym (full 256 x m.a_fits) ∙ is));
  falls = λ x b m is. absurd (true≢false (sym (full 256 x m.a_fits) ∙ is));
  distinct = tt;
  fit = λ k is. absurd (true≢false (sym is));
}
