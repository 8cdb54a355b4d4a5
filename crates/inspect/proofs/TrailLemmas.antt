-- A trail grows until it closes a circle, and a circle stays one when it is turned.
use Rattle.std.proofs.Common.{◌≡◌, ◌≢◌, ◌<◌, ◌≤◌, ◌+◌, ◌-◌, ℕ, zero, suc, Bool, true, false, ◌||◌, List, [], ◌∷◌, ◌++◌, length, slice_index_or, take, drop, All, refl, sym, ◌∙◌, ap, subst, arith, nat_eq, true≢false}
use Rattle.std.proofs.Math.Seq.{take-length}
use Rattle.std.proofs.lemmas.List.{append-nil, append_assoc, length-append, length-drop}
use Rattle.std.proofs.lemmas.List.Elements.{All-tail}
use Rattle.std.proofs.lemmas.Bool.{eqb-true}
use Rattle.std.specs.List.{IsDistinct, list_any, AllByRecursion}
use Rattle.inspect.specs.Blocked.{Chain, IsCycle}
use Rattle.inspect.specs.Peeled.{is_taken}
use Rattle.inspect.specs.Trails.{IsTrail, IsCircle, IsTurned}
use Rattle.inspect.proofs.PeelLemmas.{distinct_more, fits_more, at_most}

-- CHAINS

-- two chains that meet are one
chain_join : (Leads : ℕ → ℕ → Type 0) (a : ℕ) (xs : List ℕ) (b : ℕ) (ys : List ℕ) (z : ℕ) → Chain Leads a xs b → Chain Leads b ys z → Chain Leads a (xs ++ b ∷ ys) z
chain_join Leads a [] b ys z first second = (first, second)
chain_join Leads a (x ∷ xs) b ys z first second = (first.0, chain_join Leads x xs b ys z first.1 second)

-- a chain falls apart at each of its places
chain_front : (Leads : ℕ → ℕ → Type 0) (a : ℕ) (xs : List ℕ) (b : ℕ) (ys : List ℕ) (z : ℕ) → Chain Leads a (xs ++ b ∷ ys) z → Chain Leads a xs b
chain_front Leads a [] b ys z chain = chain.0
chain_front Leads a (x ∷ xs) b ys z chain = (chain.0, chain_front Leads x xs b ys z chain.1)

chain_back : (Leads : ℕ → ℕ → Type 0) (a : ℕ) (xs : List ℕ) (b : ℕ) (ys : List ℕ) (z : ℕ) → Chain Leads a (xs ++ b ∷ ys) z → Chain Leads b ys z
chain_back Leads a [] b ys z chain = chain.1
chain_back Leads a (x ∷ xs) b ys z chain = chain_back Leads x xs b ys z chain.1

-- TRAILS

-- a trail grows by what its last leads to
pub trail_more : (Leads : ℕ → ℕ → Type 0) (xs : List ℕ) (last z : ℕ) → IsTrail Leads xs last → Leads last z → IsTrail Leads (xs ++ z ∷ []) z
trail_more Leads [] last z trail leads = absurd trail
trail_more Leads (x ∷ xs) last z trail leads = λ w then. chain_join Leads x xs z [] w (trail z leads) then

-- from any place on, a chain to that place is a circle
closes_from : (Leads : ℕ → ℕ → Type 0) (x : ℕ) (xs : List ℕ) (at z : ℕ) → at < length (x ∷ xs) → slice_index_or (x ∷ xs) at 0 ≡ z → Chain Leads x xs z → IsCircle Leads (drop at (x ∷ xs))
closes_from Leads x xs zero z lt is chain = subst (λ (n : ℕ). Chain Leads x xs n) (sym is) chain
closes_from Leads x [] (suc at) z lt is chain = absurd (omega (arith, lt))
closes_from Leads x (y ∷ ys) (suc at) z lt is chain = closes_from Leads y ys at z (omega (arith, lt)) is chain.1

pub closes : (Leads : ℕ → ℕ → Type 0) (xs : List ℕ) (last at z : ℕ) → IsTrail Leads xs last → Leads last z → at < length xs → slice_index_or xs at 0 ≡ z → IsCircle Leads (drop at xs)
closes Leads [] last at z trail leads lt is = absurd trail
closes Leads (x ∷ xs) last at z trail leads lt is = closes_from Leads x xs at z lt is (trail z leads)

-- TURNING

turned_circle : (Leads : ℕ → ℕ → Type 0) (front back : List ℕ) → IsCircle Leads (front ++ back) → IsCircle Leads (back ++ front)
turned_circle Leads [] back circle = subst (IsCircle Leads) (sym (append-nil back)) circle
turned_circle Leads (a ∷ xs) [] circle = subst (IsCircle Leads) (append-nil (a ∷ xs)) circle
turned_circle Leads (a ∷ xs) (b ∷ ys) circle = chain_join Leads b ys a xs b (chain_back Leads a xs b ys a circle) (chain_front Leads a xs b ys a circle)

or_none : (p q : Bool) → p ≡ false → q ≡ false → (p || q) ≡ false
or_none true q is_p is_q = is_p
or_none false q is_p is_q = is_q

none_among : (x : ℕ) (ys : List ℕ) → AllByRecursion (λ y. nat_eq x y ≡ false) ys → is_taken ys x ≡ false
none_among x [] all = refl
none_among x (y ∷ ys) all = or_none (nat_eq x y) (list_any (nat_eq x) ys) all.0 (none_among x ys all.1)

-- the first of distinct ones may stand last
last_first : (x : ℕ) (ys : List ℕ) → IsDistinct nat_eq (x ∷ ys) → IsDistinct nat_eq (ys ++ x ∷ [])
unfolding IsDistinct
last_first x ys distinct = distinct_more ys x distinct.1 (none_among x ys distinct.0)

turned_distinct : (front back : List ℕ) → IsDistinct nat_eq (front ++ back) → IsDistinct nat_eq (back ++ front)
turned_distinct [] back distinct = subst (IsDistinct nat_eq) (sym (append-nil back)) distinct
turned_distinct (x ∷ xs) back distinct =
    let moved : IsDistinct nat_eq (xs ++ (back ++ x ∷ [])) = subst (IsDistinct nat_eq) (append_assoc xs back (x ∷ [])) (last_first x (xs ++ back) distinct) in
    subst (IsDistinct nat_eq) (append_assoc back (x ∷ []) xs) (turned_distinct xs (back ++ x ∷ []) moved)

distinct_rest : (x : ℕ) (xs : List ℕ) → IsDistinct nat_eq (x ∷ xs) → IsDistinct nat_eq xs
unfolding IsDistinct
distinct_rest x xs distinct = distinct.1

pub distinct_drop : (xs : List ℕ) (at : ℕ) → IsDistinct nat_eq xs → IsDistinct nat_eq (drop at xs)
distinct_drop xs zero distinct = distinct
distinct_drop [] (suc at) distinct = distinct
distinct_drop (x ∷ xs) (suc at) distinct = distinct_drop xs at (distinct_rest x xs distinct)

-- a circle of distinct ones, turned so that the least stands first, is a cycle
pub turned_cycle : (Leads : ℕ → ℕ → Type 0) (old new : List ℕ) → IsCircle Leads old → IsDistinct nat_eq old → IsTurned old new → All (λ c. slice_index_or new 0 0 ≤ c) new → IsCycle Leads new
turned_cycle Leads old new circle distinct turned least =
    let front = turned.front in
    let back = turned.back in
    let circle' : IsCircle Leads new = subst (IsCircle Leads) (sym turned.is) (turned_circle Leads front back (subst (IsCircle Leads) turned.was circle)) in
    let distinct' : IsDistinct nat_eq new = subst (IsDistinct nat_eq) (sym turned.is) (turned_distinct front back (subst (IsDistinct nat_eq) turned.was distinct)) in
    by_first new circle' distinct' least
  where
    by_first : (xs : List ℕ) → IsCircle Leads xs → IsDistinct nat_eq xs → All (λ c. slice_index_or xs 0 0 ≤ c) xs → IsCycle Leads xs
    by_first [] circle distinct least = absurd circle
    by_first (c ∷ cs) circle distinct least = (circle, distinct, All-tail (λ d. c ≤ d) c cs least)

-- WHO IS ON A TRAIL

differs : (i j : ℕ) → i ≢ j → nat_eq i j ≡ false
differs i j other = on_test (nat_eq i j) refl
  where
    on_test : (b : Bool) → nat_eq i j ≡ b → nat_eq i j ≡ false
    on_test true is = absurd (other (eqb-true i j is))
    on_test false is = is

-- who stands at no place is not among them
pub not_among : (xs : List ℕ) (a : ℕ) → ((k : ℕ) → k < length xs → slice_index_or xs k 0 ≡ a → ⊥) → is_taken xs a ≡ false
not_among [] a none = refl
not_among (x ∷ xs) a none =
    or_none (nat_eq a x) (list_any (nat_eq a) xs) (differs a x (λ is. none 0 (omega arith) (sym is))) (not_among xs a (λ k lt is. none (suc k) (omega (arith, lt)) is))

-- a trail to which one more can be added is short
pub has_place : (xs : List ℕ) (a : ℕ) → IsDistinct nat_eq xs → ((k : ℕ) → is_taken xs k ≡ true → k < 256) → is_taken xs a ≡ false → a < 256 → length xs < 256
has_place xs a distinct fit new fits =
    let one : length (xs ++ a ∷ []) ≡ length xs + 1 = length-append xs (a ∷ []) in
    let most : length (xs ++ a ∷ []) ≤ 256 = at_most (xs ++ a ∷ []) (distinct_more xs a distinct new) (fits_more xs a fits fit) in
    omega (arith, one, most)

-- AT THE BEGINNING AND AT THE END

-- a trail of one
pub one_distinct : (a : ℕ) → IsDistinct nat_eq (a ∷ [])
unfolding IsDistinct
one_distinct a = (tt, tt)

pub one_fits : (a : ℕ) → a < 256 → (k : ℕ) → is_taken (a ∷ []) k ≡ true → k < 256
one_fits a fits k is = fits_more [] a fits (λ n t. absurd (true≢false (sym t))) k is

-- a cycle of one relation is one of each that it implies
chain_by : (L M : ℕ → ℕ → Type 0) → ((a b : ℕ) → L a b → M a b) → (a : ℕ) (xs : List ℕ) (z : ℕ) → Chain L a xs z → Chain M a xs z
chain_by L M implies a [] z chain = implies a z chain
chain_by L M implies a (x ∷ xs) z chain = (implies a x chain.0, chain_by L M implies x xs z chain.1)

pub cycle_by : (L M : ℕ → ℕ → Type 0) → ((a b : ℕ) → L a b → M a b) → (xs : List ℕ) → IsCycle L xs → IsCycle M xs
cycle_by L M implies [] cycle = cycle
cycle_by L M implies (c ∷ cs) cycle = (chain_by L M implies c cs c cycle.0, cycle.1, cycle.2)

-- what is left from a place on, cut at its own length
pub rest_whole : (xs : List ℕ) (at : ℕ) → take (length xs - at) (drop at xs) ≡ drop at xs
rest_whole xs at = ap (λ (n : ℕ). take n (drop at xs)) (sym (length-drop at xs)) ∙ take-length (drop at xs)
