-- Lists of places, and the locks that stand there.
use Rattle.std.proofs.Common.{◌≡◌, ◌≢◌, nat_lt, ◌≤◌, ◌<◌, ◌+◌, ℕ, zero, suc, Bool, true, false, cond, ◌==◌, nat_le, List, [], ◌∷◌, ◌++◌, length, get_or, take, drop, insert, remove, set, map, refl, sym, ap, subst, ◌∙◌, arith, length-append}
use Rattle.std.specs.List.{filter}
use Rattle.std.proofs.lemmas.Bool.{eq-eqb, le-leb, ltb-true, ltb-false}
use Rattle.std.proofs.lemmas.List.{take-append-drop, drop_more, get_or-map, length-map, length-set, get_or-set_same, get_or-set_other, get_or_read}
use Rattle.std.proofs.lemmas.List.Edits.{length-insert, length-remove}
use Rattle.std.proofs.lemmas.List.Elements.{filter-append}
use Rattle.lock_command.specs.declared.record.LockRecord.{LockRecord}
use Rattle.lock_index.specs.Shelved.{no_lock, at_place, at_places, times, idle, IsShelved}

pub times-append : (p : ℕ) (xs ys : List ℕ) → times p (xs ++ ys) ≡ times p xs + times p ys
times-append p xs ys = ap length (filter-append (λ q. q == p) xs ys) ∙ length-append (filter (λ q. q == p) xs) (filter (λ q. q == p) ys)

pub times-cons : (p q : ℕ) (xs : List ℕ) → times p (q ∷ xs) ≡ cond (q == p) 1 0 + times p xs
times-cons p q xs = elim (q == p) as (λ b. length (cond b (q ∷ filter (λ o. o == p) xs) (filter (λ o. o == p) xs)) ≡ cond b 1 0 + times p xs) [
  | true ↦ omega arith
  | false ↦ omega arith
]

pub times-insert : (p q : ℕ) (xs : List ℕ) (i : ℕ) → times p (insert xs i q) ≡ times p xs + cond (q == p) 1 0
times-insert p q xs i =
    let whole : times p (take i xs) + times p (drop i xs) ≡ times p xs = sym (times-append p (take i xs) (drop i xs)) ∙ ap (times p) (take-append-drop i xs) in
    omega (arith, times-append p (take i xs) (q ∷ drop i xs), times-cons p q (drop i xs), whole)

pub times-remove : (p : ℕ) (xs : List ℕ) (i d : ℕ) → i < length xs → times p xs ≡ times p (remove xs i) + cond (get_or xs i d == p) 1 0
times-remove p xs i d inside =
    let more : suc i ≡ i + 1 = omega arith in
    let rest : drop i xs ≡ get_or xs i d ∷ drop (suc i) xs = drop_more xs i d inside ∙ ap (λ k. get_or xs i d ∷ drop k xs) (sym more) in
    let whole : times p (take i xs) + times p (get_or xs i d ∷ drop (suc i) xs) ≡ times p xs = sym (times-append p (take i xs) (get_or xs i d ∷ drop (suc i) xs)) ∙ ap (λ l. times p (take i xs ++ l)) (sym rest) ∙ ap (times p) (take-append-drop i xs) in
    omega (arith, times-append p (take i xs) (drop (suc i) xs), times-cons p (get_or xs i d) (drop (suc i) xs), whole)

itself : (p : ℕ) → (p == p) ≡ true
itself p = eq-eqb p p refl

-- locks stand where they stood if no place of the order changes
pub at_places-same : (next records : List LockRecord) (order : List ℕ) → ((p : ℕ) → 1 ≤ times p order → at_place next p ≡ at_place records p) → at_places next order ≡ at_places records order
at_places-same next records [] same = refl
at_places-same next records (q ∷ order) same =
    let own : times q (q ∷ order) ≡ 1 + times q order = times-cons q q order ∙ ap (λ b. cond b 1 0 + times q order) (itself q) in
    λ i. same q (omega (arith, own)) i ∷ at_places-same next records order (λ p listed. same p (omega (arith, listed, times-cons p q order))) i

pub map-insert : {X Y : Type 0} (f : X → Y) (xs : List X) (i : ℕ) (x : X) → map f (insert xs i x) ≡ insert (map f xs) i (f x)
map-insert f [] zero x = refl
map-insert f [] (suc i) x = refl
map-insert f (y ∷ xs) zero x = refl
map-insert f (y ∷ xs) (suc i) x = ap (λ l. f y ∷ l) (map-insert f xs i x)

pub map-remove : {X Y : Type 0} (f : X → Y) (xs : List X) (i : ℕ) → map f (remove xs i) ≡ remove (map f xs) i
map-remove f [] zero = refl
map-remove f [] (suc i) = refl
map-remove f (y ∷ xs) zero = refl
map-remove f (y ∷ xs) (suc i) = ap (λ l. f y ∷ l) (map-remove f xs i)

pub times-last : (p q : ℕ) (xs ys : List ℕ) → ys ≡ xs ++ q ∷ [] → times p ys ≡ times p xs + cond (q == p) 1 0
times-last p q xs ys is = omega (arith, ap (times p) is, times-append p xs (q ∷ []), times-cons p q [])

pub times-itself : (q : ℕ) → ◌≡◌ {A = ℕ} (cond (q == q) 1 0) 1
times-itself q = ap (λ b. cond b 1 0) (itself q)

pub last_below : (xs ys : List ℕ) (q n : ℕ) → ys ≡ xs ++ q ∷ [] → ((p : ℕ) → 1 ≤ times p ys → p < n) → q < n
last_below xs ys q n is below = below q (omega (arith, times-last q q xs ys is, times-itself q))

-- a record in place of the one at a place that is listed once
set_once : (records : List LockRecord) (q d : ℕ) (new : LockRecord) (order : List ℕ) (i : ℕ) → q < length records → times q order ≤ 1 → i < length order → q ≡ get_or order i d
    → at_places (set records q new) order ≡ set (at_places records order) i new
set_once records q d new [] i inside once low is = absurd (omega (arith, low))
set_once records q d new (p ∷ order) zero inside once low is =
    let first : times q (p ∷ order) ≡ 1 + times q order = times-cons q p order ∙ ap (λ b. cond b 1 0 + times q order) (eq-eqb p q (sym is)) in
    let head : at_place (set records q new) p ≡ new = ap (at_place (set records q new)) (sym is) ∙ get_or-set_same records q new no_lock inside in
    let tail : at_places (set records q new) order ≡ at_places records order =
    at_places-same (set records q new) records order (λ k listed. get_or-set_other records q k new no_lock (λ (same : k ≡ q). absurd (omega (arith, listed, ap {B = ℕ} (λ n. times n order) same, first, once)))) in
    λ j. head j ∷ tail j
set_once records q d new (p ∷ order) (suc i) inside once low is =
    let rest = times-cons q p order in
    let behind : i < length order = omega (arith, low) in
    let own = get_or order i d in
    let listed : 1 ≤ times own order = omega (arith, times-remove own order i d behind, times-itself own) in
    let there : times q order ≡ times own order = ap {B = ℕ} (λ n. times n order) is in
    let other : p ≢ q = λ same.
    let both : times q (p ∷ order) ≡ 1 + times q order = rest ∙ ap (λ b. cond b 1 0 + times q order) (eq-eqb p q same) in
    absurd (omega (arith, both, there, listed, once)) in
    let head : at_place (set records q new) p ≡ at_place records p = get_or-set_other records q p new no_lock other in
    let tail = set_once records q d new order i inside (omega (arith, rest, once)) behind is in
    λ j. head j ∷ tail j

one_at_most : (b : Bool) → 0 + (0 + cond b 1 0) ≤ 1
one_at_most true = omega arith
one_at_most false = omega arith

-- where there is no place
pub shelved_none : (records : List LockRecord) (order free : List ℕ) → records ≡ [] → order ≡ [] → free ≡ [] → IsShelved records order free
shelved_none records order free no_records no_order no_free =
    let none : IsShelved [] [] [] = record { apart = λ p. one_at_most (nat_le 0 p); all = omega arith } in
    subst (λ (r : List LockRecord). IsShelved r order free) (sym no_records) (subst (λ (o : List ℕ). IsShelved [] o free) (sym no_order) (subst (λ (f : List ℕ). IsShelved [] [] f) (sym no_free) none))

module _ (records : List LockRecord) (order free : List ℕ) (sound : IsShelved records order free) where
  pub listed_place : (i d : ℕ) → i < length order → 1 ≤ times (get_or order i d) order
  listed_place i d inside = let p = get_or order i d in omega (arith, times-remove p order i d inside, times-itself p)

  -- as many places as locks
  pub as_many : (shown : List LockRecord) → at_places records order ≡ shown → length order ≡ length shown
  as_many shown is = sym (length-map order (at_place records)) ∙ ap length is

  pub inside_order : (shown : List LockRecord) (i : ℕ) → at_places records order ≡ shown → i < length shown → i < length order
  inside_order shown i is inside = omega (arith, as_many shown is, inside)

  -- a place of the order has a record
  pub place_inside : (i d : ℕ) → i < length order → get_or order i d < length records
  place_inside i d inside =
      let p = get_or order i d in
      elim (nat_le (length records) p) as (λ b. nat_le (length records) p ≡ b → p < length records) [
        | true ↦ λ e.
            let behind : idle records free p ≡ times p free + 1 = ap (λ b. times p free + cond b 1 0) e in
            absurd (omega (arith, behind, listed_place i d inside, sound.apart p))
        | false ↦ λ e. elim (nat_lt p (length records)) as (λ b. nat_lt p (length records) ≡ b → p < length records) [
          | true ↦ λ t. ltb-true p (length records) t
          | false ↦ λ t.
              let clash : true ≡ false = sym (le-leb (length records) p (ltb-false p (length records) t)) ∙ e in
              let impossible : ⊥ = cc in absurd impossible
        ] refl
      ] refl

  -- what is read at a place of the order
  pub read_in_order : (shown : List LockRecord) (i p d : ℕ) (r : LockRecord) → at_places records order ≡ shown → i < length order → p ≡ get_or order i d → r ≡ get_or records p r → r ≡ get_or shown i r
  read_in_order shown i p d r is inside place read =
      let there : p < length records = omega (arith, place_inside i d inside, place) in
      get_or_read records p r there read no_lock
      ∙ ap (at_place records) place
      ∙ sym (get_or-map (at_place records) order i d r inside)
      ∙ ap (λ l. get_or l i r) is

  -- a record in place of another
  pub shown_set : (i q d : ℕ) (new : LockRecord) → i < length order → q ≡ get_or order i d → at_places (set records q new) order ≡ set (at_places records order) i new
  shown_set i q d new inside is = set_once records q d new order i (omega (arith, place_inside i d inside, is)) (omega (arith, sound.apart q)) inside is

  pub shelved_set : (q : ℕ) (new : LockRecord) → IsShelved (set records q new) order free
  shelved_set q new =
      let long : length (set records q new) ≡ length records = length-set records q new in
      record {
        apart = λ p. subst (λ (n : ℕ). times p order + (times p free + cond (nat_le n p) 1 0) ≤ 1) (sym long) (sound.apart p);
        all = omega (arith, sound.all, long);
      }

-- a place that is given up
pub shelved_remove : (records : List LockRecord) (order free next : List ℕ) (i d : ℕ) → IsShelved records order free → i < length order → next ≡ free ++ get_or order i d ∷ [] → IsShelved records (remove order i) next
shelved_remove records order free next i d sound inside is = record {
  apart = λ p. omega (arith, sound.apart p, times-remove p order i d inside, times-last p (get_or order i d) free next is);
  all = omega (arith, sound.all, ap length is, length-append free (get_or order i d ∷ []), length-remove {X = ℕ} order i inside);
}

-- a place that is taken
pub shelved_insert : (records next : List LockRecord) (order free left : List ℕ) (i q : ℕ) → IsShelved records order free
    → ((p : ℕ) → idle records free p ≡ idle next left p + cond (q == p) 1 0) → length next + length free ≡ length records + length left + 1 → i ≤ length order → IsShelved next (insert order i q) left
shelved_insert records next order free left i q sound taken more inside = record {
  apart = λ p. omega (arith, sound.apart p, taken p, times-insert p q order i);
  all = omega (arith, sound.all, more, length-insert {X = ℕ} order i q inside);
}

pub shown_insert : (records next : List LockRecord) (order free : List ℕ) (i q : ℕ) → IsShelved records order free → ((p : ℕ) → idle records free p ≡ 0 → at_place next p ≡ at_place records p)
    → at_places next (insert order i q) ≡ insert (at_places records order) i (at_place next q)
shown_insert records next order free i q sound others =
    map-insert (at_place next) order i q
    ∙ ap (λ l. insert l i (at_place next q)) (at_places-same next records order (λ p listed. others p (omega (arith, sound.apart p, listed))))
