-- Names as numbers that rise as the names do.
use Rattle.std.proofs.Common.{◌≡◌, ◌≤◌, ◌<◌, ◌+◌, ◌*◌, ◌/◌, ◌^◌, ℕ, zero, suc, true, false, cond, ◌==◌, ◌&&◌, nat_le, nat_lt, List, [], ◌∷◌, length, get_or, refl, sym, ap, ◌∙◌, inl, inr, arith}
use Rattle.std.specs.List.{list_all}
use Rattle.std.specs.Ordering.{is_lt, nat_cmp, ordering_then}
use Rattle.std.specs.Cmp.Lexicographic.{slice_cmp}
use Rattle.std.specs.declared.cmp.Ordering.{Ordering}
use Rattle.std.specs.declared.cmp.Ordering.TheVariants.{Less, Equal, Greater}
use Rattle.std.proofs.lemmas.Bool.{cases_lt, and_parts, leb-true, lt-ltb, le-ltb, eq-eqb, ne_eqb}
use Rattle.std.proofs.Math.Nat.{mul-le-mul_left}
use Rattle.lock_command.specs.Name.{is_name_byte, IsName}
use Rattle.lock_command.specs.declared.record.LockRecord.{LockRecord}
use Rattle.lock_command.specs.declared.state.LockState.{LockState}
use Rattle.lock_command.specs.declared.state.LockState.TheVariants.{Granted, Converting, Waiting}
use Rattle.lock_index.specs.Printed.{rank_of, number_among, printed_cmp}
use Rattle.lock_index.specs.Indexed.{stands_before_rank}
use Rattle.lock_index.specs.Keys.{spelled, key_of, lock_key, HasKey}
use Rattle.lock_index.proofs.Keyed.{is_lt_nat}

-- what a digit in front of so many others counts
abbrev pub weight : ℕ → ℕ
weight zero = 1
weight (suc n) = weight n * 128

weight_some : (n : ℕ) → 1 ≤ weight n
weight_some zero = omega arith
weight_some (suc n) = let some = weight_some n in omega (arith, some)

pub weight_rises : (n m : ℕ) → n ≤ m → weight n ≤ weight m
weight_rises n zero below = let none : n ≡ zero = omega (arith, below) in omega (arith, ap {B = ℕ} weight none)
weight_rises n (suc m) below =
    elim (cases_lt m n) as (λ w. weight n ≤ weight (suc m)) [
      | inl above ↦ let same : n ≡ suc m = omega (arith, above, below) in omega (arith, ap {B = ℕ} weight same)
      | inr under ↦ let rest = weight_rises n m under in omega (arith, rest)
    ]

less : (a b : ℕ) → a < b → nat_cmp a b ≡ Less
less a b h = ap (λ t. cond t Less (cond (a == b) Equal Greater)) (lt-ltb a b h)

equal : (a b : ℕ) → a ≡ b → nat_cmp a b ≡ Equal
equal a b h = (λ i. cond (le-ltb a b (omega (arith, h)) i) Less (cond (eq-eqb a b h i) Equal Greater))

greater : (a b : ℕ) → b < a → nat_cmp a b ≡ Greater
greater a b h = (λ i. cond (le-ltb a b (omega (arith, h)) i) Less (cond (ne_eqb a b (λ e. absurd (omega (arith, h, e))) i) Equal Greater))

second : (a b r s : ℕ) → a ≡ b → nat_cmp (a + r) (b + s) ≡ nat_cmp r s
second a b r s same =
    elim (cases_lt r s) as (λ u. nat_cmp (a + r) (b + s) ≡ nat_cmp r s) [
      | inl below ↦ less (a + r) (b + s) (omega (arith, same, below)) ∙ sym (less r s below)
      | inr above ↦ elim (cases_lt s r) as (λ u. nat_cmp (a + r) (b + s) ≡ nat_cmp r s) [
        | inl behind ↦ greater (a + r) (b + s) (omega (arith, same, behind)) ∙ sym (greater r s behind)
        | inr under ↦ equal (a + r) (b + s) (omega (arith, same, above, under)) ∙ sym (equal r s (omega (arith, above, under)))
      ]
    ]

-- numbers of two digits compare by the first, then by the second
digits : (w x y r s : ℕ) → r < w → s < w → nat_cmp (x * w + r) (y * w + s) ≡ ordering_then (nat_cmp x y) (nat_cmp r s)
digits w x y r s low high =
    elim (cases_lt x y) as (λ u. nat_cmp (x * w + r) (y * w + s) ≡ ordering_then (nat_cmp x y) (nat_cmp r s)) [
      | inl below ↦
          let far : w * (x + 1) ≤ w * y = mul-le-mul_left w (omega (arith, below)) in
          less (x * w + r) (y * w + s) (omega (arith, far, low)) ∙ sym (ap (λ o. ordering_then o (nat_cmp r s)) (less x y below))
      | inr above ↦ elim (cases_lt y x) as (λ u. nat_cmp (x * w + r) (y * w + s) ≡ ordering_then (nat_cmp x y) (nat_cmp r s)) [
        | inl behind ↦
            let far : w * (y + 1) ≤ w * x = mul-le-mul_left w (omega (arith, behind)) in
            greater (x * w + r) (y * w + s) (omega (arith, far, high)) ∙ sym (ap (λ o. ordering_then o (nat_cmp r s)) (greater x y behind))
        | inr under ↦
            let same : x ≡ y = omega (arith, above, under) in
            let also : x * w ≡ y * w = ap (λ (n : ℕ). n * w) same in
            second (x * w) (y * w) r s also ∙ sym (ap (λ o. ordering_then o (nat_cmp r s)) (equal x y same))
      ]
    ]

spelled_none : (n : ℕ) → spelled n [] ≡ 0
unfolding spelled
spelled_none zero = refl
spelled_none (suc n) = ap (λ m. m * 128 + 0) (spelled_none n)

spelled_first : (n x : ℕ) (xs : List ℕ) → spelled (suc n) (x ∷ xs) ≡ x * weight n + spelled n xs
unfolding spelled
spelled_first zero x xs = omega arith
spelled_first (suc n) x xs = let rest = spelled_first n x xs in ap (λ m. m * 128 + get_or xs n 0) rest ∙ omega arith

byte_fits : (b : ℕ) → is_name_byte b ≡ true → (1 ≤ b) × (b < 128)
byte_fits b fits =
    let parts = and_parts (nat_le 0x21 b) (nat_le b 0x7E) fits in
    let low = leb-true 0x21 b parts.0 in
    let high = leb-true b 0x7E parts.1 in
    (omega (arith, low), omega (arith, high))

byte_at : (xs : List ℕ) (k : ℕ) → list_all is_name_byte xs ≡ true → get_or xs k 0 < 128
byte_at [] k all = omega arith
byte_at (x ∷ xs) zero all = (byte_fits x (and_parts (is_name_byte x) (list_all is_name_byte xs) all).0).1
byte_at (x ∷ xs) (suc k) all = byte_at xs k (and_parts (is_name_byte x) (list_all is_name_byte xs) all).1

pub spelled_small : (n : ℕ) (xs : List ℕ) → list_all is_name_byte xs ≡ true → spelled n xs < weight n
unfolding spelled
spelled_small zero xs all = omega arith
spelled_small (suc n) xs all =
    let rest = spelled_small n xs all in
    let last = byte_at xs n all in
    omega (arith, rest, last)

-- a first byte counts more than nothing
some_first : (n x : ℕ) (xs : List ℕ) → 1 ≤ x → 0 < spelled (suc n) (x ∷ xs)
some_first n x xs some =
    let far : weight n * 1 ≤ weight n * x = mul-le-mul_left (weight n) some in
    let first = spelled_first n x xs in
    let unit = weight_some n in
    omega (arith, far, first, unit)

spelled_cmp : (n : ℕ) (a b : List ℕ) → length a ≤ n → length b ≤ n → list_all is_name_byte a ≡ true → list_all is_name_byte b ≡ true → nat_cmp (spelled n a) (spelled n b) ≡ slice_cmp nat_cmp a b
spelled_cmp n [] [] short few these those = equal (spelled n []) (spelled n []) refl
spelled_cmp zero [] (y ∷ b) short few these those = absurd (omega (arith, few))
spelled_cmp (suc n) [] (y ∷ b) short few these those =
    let some = (byte_fits y (and_parts (is_name_byte y) (list_all is_name_byte b) those).0).0 in
    less (spelled (suc n) []) (spelled (suc n) (y ∷ b)) (omega (arith, spelled_none (suc n), some_first n y b some))
spelled_cmp zero (x ∷ a) b short few these those = absurd (omega (arith, short))
spelled_cmp (suc n) (x ∷ a) [] short few these those =
    let some = (byte_fits x (and_parts (is_name_byte x) (list_all is_name_byte a) these).0).0 in
    greater (spelled (suc n) (x ∷ a)) (spelled (suc n) []) (omega (arith, spelled_none (suc n), some_first n x a some))
spelled_cmp (suc n) (x ∷ a) (y ∷ b) short few these those =
    let this = (and_parts (is_name_byte x) (list_all is_name_byte a) these).1 in
    let that = (and_parts (is_name_byte y) (list_all is_name_byte b) those).1 in
    (λ i. nat_cmp (spelled_first n x a i) (spelled_first n y b i))
    ∙ digits (weight n) x y (spelled n a) (spelled n b) (spelled_small n a this) (spelled_small n b that)
    ∙ ap (ordering_then (nat_cmp x y)) (spelled_cmp n a b (omega (arith, short)) (omega (arith, few)) this that)

name_parts : (name : List ℕ) → IsName name → (length name ≤ 15) × (list_all is_name_byte name ≡ true)
name_parts name named =
    let parts = and_parts (nat_le 1 (length name) && nat_le (length name) 15) (list_all is_name_byte name) named in
    (leb-true (length name) 15 (and_parts (nat_le 1 (length name)) (nat_le (length name) 15) parts.0).1, parts.1)

then_assoc : (o p q : Ordering) → ordering_then (ordering_then o p) q ≡ ordering_then o (ordering_then p q)
then_assoc Less p q = refl
then_assoc Equal p q = refl
then_assoc Greater p q = refl

pub key_cmp : (a b : List ℕ) (k l m n : ℕ) → IsName a → IsName b → k < 4 → l < 4 → m < 65536 → n < 65536
    → nat_cmp (key_of a k m) (key_of b l n) ≡ ordering_then (slice_cmp nat_cmp a b) (ordering_then (nat_cmp k l) (nat_cmp m n))
key_cmp a b k l m n this that low high below under =
    let these = name_parts a this in
    let those = name_parts b that in
    digits 65536 (spelled 15 a * 4 + k) (spelled 15 b * 4 + l) m n below under
    ∙ ap (λ o. ordering_then o (nat_cmp m n)) (digits 4 (spelled 15 a) (spelled 15 b) k l low high ∙ ap (λ o. ordering_then o (nat_cmp k l)) (spelled_cmp 15 a b these.0 those.0 these.1 those.1))
    ∙ then_assoc (slice_cmp nat_cmp a b) (nat_cmp k l) (nat_cmp m n)

rank_small : (s : LockState) → rank_of s < 4
rank_small (Granted mode) = omega arith
rank_small (Converting held wanted) = omega arith
rank_small (Waiting wanted) = omega arith

number_small : (s : LockState) (n : ℕ) → n < 65536 → number_among s n < 65536
number_small (Granted mode) n few = few
number_small (Converting held wanted) n few = omega arith
number_small (Waiting wanted) n few = omega arith

pub key_small : (r : LockRecord) → HasKey r → lock_key r < 2 ^ 126
key_small r own =
    let digits = spelled_small 15 r.name (name_parts r.name own.named).1 in
    omega (arith, digits, rank_small r.state, number_small r.state r.lock own.number)

-- locks are printed as their keys rise
pub printed_by_key : (a b : LockRecord) → HasKey a → HasKey b → nat_cmp (lock_key a) (lock_key b) ≡ printed_cmp a b
printed_by_key a b one two =
    key_cmp a.name b.name (rank_of a.state) (rank_of b.state) (number_among a.state a.lock) (number_among b.state b.lock) one.named two.named (rank_small a.state) (rank_small b.state)
    (number_small a.state a.lock one.number) (number_small b.state b.lock two.number)

-- whether a record stands in front is decided without its last part, where that is never less
last_is_never_less : (o p q : Ordering) → is_lt q ≡ false → is_lt (ordering_then o (ordering_then p q)) ≡ is_lt (ordering_then o p)
last_is_never_less Less p q h = refl
last_is_never_less Greater p q h = refl
last_is_never_less Equal Less q h = refl
last_is_never_less Equal Greater q h = refl
last_is_never_less Equal Equal q h = h

-- keys tell which locks stand before a name and a rank
pub before_by_key : (name : List ℕ) (rank : ℕ) (r : LockRecord) → HasKey r → IsName name → rank < 4 → nat_lt (lock_key r) (key_of name rank 0) ≡ stands_before_rank name rank r
before_by_key name rank r own named few =
    let number = number_among r.state r.lock in
    sym (is_lt_nat (lock_key r) (key_of name rank 0))
    ∙ ap is_lt (key_cmp r.name name (rank_of r.state) rank number 0 own.named named (rank_small r.state) few (number_small r.state r.lock own.number) (omega arith))
    ∙ last_is_never_less (slice_cmp nat_cmp r.name name) (nat_cmp (rank_of r.state) rank) (nat_cmp number 0) (is_lt_nat number 0 ∙ le-ltb number 0 (omega arith))

-- a key begins with the number of the name
pub name_of_key : (r : LockRecord) → HasKey r → lock_key r / 2 ^ 18 ≡ spelled 15 r.name
name_of_key r own = omega (arith, rank_small r.state, number_small r.state r.lock own.number)

pub name_small : (name : List ℕ) → IsName name → spelled 15 name < 2 ^ 107
name_small name named =
    let digits = spelled_small 15 name (name_parts name named).1 in
    omega (arith, digits)

-- names of one number are the same
pub alike_spelled : (a b : List ℕ) → IsName a → IsName b → spelled 15 a ≡ spelled 15 b → slice_cmp nat_cmp a b ≡ Equal
alike_spelled a b this that same =
    let these = name_parts a this in
    let those = name_parts b that in
    sym (spelled_cmp 15 a b these.0 those.0 these.1 those.1) ∙ equal (spelled 15 a) (spelled 15 b) same
