-- The disks in the order in which they are asked: each has its turn.
use Rattle.std.specs.Prelude.{nat_lt, if◌then◌else◌}
use Rattle.std.proofs.Common.{ℕ, zero, suc, ◌+◌, ◌<◌, ◌≤◌, ◌≡◌, Bool, true, false, inl, inr, refl, sym, subst, ap, ◌∙◌, arith}
use Rattle.std.proofs.lemmas.Bool.{cases_eq, cases_lt, lt-ltb, le-ltb}
use Rattle.attempt.proofs.Lists.{by_eq}
use Rattle.rounds.specs.Look.Kept.{disk_at, turn_of}

-- what holds in both cases of a comparison holds of it
pub by_lt : (P : Bool → Type 0) (i k : ℕ) → (i < k → P true) → (k ≤ i → P false) → P (nat_lt i k)
by_lt P i k below beyond = elim (cases_lt i k) [
  | inl l ↦ subst P (sym (lt-ltb i k l)) (below l)
  | inr l ↦ subst P (sym (le-ltb i k l)) (beyond l)
]

-- the turn of the first disk, of one below it and of one above it
pub turn_first : (first : ℕ) → turn_of first first ≡ 0
turn_first first = by_eq (λ t. (if t then 0 else if nat_lt first first then first + 1 else first) ≡ 0) first first (λ same. refl) (λ off. absurd (off refl))

pub turn_below : (first d : ℕ) → d < first → turn_of first d ≡ d + 1
turn_below first d l =
    by_eq (λ t. (if t then 0 else if nat_lt d first then d + 1 else d) ≡ d + 1) d first (λ same. absurd (omega arith))
    (λ off. by_lt (λ t. (if t then d + 1 else d) ≡ d + 1) d first (λ less. refl) (λ more. absurd (omega arith)))

pub turn_above : (first d : ℕ) → first < d → turn_of first d ≡ d
turn_above first d l =
    by_eq (λ t. (if t then 0 else if nat_lt d first then d + 1 else d) ≡ d) d first (λ same. absurd (omega arith))
    (λ off. by_lt (λ t. (if t then d + 1 else d) ≡ d) d first (λ less. absurd (omega arith)) (λ more. refl))

-- the disk at a turn
pub at_low : (first n : ℕ) → n < first → disk_at first (suc n) ≡ n
at_low first n l = ap (λ (t : Bool). if t then n else suc n) (lt-ltb n first l)

pub at_high : (first n : ℕ) → first ≤ n → disk_at first (suc n) ≡ suc n
at_high first n l = ap (λ (t : Bool). if t then n else suc n) (le-ltb n first l)

-- each turn is that of its disk
pub turn_at : (first n : ℕ) → turn_of first (disk_at first n) ≡ n
turn_at first zero = turn_first first
turn_at first (suc n) = elim (cases_lt n first) [
  | inl l ↦ ap (turn_of first) (at_low first n l) ∙ turn_below first n l ∙ omega arith
  | inr l ↦ ap (turn_of first) (at_high first n l) ∙ turn_above first (suc n) (omega arith)
]

-- and each disk is asked at its turn
at_beyond : (first d : ℕ) → first < d → disk_at first d ≡ d
at_beyond first zero l = absurd (omega arith)
at_beyond first (suc n) l = at_high first n (omega arith)

pub at_turn : (first d : ℕ) → disk_at first (turn_of first d) ≡ d
at_turn first d = elim (cases_eq d first) [
  | inl same ↦ ap (disk_at first) (ap (turn_of first) same ∙ turn_first first) ∙ sym same
  | inr off ↦ elim (cases_lt d first) [
    | inl l ↦ ap (disk_at first) (turn_below first d l ∙ (let next : d + 1 ≡ suc d = omega arith in next)) ∙ at_low first d l
    | inr l ↦ (let above : first < d = omega arith in ap (disk_at first) (turn_above first d above) ∙ at_beyond first d above)
  ]
]

pub disk_of_turn : (first d n : ℕ) → turn_of first d ≡ n → d ≡ disk_at first n
disk_of_turn first d n is = sym (at_turn first d) ∙ ap (disk_at first) is

-- a turn is one of the disks'
pub at_inside : (first disks n : ℕ) → first < disks → n < disks → disk_at first n < disks
at_inside first disks zero f l = f
at_inside first disks (suc n) f l = elim (cases_lt n first) [
  | inl low ↦ (let at = at_low first n low in omega arith)
  | inr high ↦ (let at = at_high first n high in omega arith)
]

-- behind the first, the disks below the one that is asked had their turns
pub lower_before : (first n e : ℕ) → e < disk_at first (suc n) → turn_of first e < suc n
lower_before first n e l = elim (cases_lt n first) [
  | inl low ↦
      (let at = at_low first n low in
      let is = turn_below first e (omega arith) in
      omega arith)
  | inr high ↦
      (let at = at_high first n high in
      elim (cases_eq e first) [
        | inl same ↦ (let is = ap (turn_of first) same ∙ turn_first first in omega arith)
        | inr off ↦ elim (cases_lt e first) [
          | inl below ↦ (let is = turn_below first e below in omega arith)
          | inr beyond ↦ (let above : first < e = omega arith in let is = turn_above first e above in omega arith)
        ]
      ])
]
