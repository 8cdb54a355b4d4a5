-- The seventeen calls by their numbers: the stage before each and behind it.
use Rattle.std.specs.Prelude.{nat_le, nat_lt, slice_get}
use Rattle.std.proofs.Common.{◌&&◌, Bool, true, drop, ℕ, zero, suc, ◌+◌, ◌<◌, ◌≤◌, ◌≡◌, Some, List, [], ◌∷◌, refl, subst, arith}
use Rattle.std.proofs.lemmas.Bool.{and_parts, leb-true, ltb-true}
use Rattle.torn_block.specs.declared.write_steps.WriteCall.{WriteCall}
use Rattle.torn_block.specs.declared.write_steps.WriteCall.TheVariants.{CloseGate, SyncOpened}
use Rattle.attempt.specs.Calls.{Phase, Opening, One, Two, Kind, Attaching, Syncing, Reading, Putting, seventeen, start, goal}
use Rattle.attempt_safety.specs.Machine.{stage_at, writing_in}

-- A TABLE

-- P holds of each of the calls and its number, from i on
abbrev AllFrom : (Kind → ℕ → Type 0) → List Kind → ℕ → Type 0
AllFrom P [] i = Unit {0}
AllFrom P (kind ∷ kinds) i = P kind i × AllFrom P kinds (i + 1)

-- so it holds of the call that stands at a number
at : (P : Kind → ℕ → Type 0) (kinds : List Kind) (i n : ℕ) (kind : Kind) → AllFrom P kinds i → slice_get kinds n ≡ Some kind → P kind (i + n)
at P [] i n kind all is = absurd (cc)
at P (first ∷ kinds) i zero kind all is =
    let both : Some first ≡ Some kind = is in
    let same : first ≡ kind = cc in
    let number : i ≡ i + 0 = omega arith in
    subst (λ (k : Kind). P k (i + 0)) same (subst (λ (n : ℕ). P first n) number all.0)
at P (first ∷ kinds) i (suc n) kind all is =
    let number : (i + 1) + n ≡ i + suc n = omega arith in
    subst (λ (n : ℕ). P kind n) number (at P kinds (i + 1) n kind all.1 is)

-- WHAT EACH CALL IS

-- a call of this number is of the phase
pub record IsWithin (p : Phase) (n : ℕ) : Type 0 where
  pub come : start p ≤ n
  pub short : n < goal p

-- the same as a test
abbrev is_within : Phase → ℕ → Bool
is_within p n = nat_le (start p) n && nat_lt n (goal p)

-- what the test tells
within_is : (p : Phase) (n : ℕ) → is_within p n ≡ true → IsWithin p n
within_is p n is =
    let both = and_parts (nat_le (start p) n) (nat_lt n (goal p)) is in
    record { come = leb-true (start p) n both.0; short = ltb-true n (goal p) both.1 }

-- the phase has a write
abbrev pub HasWrite : Phase → Type 0
HasWrite Opening = ⊥
HasWrite One = Unit {0}
HasWrite Two = Unit {0}

-- the call leaves the stage
abbrev pub IsLevel : ℕ → Type 0
IsLevel n = stage_at (n + 1) ≡ stage_at n

-- the first call of a write leads from the stage before to the write's
abbrev pub IsFirstCall : Phase → ℕ → Type 0
IsFirstCall p n = (suc (stage_at n) ≡ writing_in p) × (stage_at (n + 1) ≡ writing_in p)

-- and the sixth to the stage behind
abbrev pub IsSixthCall : Phase → ℕ → Type 0
IsSixthCall p n = (stage_at n ≡ writing_in p) × (stage_at (n + 1) ≡ suc (writing_in p))

-- any other call of a write leaves the stage
abbrev pub MarksCall : Phase → WriteCall → ℕ → Type 0
MarksCall p CloseGate n = IsFirstCall p n
MarksCall p SyncOpened n = IsSixthCall p n
MarksCall p call n = IsLevel n

-- by a table whose entries compute
abbrev Marks : Kind → ℕ → Type 0
Marks Attaching n = IsLevel n
Marks Syncing n = IsLevel n
Marks Reading n = (p : Phase) × (is_within p n ≡ true) × (n + 1 ≡ goal p)
Marks (Putting p call) n = HasWrite p × (is_within p n ≡ true) × MarksCall p call n

-- the calls of phase 2, of phase 1, and all
marks_two : AllFrom Marks (drop 10 seventeen) 10
marks_two =
    ((tt, refl, (refl, refl)), ((tt, refl, refl), ((tt, refl, refl), ((tt, refl, refl), ((tt, refl, refl), ((tt, refl, (refl, refl)), ((Two, refl, refl), tt)))))))

marks_one : AllFrom Marks (drop 3 seventeen) 3
marks_one =
    ((tt, refl, (refl, refl)), ((tt, refl, refl), ((tt, refl, refl), ((tt, refl, refl), ((tt, refl, refl), ((tt, refl, (refl, refl)), ((One, refl, refl), marks_two)))))))

marks_all : AllFrom Marks seventeen 0
marks_all = (refl, (refl, ((Opening, refl, refl), marks_one)))

-- what the call of a number is
marks : (n : ℕ) (kind : Kind) → slice_get seventeen n ≡ Some kind → Marks kind n
marks n kind is = let number : 0 + n ≡ n = omega arith in subst (λ (k : ℕ). Marks kind k) number (at Marks seventeen 0 n kind marks_all is)

-- the first two calls leave the stage
pub attaching : (n : ℕ) → slice_get seventeen n ≡ Some Attaching → IsLevel n
attaching n is = marks n Attaching is

pub syncing : (n : ℕ) → slice_get seventeen n ≡ Some Syncing → IsLevel n
syncing n is = marks n Syncing is

-- a number is of one phase
pub one_phase : (p q : Phase) (n : ℕ) → IsWithin p n → IsWithin q n → q ≡ p
one_phase Opening Opening n first second = refl
one_phase Opening One n first second = absurd (omega (arith, first.come, first.short, second.come, second.short))
one_phase Opening Two n first second = absurd (omega (arith, first.come, first.short, second.come, second.short))
one_phase One Opening n first second = absurd (omega (arith, first.come, first.short, second.come, second.short))
one_phase One One n first second = refl
one_phase One Two n first second = absurd (omega (arith, first.come, first.short, second.come, second.short))
one_phase Two Opening n first second = absurd (omega (arith, first.come, first.short, second.come, second.short))
one_phase Two One n first second = absurd (omega (arith, first.come, first.short, second.come, second.short))
one_phase Two Two n first second = refl

-- WHAT A CALL OF A PHASE IS

module _ (p : Phase) (n : ℕ) (here : IsWithin p n) where
  -- a read is the phase's last call
  pub reading : slice_get seventeen n ≡ Some Reading → n + 1 ≡ goal p
  reading is =
      let marked = marks n Reading is in
      subst (λ (q : Phase). n + 1 ≡ goal q) (one_phase p marked.0 n here (within_is marked.0 n marked.1)) marked.2

  -- a call of a write is of the phase's
  pub putting : (q : Phase) (call : WriteCall) → slice_get seventeen n ≡ Some (Putting q call) → q ≡ p
  putting q call is = let marked = marks n (Putting q call) is in one_phase p q n here (within_is q n marked.1)

-- and it marks the write
pub writing : (p : Phase) (call : WriteCall) (n : ℕ) → slice_get seventeen n ≡ Some (Putting p call) → HasWrite p × MarksCall p call n
writing p call n is = let marked = marks n (Putting p call) is in (marked.0, marked.2)
