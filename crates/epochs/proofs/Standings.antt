-- What the numbers of hosts say, and what stays cleared.
use Rattle.std.specs.Prelude.{◌⊎◌, ◌%◌, nat_lt, if◌then◌else◌, replicate}
use Rattle.std.proofs.Common.{ℕ, zero, suc, ◌≡◌, ◌≢◌, ◌+◌, ◌≤◌, ◌<◌, Bool, true, false, List, length, get_or, refl, sym, ◌∙◌, ap, subst, inl, inr, arith}
use Rattle.std.proofs.lemmas.Bool.{cases_order, cases_eq, eq-eqb, ne_eqb, lt-ltb}
use Rattle.std.proofs.lemmas.Bool.Decides.{nat_tests}
use Rattle.std.proofs.lemmas.List.{get_or-replicate, length-replicate}
use Rattle.disk.specs.Disk.{DiskState, Call, Attach, Read, Write, Sync, Answer, Step, Crashes, written, synced, lost}
use Rattle.disk.specs.Crash.{IsWhole}
use Rattle.disk.proofs.CrashLemmas.{put-below, put-above}
use Rattle.disk.proofs.StepLemmas.{step_keeps}
use Rattle.epochs.specs.Showing.{host_at, Before, Inside, After, Restands, IsCleared}
use Rattle.epochs.specs.Acts.{base_of, standing_by}

-- STANDINGS

not_less : (n : ℕ) → nat_lt n n ≡ false
not_less n = grind (arith, nat_tests)

pub by_is : (number own : ℕ) → own ≡ number → standing_by number own ≡ Inside
by_is number own is = ap (λ (b : Bool). if b then Inside else if nat_lt own number then Before else After) (eq-eqb own number is)

pub by_below : (number own : ℕ) → own < number → standing_by number own ≡ Before
by_below number own below =
    ap (λ (b : Bool). if b then Inside else if nat_lt own number then Before else After) (ne_eqb own number (λ e. absurd (omega (arith, below, e))))
    ∙ ap (λ (b : Bool). if b then Before else After) (lt-ltb own number below)

pub by_above : (number own : ℕ) → number < own → standing_by number own ≡ After
by_above number own above =
    ap (λ (b : Bool). if b then Inside else if nat_lt own number then Before else After) (ne_eqb own number (λ e. absurd (omega (arith, above, e))))
    ∙ ap (λ (b : Bool). if b then Before else After) (let e : nat_lt own number ≡ false = grind (arith, nat_tests, above) in e)

pub inside_is : (number own : ℕ) → standing_by number own ≡ Inside → own ≡ number
inside_is number own is =
    elim (cases_order own number) [
      | inl same ↦ same
      | inr (inl below) ↦ absurd (let clash : Before ≡ Inside = sym (by_below number own below) ∙ is in cc)
      | inr (inr above) ↦ absurd (let clash : After ≡ Inside = sym (by_above number own above) ∙ is in cc)
    ]

-- a number is sure, or the next one is seen as well
abbrev pub IsNext : (n base host sure seen : ℕ) → DiskState → Type 0
IsNext n base host sure seen whole = (seen ≡ sure) ⊎ ((seen ≡ sure + 1) × (sure % 2 ≡ 1 → IsCleared n base host whole))

-- once what is seen is sure a host stands as it did, or has left, or has come
pub restands : (n base host number sure seen : ℕ) (whole : DiskState) → number % 2 ≡ 0 → IsNext n base host sure seen whole → Restands n base host (standing_by number sure) (standing_by number seen) whole
restands n base host number sure seen whole even (inl same) = inl (ap (standing_by number) same)
restands n base host number sure seen whole even (inr next) =
    let more = next.0 in
    elim (cases_order sure number) [
      | inl own ↦ inr (inl (by_above number seen (omega (arith, more, own))))
      | inr (inl below) ↦
          elim (cases_eq seen number) [
            | inl now ↦ inr (inr (by_below number sure below, by_is number seen now, next.1 (omega (arith, more, now, even))))
            | inr not_yet ↦ inl (by_below number seen (omega (arith, more, below, not_yet)) ∙ sym (by_below number sure below))
          ]
      | inr (inr above) ↦ inl (by_above number seen (omega (arith, more, above)) ∙ sym (by_above number sure above))
    ]

-- AREAS

-- two areas have no byte in common
pub areas_apart : (n a b : ℕ) → a < 2 → b < 2 → a ≢ b → (base_of n a + n ≤ base_of n b) ⊎ (base_of n b + n ≤ base_of n a)
areas_apart n zero zero is_a is_b differ = absurd (differ refl)
areas_apart n zero (suc b) is_a is_b differ = inl (omega arith)
areas_apart n (suc a) zero is_a is_b differ = inr (omega arith)
areas_apart n (suc a) (suc b) is_a is_b differ = absurd (differ (let same : suc a ≡ suc b = omega (arith, is_a, is_b) in same))

pub area_fits : (n a size : ℕ) → 4096 + n + n ≤ size → base_of n a + n ≤ size
area_fits n zero size fits = omega (arith, fits)
area_fits n (suc a) size fits = omega (arith, fits)

-- WHAT STAYS CLEARED

-- what the call writes is of none of the host's blocks there
abbrev pub LeavesCleared : (n base host : ℕ) → DiskState → Call → Type 0
LeavesCleared n base host whole Attach = Unit {0}
LeavesCleared n base host whole (Read boot at len) = Unit {0}
LeavesCleared n base host whole (Write boot at from) =
    (at + length from ≤ length whole.bytes) × ((p : ℕ) → 4096 ≤ p → p < n → host_at p ≡ host → (base + p < at) ⊎ (at + length from ≤ base + p))
LeavesCleared n base host whole (Sync boot) = Unit {0}

module _ (n base host : ℕ) (whole : DiskState) (room : base + n ≤ length whole.bytes) (marked : IsWhole whole) (cleared : IsCleared n base host whole) where
  -- a write elsewhere
  pub cleared_written : (at : ℕ) (from : List ℕ) → at + length from ≤ length whole.bytes → ((p : ℕ) → 4096 ≤ p → p < n → host_at p ≡ host → (base + p < at) ⊎ (at + length from ≤ base + p)) → IsCleared n base host (written whole at from)
  cleared_written at from fits off =
      let flags = replicate (length from) true in
      let many : length flags ≡ length from = length-replicate (length from) true in
      let flags_fit : at + length flags ≤ length whole.unsynced = omega (arith, fits, many, marked) in
      record {
        bytes = λ p high below own. elim (off p high below own) [
          | inl before ↦ put-below whole.bytes at from fits 0 (base + p) before ∙ cleared.bytes p high below own
          | inr behind ↦ put-above whole.bytes at from fits 0 (base + p) behind ∙ cleared.bytes p high below own
        ];
        flags = λ p high below own. elim (off p high below own) [
          | inl before ↦ put-below whole.unsynced at flags flags_fit false (base + p) before ∙ cleared.flags p high below own
          | inr behind ↦ put-above whole.unsynced at flags flags_fit false (base + p) (omega (arith, behind, many)) ∙ cleared.flags p high below own
        ];
      }

  pub cleared_synced : IsCleared n base host (synced whole)
  cleared_synced =
      record { bytes = cleared.bytes; flags = λ p high below own. get_or-replicate (length whole.bytes) (base + p) false false (omega (arith, below, room)) }

  pub cleared_crashed : (new : DiskState) → Crashes whole new → IsCleared n base host new
  cleared_crashed new crash =
      record {
        bytes = λ p high below own. crash.bytes.same (base + p) (cleared.flags p high below own) ∙ cleared.bytes p high below own;
        flags = λ p high below own. ap (λ (l : List Bool). get_or l (base + p) false) crash.unsynced ∙ get_or-replicate (length whole.bytes) (base + p) false false (omega (arith, below, room));
      }

  pub cleared_lost : IsCleared n base host (lost whole)
  cleared_lost = record { bytes = cleared.bytes; flags = cleared.flags }

  pub cleared_steps : (new : DiskState) (call : Call) (answer : Answer) → LeavesCleared n base host whole call → Step whole call answer new → IsCleared n base host new
  cleared_steps new call answer leaves step =
      step_keeps (IsCleared n base host) whole new call answer
      (record {
        writes = λ boot at from left is as_many.
            let off = by_call boot at from is in
            cleared_written at left (omega (arith, as_many, off.0)) (λ p high below own. elim (off.1 p high below own) [ inl before ↦ inl before | inr behind ↦ inr (omega (arith, behind, as_many)) ]);
        syncs = cleared_synced;
        stays = cleared;
      })
      step
    where
      by_call : (boot at : ℕ) (from : List ℕ) → call ≡ Write boot at from → LeavesCleared n base host whole (Write boot at from)
      by_call boot at from is = subst (LeavesCleared n base host whole) is leaves
