-- Numbers of all hosts in rows of standings, and what a crash may leave of them.
use Rattle.std.specs.Prelude.{◌⊎◌, ◌-◌, ◌%◌, nat_lt, if◌then◌else◌, replicate}
use Rattle.std.proofs.Common.{ℕ, ◌≡◌, ◌+◌, ◌≤◌, ◌<◌, Bool, true, false, true≢false, List, length, get_or, sym, ◌∙◌, ap, inl, inr, arith}
use Rattle.std.proofs.lemmas.Bool.{cases_lt, lt-ltb}
use Rattle.std.proofs.lemmas.Bool.Decides.{nat_tests}
use Rattle.std.proofs.lemmas.List.{get_or-replicate, length-replicate}
use Rattle.disk.specs.Disk.{DiskState, written, put_at}
use Rattle.disk.specs.Crash.{IsWhole, MayLeave}
use Rattle.disk.proofs.CrashLemmas.{length-put, put-below, put-inside, put-above}
use Rattle.epochs.specs.Showing.{IsCleared}
use Rattle.epochs.specs.Acts.{base_of, Shared}
use Rattle.epochs.specs.Bytes.{number_of}

-- NUMBERS OF ALL HOSTS

-- hosts that have no block have number 0
unfoldable pub numbers : ℕ → List ℕ → ℕ → ℕ → ℕ
numbers n bytes area host = if nat_lt area 2 then (if nat_lt host 16 then number_of n area host bytes else 0) else 0

not_below : (m most : ℕ) → most ≤ m → nat_lt m most ≡ false
not_below m most above = grind (arith, nat_tests, above)

pub numbers_is : (n : ℕ) (bytes : List ℕ) (area host : ℕ) → area < 2 → host < 16 → numbers n bytes area host ≡ number_of n area host bytes
unfolding numbers
numbers_is n bytes area host is_area is_host =
    ap (λ (b : Bool). if b then (if nat_lt host 16 then number_of n area host bytes else 0) else 0) (lt-ltb area 2 is_area)
    ∙ ap (λ (b : Bool). if b then number_of n area host bytes else 0) (lt-ltb host 16 is_host)

pub no_area : (n : ℕ) (bytes : List ℕ) (area host : ℕ) → 2 ≤ area → numbers n bytes area host ≡ 0
unfolding numbers
no_area n bytes area host above = ap (λ (b : Bool). if b then (if nat_lt host 16 then number_of n area host bytes else 0) else 0) (not_below area 2 above)

pub no_host : (n : ℕ) (bytes : List ℕ) (area host : ℕ) → area < 2 → 16 ≤ host → numbers n bytes area host ≡ 0
unfolding numbers
no_host n bytes area host is_area above =
    ap (λ (b : Bool). if b then (if nat_lt host 16 then number_of n area host bytes else 0) else 0) (lt-ltb area 2 is_area)
    ∙ ap (λ (b : Bool). if b then number_of n area host bytes else 0) (not_below host 16 above)

pub same_at : (n : ℕ) (one other : List ℕ) (area host : ℕ) → (area < 2 → host < 16 → number_of n area host one ≡ number_of n area host other) → numbers n one area host ≡ numbers n other area host
same_at n one other area host same =
    elim (cases_lt area 2) [
      | inl is_area ↦
          elim (cases_lt host 16) [
            | inl is_host ↦ numbers_is n one area host is_area is_host ∙ same is_area is_host ∙ sym (numbers_is n other area host is_area is_host)
            | inr above ↦ no_host n one area host is_area above ∙ sym (no_host n other area host is_area above)
          ]
      | inr above ↦ no_area n one area host above ∙ sym (no_area n other area host above)
    ]

pub same_numbers : (n : ℕ) (one other : List ℕ) → ((area host : ℕ) → area < 2 → host < 16 → number_of n area host one ≡ number_of n area host other) → numbers n one ≡ numbers n other
same_numbers n one other same = λ i area host. same_at n one other area host (same area host) i

-- WHAT IS KEPT

-- a flag in a range that was written
flag_inside : (old : List Bool) (at n p : ℕ) → at + length (replicate n true) ≤ length old → at ≤ p → p < at + n → get_or (put_at old at (replicate n true)) p false ≡ true
flag_inside old at n p fits from_there inside =
    let j = p - at in
    let a : at + j ≡ p = omega (arith, from_there) in
    let below : j < n = omega (arith, from_there, inside) in
    ap (λ (i : ℕ). get_or (put_at old at (replicate n true)) i false) (sym a)
    ∙ put-inside old at (replicate n true) fits false j (omega (arith, below, length-replicate n true))
    ∙ get_or-replicate n j true false below

-- what was there at the last sync may still be what a crash leaves
pub kept_written : (disk : DiskState) (kept : List ℕ) (at : ℕ) (from : List ℕ) → IsWhole disk → at + length from ≤ length disk.bytes → MayLeave disk kept → MayLeave (written disk at from) kept
kept_written disk kept at from marked fits may =
    let flags = replicate (length from) true in
    let many : length flags ≡ length from = length-replicate (length from) true in
    let flags_fit : at + length flags ≤ length disk.unsynced = omega (arith, fits, many, marked) in
    record {
      as_many = may.as_many ∙ sym (length-put disk.bytes at from fits 0);
      same = λ p flag. elim (cases_lt p at) [
        | inl before ↦ may.same p (sym (put-below disk.unsynced at flags flags_fit false p before) ∙ flag) ∙ sym (put-below disk.bytes at from fits 0 p before)
        | inr from_there ↦ elim (cases_lt p (at + length from)) [
          | inl inside ↦ absurd (true≢false (sym (flag_inside disk.unsynced at (length from) p flags_fit from_there inside) ∙ flag))
          | inr behind ↦
              may.same p (sym (put-above disk.unsynced at flags flags_fit false p (omega (arith, behind, many))) ∙ flag) ∙ sym (put-above disk.bytes at from fits 0 p behind)
        ]
      ];
    }

-- a host's number may be the next one after a crash: then it is sure what it is now, and with an odd one its blocks are cleared
unfoldable pub IsReady : (n area host : ℕ) → DiskState → List ℕ → Type 0
IsReady n area host whole kept =
    (number_of n area host whole.bytes ≡ number_of n area host kept) × (number_of n area host kept % 2 ≡ 1 → IsCleared n (base_of n area) host whole)

-- what a host's number may be after a crash
unfoldable pub IsOutcome : (n area host : ℕ) → DiskState → List ℕ → List ℕ → Type 0
IsOutcome n area host whole kept bytes =
    (number_of n area host bytes ≡ number_of n area host kept)
    ⊎ (number_of n area host bytes ≡ number_of n area host whole.bytes)
    ⊎ ((number_of n area host bytes ≡ number_of n area host whole.bytes + 1) × IsReady n area host whole kept)

pub record Ties (n : ℕ) (whole : DiskState) (kept : List ℕ) : Type 0 where
  pub row : 4096 ≤ n
  pub room : 4096 + n + n ≤ length whole.bytes
  pub marked : IsWhole whole
  pub may : MayLeave whole kept
  pub left : (area host : ℕ) → area < 2 → host < 16 → (bytes : List ℕ) → MayLeave whole bytes → IsOutcome n area host whole kept bytes

-- the same as acts see it
unfoldable pub shared : ℕ → DiskState → List ℕ → Shared
shared n whole kept = record { whole = whole; seen = numbers n whole.bytes; sure = numbers n kept }
