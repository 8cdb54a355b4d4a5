-- How many calls a host has made behind a place, and how many slots are marked.
use Rattle.std.specs.Prelude.{cond, take, drop, slice_get}
use Rattle.std.proofs.Common.{ℕ, zero, suc, ◌+◌, ◌*◌, ◌<◌, ◌≤◌, ◌≡◌, inl, inr, Bool, true, false, Some, None, List, [], ◌∷◌, length, length-append, ap, ◌∙◌, arith}
use Rattle.std.proofs.lemmas.Bool.{cases_lt}
use Rattle.std.proofs.lemmas.List.{length-take-le, drop_all, drop-append-le}
use Rattle.std.proofs.lemmas.List.Elements.{filter-append}
use Rattle.std.proofs.lemmas.Option.{slice_get_within}
use Rattle.std.proofs.lemmas.Nat.{row_fits_turned}
use Rattle.attempt.specs.Numbers.{count}
use Rattle.world.specs.Entry.{Filled, is_of, of_host}
use Rattle.world_safety.proofs.Runs.Places.{take_next, take_end}
use Rattle.world_served.specs.Served.{calls_between}

-- CALLS

module _ (log : List Filled) (i h : ℕ) where
  -- none behind the place itself
  pub none_yet : (e : Filled) → slice_get log i ≡ Some e → calls_between log i (suc i) h ≡ 0
  none_yet e is =
      let less = slice_get_within log i e is in
      let all : length (take (suc i) log) ≤ i + 1 = omega (arith, length-take-le (suc i) log (omega arith)) in
      ap (λ (l : List Filled). length (of_host h l)) (drop_all (i + 1) (take (suc i) log) all)

  one_by : (k : ℕ) (e : Filled) → i < k → slice_get log k ≡ Some e → calls_between log i (suc k) h ≡ calls_between log i k h + length (of_host h (e ∷ []))
  one_by k e behind is =
      let less = slice_get_within log k e is in
      let room : i + 1 ≤ length (take k log) = omega (arith, length-take-le k log (omega arith)) in
      ap (λ (l : List Filled). length (of_host h (drop (i + 1) l))) (take_next log k e is)
      ∙ ap (λ (l : List Filled). length (of_host h l)) (drop-append-le (i + 1) (take k log) (e ∷ []) room)
      ∙ ap length (filter-append (is_of h) (drop (i + 1) (take k log)) (e ∷ []))
      ∙ length-append (of_host h (drop (i + 1) (take k log))) (of_host h (e ∷ []))

  -- an entry of the host is one more,
  pub one_more : (k : ℕ) (e : Filled) → i < k → slice_get log k ≡ Some e → is_of h e ≡ true → calls_between log i (suc k) h ≡ calls_between log i k h + 1
  one_more k e behind is of = one_by k e behind is ∙ ap (λ (b : Bool). calls_between log i k h + length (cond b (e ∷ []) [])) of

  -- and no other is
  pub no_more : (k : ℕ) (e : Filled) → i < k → slice_get log k ≡ Some e → is_of h e ≡ false → calls_between log i (suc k) h ≡ calls_between log i k h
  no_more k e behind is off =
      let same = one_by k e behind is ∙ ap (λ (b : Bool). calls_between log i k h + length (cond b (e ∷ []) [])) off in
      omega (arith, same)

  pub at_end : (k : ℕ) → slice_get log k ≡ None → calls_between log i (suc k) h ≡ calls_between log i k h
  at_end k is = ap (λ (l : List Filled). length (of_host h (drop (i + 1) l))) (take_end log k is)

-- at the place itself there is none, whatever the list
take_short : {A : Type 0} (l : List A) (n : ℕ) → length (take n l) ≤ n
take_short l zero = omega arith
take_short [] (suc n) = omega arith
take_short (x ∷ l) (suc n) = let rest = take_short l n in omega arith

pub none_at_first : (log : List Filled) (i h : ℕ) → calls_between log i (suc i) h ≡ 0
none_at_first log i h = ap (λ (l : List Filled). length (of_host h l)) (drop_all (i + 1) (take (suc i) log) (let short = take_short log (suc i) in omega arith))

-- MARKS

abbrev as_number : Bool → ℕ
as_number b = cond b 1 0

-- so many slots in a row that are marked are at most as many as all that are
pub count_marked : (n : ℕ) (marks : ℕ → Bool) (base past : ℕ) → base + past ≤ n → ((slot : ℕ) → base ≤ slot → slot < base + past → marks slot ≡ true) → past ≤ count n marks
count_marked zero marks base past room marked = omega arith
count_marked (suc n) marks base zero room marked = omega arith
count_marked (suc n) marks base (suc past) room marked =
    elim (cases_lt n (base + suc past)) [
      | inl last ↦
          (let before = count_marked n marks base past (omega arith) (λ slot above below. marked slot above (omega arith)) in
          let here : as_number (marks n) ≡ 1 = ap as_number (marked n (omega arith) last) in
          omega (arith, before, here))
      | inr more ↦ (let before = count_marked n marks base (suc past) more marked in omega (arith, before))
    ]

-- THE BOUND

-- so many attempts of so many calls are within the bound
pub within : (past most width : ℕ) → past ≤ most → past * width + width ≤ width * (most + 1)
within past most width le = let fits : past < most + 1 = omega arith in omega (arith, row_fits_turned past width width (most + 1) fits (omega arith))

pub one_past : (past width : ℕ) → suc past * width ≡ past * width + width
one_past past width = omega arith
