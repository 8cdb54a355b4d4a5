-- Of the headline. Counting and choosing among the numbers below a bound.
use Rattle.std.specs.Prelude.{ℕ, zero, suc, ◌+◌, Bool, cond, Option, Some, None}

-- how many of the first n numbers pass
abbrev pub count : ℕ → (ℕ → Bool) → ℕ
count zero passes = 0
count (suc n) passes = count n passes + cond (passes n) 1 0

abbrev pub found : Option ℕ → Bool → ℕ → Option ℕ
found (Some d) here n = Some d
found None here n = cond here (Some n) None

-- the least number below n that passes
abbrev pub first_below : ℕ → (ℕ → Bool) → Option ℕ
first_below zero passes = None
first_below (suc n) passes = found (first_below n passes) (passes n) n
