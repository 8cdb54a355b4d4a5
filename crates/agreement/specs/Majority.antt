-- Majorities of the disks 0, 1, 2, ..: how many of them pass a test, and when those are more than half.
use Rattle.std.specs.Prelude.{ℕ, zero, suc, ◌+◌, ◌*◌, ◌<◌, Bool, cond}

-- how many of the numbers below n pass
abbrev pub count : ℕ → (ℕ → Bool) → ℕ
count zero passes = 0
count (suc n) passes = count n passes + cond (passes n) 1 0

-- more than half of the disks pass
abbrev pub IsMajority : ℕ → (ℕ → Bool) → Type 0
IsMajority disks passes = disks < 2 * count disks passes
