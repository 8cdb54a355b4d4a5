-- Majorities of the disks, by the attempt's way to count and by the machine's.
use Rattle.std.proofs.Common.{ℕ, zero, suc, ◌+◌, ◌*◌, ◌<◌, ◌≡◌, Bool, true, false, cond, refl, arith}
use Rattle.std.proofs.lemmas.Bool.{ltb-true}
use Rattle.attempt.specs.Setup.{Setup}
use Rattle.attempt.specs.Numbers.{count as passing}
use Rattle.attempt.specs.Visits.{are_enough}
use Rattle.attempt.proofs.Firsts.{count_below}
use Rattle.agreement.specs.Majority.{count, IsMajority}

-- the attempt's way to count is the machine's
count_is : (n : ℕ) (passes : ℕ → Bool) → passing n passes ≡ count n passes
count_is zero passes = refl
count_is (suc n) passes = rw (count_is n passes) refl

-- where as many pass, there is a majority of them
pub majority_more : (s : Setup) (g h : ℕ → Bool) → ((d : ℕ) → d < s.disks → g d ≡ true → h d ≡ true) → are_enough s g ≡ true → IsMajority s.disks h
majority_more s g h more enough =
    let most : s.disks < 2 * passing s.disks g = ltb-true s.disks (2 * passing s.disks g) enough in
    let less = count_below s.disks g h more in
    let same = count_is s.disks h in
    omega arith

-- one of the first n passes
pub record IsOne (n : ℕ) (g : ℕ → Bool) : Type 0 where
  pub disk : ℕ
  pub below : disk < n
  pub passes : g disk ≡ true

-- there is one where the count is positive
one_of : (n : ℕ) (g : ℕ → Bool) → 0 < passing n g → IsOne n g
one_of zero g some = absurd (omega arith)
one_of (suc n) g some = go (g n) refl some (one_of n g)
  where
    go : (t : Bool) → g n ≡ t → 0 < passing n g + cond t 1 0 → (0 < passing n g → IsOne n g) → IsOne (suc n) g
    go true is some before = record { disk = n; below = omega arith; passes = is }
    go false is some before = (let one = before (omega arith) in record { disk = one.disk; below = omega (arith, one.below); passes = one.passes })

-- of enough disks there is one
pub enough_one : (s : Setup) (passes : ℕ → Bool) → are_enough s passes ≡ true → IsOne s.disks passes
enough_one s passes enough =
    let most : s.disks < 2 * passing s.disks passes = ltb-true s.disks (2 * passing s.disks passes) enough in
    one_of s.disks passes (omega arith)
