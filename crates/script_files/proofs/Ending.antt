-- The status of a task: 0 where it ended well, else 1.
use Rattle.std.specs.Prelude.{Result, Ok, Err, OnOk, is_ok, if◌then◌else◌}
use Rattle.std.proofs.Common.{◌≡◌, ℕ, arith}

pub ended : {E : Type 0} (r : Result (Unit {0}) E) (Done : Type 0) (status : ℕ) → status ≡ (if is_ok r then 0 else 1) → status ≡ 0 → OnOk r Done → Done
ended (Ok u) Done status is well done = done
ended (Err e) Done status is well done = let one : status ≡ 1 = is in absurd (omega (arith, one, well))

pub never_two : {E : Type 0} (r : Result (Unit {0}) E) (status : ℕ) → status ≡ (if is_ok r then 0 else 1) → status ≡ 2 → ⊥
never_two (Ok u) status is two = let none : status ≡ 0 = is in omega (arith, none, two)
never_two (Err e) status is two = let one : status ≡ 1 = is in omega (arith, one, two)
