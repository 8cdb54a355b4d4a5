use Rattle.std.proofs.Common.{◌≡◌, ◌<◌, ℕ, false}
use Rattle.inspect.specs.Peeled.{is_left}
use Rattle.inspect.proofs.peeling.Peeling.first_left.Given as goal

abbrev pub invariant-loop-a : goal.invariant-loop-a
invariant-loop-a l = (k : ℕ) → k < l.a → is_left l.self.left k ≡ false
