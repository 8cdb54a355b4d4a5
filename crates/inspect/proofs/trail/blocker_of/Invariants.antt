use Rattle.std.proofs.Common.{◌≡◌, ◌<◌, ℕ, false, ◌&&◌}
use Rattle.inspect.specs.Marks.{mark}
use Rattle.inspect.specs.Peeled.{is_left}
use Rattle.inspect.proofs.trail.blocker_of.Given as goal

abbrev pub invariant-loop-b : goal.invariant-loop-b
invariant-loop-b l = (k : ℕ) → k < l.b → mark l.edges l.a k && is_left l.left k ≡ false
