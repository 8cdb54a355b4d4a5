use Rattle.std.proofs.Common.{◌≡◌, ◌<◌, ℕ, true, false, ◌&&◌}
use Rattle.inspect.specs.Marks.{mark}
use Rattle.inspect.specs.Peeled.{IsHeldUp, is_left}
use Rattle.inspect.proofs.peeling.is_held_up.Given as goal

abbrev pub invariant-loop-b : goal.invariant-loop-b
invariant-loop-b l = record {
  yes : l.held_up ≡ true → IsHeldUp l.edges l.left l.a;
  no : l.held_up ≡ false → (k : ℕ) → k < l.b → mark l.edges l.a k && is_left l.left k ≡ false;
}
