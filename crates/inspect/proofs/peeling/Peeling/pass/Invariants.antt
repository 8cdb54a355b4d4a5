use Rattle.std.proofs.Common.{◌≡◌, ◌<◌, ◌≤◌, ℕ, true, length}
use Rattle.inspect.specs.Peeled.{IsPeeled, IsHeldUp, is_left}
use Rattle.inspect.proofs.peeling.Peeling.pass.Given as goal

abbrev pub invariant-loop-a : goal.invariant-loop-a
invariant-loop-a l = record {
  peeled : IsPeeled l.edges l.self.left l.self.ranks l.self.taken.items;
  more : length l.initial.self.taken.items ≤ length l.self.taken.items;
  held_up : length l.self.taken.items ≡ length l.initial.self.taken.items → (k : ℕ) → k < l.a → is_left l.self.left k ≡ true → IsHeldUp l.edges l.self.left k;
}
