use Rattle.std.proofs.Common.{◌≡◌, ◌<◌, ◌+◌, ℕ, true, length, nat_eq}
use Rattle.std.specs.List.{IsDistinct}
use Rattle.inspect.specs.Marks.{Marked}
use Rattle.inspect.specs.Peeled.{is_left, is_taken}
use Rattle.inspect.specs.Trails.{IsTrail}
use Rattle.inspect.proofs.trail.cycle_from.Given as goal

abbrev pub invariant-steps : goal.invariant-steps
invariant-steps l = record {
  trail : IsTrail (Marked l.edges) l.trail.items l.last;
  distinct : IsDistinct nat_eq l.trail.items;
  fit : (k : ℕ) → is_taken l.trail.items k ≡ true → k < 256;
  left : is_left l.left l.last ≡ true;
  long : length l.trail.items ≡ l._made + 1;
}
