use Rattle.std.proofs.Common.{◌<◌, ◌≤◌, ◌-◌, ◌⊎◌, ◌≡◌, length}
use Rattle.inspect.specs.Marks.{ArePlaces, ListsWanting}
use Rattle.inspect.proofs.edges.list_wanting.Given as goal

abbrev pub invariant-loop-to : goal.invariant-loop-to
invariant-loop-to l = record {
  first : (l.from < l.to) ⊎ (length l.wanting.items ≡ 0);
  from : l.from ≤ l.to;
  fits : l.to ≤ length l.locks;
  places : ArePlaces l.locks l.wanting.items;
  listed : ListsWanting l.locks l.from l.to l.wanting.items;
}

abbrev pub decreases-loop-to : goal.decreases-loop-to
decreases-loop-to l = length l.locks - l.to
