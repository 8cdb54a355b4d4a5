use Rattle.std.proofs.Common.{◌<◌, ◌≤◌, ◌-◌, ℕ, length}
use Rattle.inspect.specs.Blocked.{IsBlockedBy}
use Rattle.inspect.specs.Marks.{Marked, MarksPlace}
use Rattle.inspect.proofs.edges.edges_of.Given as goal

abbrev pub invariant-loop-from : goal.invariant-loop-from
invariant-loop-from l = record {
  fits : l.from ≤ length l.locks;
  sound : (a b : ℕ) → Marked l.edges a b → IsBlockedBy l.locks a b;
  complete : (k : ℕ) → k < l.from → MarksPlace l.locks k (length l.locks) l.edges;
}

abbrev pub decreases-loop-from : goal.decreases-loop-from
decreases-loop-from l = length l.locks - l.from
