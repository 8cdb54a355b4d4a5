use Rattle.std.proofs.Common.{◌⊎◌, ◌<◌, ◌≤◌, ◌-◌, ℕ, length, slice_index_or}
use Rattle.inspect.specs.Blocked.{IsBlockedBy}
use Rattle.inspect.specs.Marks.{Marked, MarksPlace}
use Rattle.inspect.proofs.edges.mark_runs.Given as goal

abbrev pub invariant-loop-start : goal.invariant-loop-start
invariant-loop-start l = record {
  fits : l.start ≤ length l.locks;
  kept : (a b : ℕ) → Marked l.initial.edges a b → Marked l.edges a b;
  sound : (a b : ℕ) → Marked l.edges a b → Marked l.initial.edges a b ⊎ IsBlockedBy l.locks a b;
  complete : (k : ℕ) → k < length l.wanting → MarksPlace l.locks (slice_index_or l.wanting k 0) l.start l.edges;
  seen : (a : ℕ) → slice_index_or l.seen a 0 ≤ l.start;
}

abbrev pub decreases-loop-start : goal.decreases-loop-start
decreases-loop-start l = length l.locks - l.start
