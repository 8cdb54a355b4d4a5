use Rattle.std.proofs.Common.{◌⊎◌, ◌<◌, ℕ, slice_index_or}
use Rattle.inspect.specs.Blocked.{IsBlockedBy}
use Rattle.inspect.specs.Marks.{IsSeen, Marked, MarksRun}
use Rattle.inspect.proofs.edges.mark_blocked.Given as goal

abbrev pub invariant-listed : goal.invariant-listed
invariant-listed l = record {
  kept : (a b : ℕ) → Marked l.initial.edges a b → Marked l.edges a b;
  complete : (k : ℕ) → k < l.place-index → MarksRun l.locks (slice_index_or l.wanting k 0) l.start l.end l.edges;
  sound : (a b : ℕ) → Marked l.edges a b → Marked l.initial.edges a b ⊎ IsBlockedBy l.locks a b;
  seen : IsSeen l.locks l.queue l.end l.edges l.seen;
}
