use Rattle.std.proofs.Common.{◌⊎◌, ℕ}
use Rattle.inspect.specs.Blocked.{IsBlockedBy}
use Rattle.inspect.specs.Marks.{Marked, MarksRun}
use Rattle.inspect.proofs.edges.mark_places.Given as goal

abbrev pub invariant-loop-j : goal.invariant-loop-j
invariant-loop-j l = record {
  kept : (a b : ℕ) → Marked l.initial.edges a b → Marked l.edges a b;
  complete : MarksRun l.locks l.i l.from l.j l.edges;
  sound : (a b : ℕ) → Marked l.edges a b → Marked l.initial.edges a b ⊎ IsBlockedBy l.locks a b;
}
