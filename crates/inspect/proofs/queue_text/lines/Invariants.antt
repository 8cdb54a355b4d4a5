use Rattle.std.proofs.Common.{◌≡◌, ℕ, List, ◌++◌, [], drop}
use Rattle.std.specs.Io.KnownBytes.{Appends}
use Rattle.inspect.specs.Text.{lines_behind}
use Rattle.inspect.proofs.queue_text.lines.Given as goal

abbrev pub invariant-loop-at : goal.invariant-loop-at
invariant-loop-at g l =
    (done : List ℕ) × (Appends (g.W.Write.contents l.initial.out) (g.W.Write.contents l.out) done) × (done ++ lines_behind l.before (drop l.at l.locks) (drop l.at l.values) ≡ lines_behind [] l.locks l.values)
