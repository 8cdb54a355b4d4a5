use Rattle.std.proofs.Common.{◌≡◌, ℕ, List, ◌++◌, drop}
use Rattle.std.specs.Io.KnownBytes.{Appends}
use Rattle.dlm.specs.RaceText.{race_lines}
use Rattle.dlm.proofs.racing.print_race.Given as goal

abbrev pub invariant-loop-host : goal.invariant-loop-host
invariant-loop-host g l =
    (done : List ℕ) × (Appends (g.O.Write.contents l.initial.out) (g.O.Write.contents l.out) done) × (done ++ race_lines l.host (drop l.host l.race.answers.items) ≡ race_lines 0 l.race.answers.items)
