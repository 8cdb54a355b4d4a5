use Rattle.std.specs.List.{flat_map, range_with_len}
use Rattle.std.specs.Io.KnownBytes.{Appends}
use Rattle.folders.specs.Damage.{line_if}
use Rattle.folders.proofs.check.print_lines.Given as goal

abbrev pub invariant-loop-host : goal.invariant-loop-host
invariant-loop-host g l =
    Appends (g.O.Write.contents l.initial.out) (g.O.Write.contents l.out) (flat_map (line_if l.disk l.blocks l.damaged) (range_with_len 0 l.host))
