use Rattle.log_folders.proofs.Lines.{Lined}
use Rattle.log_folders.proofs.print_area.print_lines.Given as goal

abbrev pub invariant-loop-host : goal.invariant-loop-host
invariant-loop-host g l = Lined l.area l.part l.shown l.damaged l.host (g.O.Write.contents l.initial.out) (g.O.Write.contents l.out) l.found
