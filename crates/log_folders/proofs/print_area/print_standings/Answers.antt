use Rattle.std.proofs.Common.{List, Bool, subst}
use Rattle.std.specs.Io.KnownBytes.{Appends}
use Rattle.log_folders.specs.declared.area.Part.TheVariants.{Standings}
use Rattle.log_folders.specs.Areas.{everybody, lines_of}
use Rattle.log_folders.proofs.Hits.{says_numbers}
use Rattle.log_folders.proofs.Steps.{none_ok}
use Rattle.log_folders.proofs.print_area.print_standings.Goals as goal

pub returns-clause-text : goal.returns-clause-text
returns-clause-text g c =
    subst (λ (damaged : List Bool). Appends (g.O.Write.contents c.args.out.now) (g.O.Write.contents c.print_lines.new.out) (lines_of c.args.area Standings everybody damaged))
    c.damaged_blocks-damaged.ensures.exact c.in_ok-print_lines.ensures.text

pub returns-clause-numbers : goal.returns-clause-numbers
returns-clause-numbers g c = says_numbers c.args.row.now c.decode_standings.result c.decode_standings.ensures.damaged c.decode_standings.ensures.each

pub returns-in_err-print_lines-clause-text : goal.returns-in_err-print_lines-clause-text
returns-in_err-print_lines-clause-text g c = none_ok c.from_residual.result _ _ c.from_residual.ensures.1
