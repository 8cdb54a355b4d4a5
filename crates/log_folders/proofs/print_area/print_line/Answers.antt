use Rattle.std.specs.Prelude.{OnOk}
use Rattle.std.proofs.Common.{sym, subst, append_assoc}
use Rattle.std.specs.Io.KnownBytes.{Appends}
use Rattle.log_folders.specs.declared.area.Part.{Part}
use Rattle.log_folders.specs.Areas.{line_of}
use Rattle.log_folders.proofs.print_area.print_line.Goals as goal

pub returns-in-Standings : goal.returns-in-Standings
returns-in-Standings g c =
    subst (λ (part : Part). OnOk c.writeln.result (Appends (g.O.Write.contents c.args.out.now) (g.O.Write.contents c.writeln.new.self) (line_of c.args.area part c.args.host))) (sym c.in-Standings.is)
    (simp append_assoc c.writeln.ensures.bytes)

pub returns-in-Slot : goal.returns-in-Slot
returns-in-Slot g c =
    subst (λ (part : Part). OnOk c.writeln-in-Slot.result (Appends (g.O.Write.contents c.args.out.now) (g.O.Write.contents c.writeln-in-Slot.new.self) (line_of c.args.area part c.args.host))) (sym c.in-Slot.is)
    (simp append_assoc c.writeln-in-Slot.ensures.bytes)
