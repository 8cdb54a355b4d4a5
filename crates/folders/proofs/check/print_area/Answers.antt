use Rattle.std.proofs.Common.{Bool, List, subst}
use Rattle.std.specs.Io.KnownBytes.{Appends}
use Rattle.folders.specs.declared.check.Blocks.TheVariants.{Heartbeat}
use Rattle.folders.specs.Damage.{lines_of}
use Rattle.folders.proofs.Found.{any_is}
use Rattle.folders.proofs.check.print_area.Goals as goal

pub returns-clause-text : goal.returns-clause-text
returns-clause-text g c = λ tells.
    subst (λ (damaged : List Bool). Appends (g.O.Write.contents c.args.out.now) (g.O.Write.contents c.print_lines.new.out) (lines_of c.args.disk Heartbeat damaged))
    (c.in_ok-damaged.ensures.damaged tells) c.in_ok-print_lines.ensures

pub returns-clause-found : goal.returns-clause-found
returns-clause-found g c = λ tells. any_is c.in_ok-damaged.damaged c.has_damage.result c.has_damage.ensures (c.in_ok-damaged.ensures.some tells)
