use Rattle.std.proofs.Common.{Bool, sym, subst}
use Rattle.std.specs.Prelude.{OnOk}
use Rattle.mg.specs.Tasks.{Marks}
use Rattle.mg.proofs.tasks.mark.Goals as goal

pub returns-then-json : goal.returns-then-json
returns-then-json g c =
    subst (λ (json : Bool). OnOk c.mark.result (Marks json c.args.folder.now c.args.host (g.O.Write.contents c.args.out.now) (g.O.Write.contents c.mark.new.out)))
    (sym c.if-json.true) c.mark.ensures

pub returns-else-json : goal.returns-else-json
returns-else-json g c =
    subst (λ (json : Bool). OnOk c.mark-else-json.result (Marks json c.args.folder.now c.args.host (g.O.Write.contents c.args.out.now) (g.O.Write.contents c.mark-else-json.new.out)))
    (sym c.if-json.false) c.mark-else-json.ensures.written
