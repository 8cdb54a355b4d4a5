use Rattle.std.proofs.Common.{Bool, sym, subst}
use Rattle.std.specs.Prelude.{OnOk}
use Rattle.mg.specs.Tasks.{Tables}
use Rattle.mg.proofs.tasks.table.Goals as goal

pub returns-then-json : goal.returns-then-json
returns-then-json g c =
    subst (λ (json : Bool). OnOk c.table.result (Tables json c.args.folder.now c.args.host (g.O.Write.contents c.args.out.now) (g.O.Write.contents c.table.new.out)))
    (sym c.if-json.true) c.table.ensures

pub returns-else-json : goal.returns-else-json
returns-else-json g c =
    subst (λ (json : Bool). OnOk c.table-else-json.result (Tables json c.args.folder.now c.args.host (g.O.Write.contents c.args.out.now) (g.O.Write.contents c.table-else-json.new.out)))
    (sym c.if-json.false) c.table-else-json.ensures.written
