use Rattle.std.proofs.Common.{Bool, sym, subst}
use Rattle.std.specs.Prelude.{OnOk}
use Rattle.mg.specs.Tasks.{Replaces}
use Rattle.mg.proofs.tasks.replace.Goals as goal

pub returns-then-json : goal.returns-then-json
returns-then-json g c =
    subst (λ (json : Bool). OnOk c.replace.result (Replaces json c.args.folder.now c.args.disk (g.O.Write.contents c.args.out.now) (g.O.Write.contents c.replace.new.out)))
    (sym c.if-json.true) c.replace.ensures

pub returns-else-json : goal.returns-else-json
returns-else-json g c =
    subst (λ (json : Bool). OnOk c.replace-else-json.result (Replaces json c.args.folder.now c.args.disk (g.O.Write.contents c.args.out.now) (g.O.Write.contents c.replace-else-json.new.out)))
    (sym c.if-json.false) c.replace-else-json.ensures.written
