use Rattle.std.proofs.Common.{Bool, sym, subst}
use Rattle.std.specs.Prelude.{OnOk}
use Rattle.mg.specs.Tasks.{Submits}
use Rattle.mg.proofs.tasks.submit.Goals as goal

pub returns-then-json : goal.returns-then-json
returns-then-json g c =
    subst (λ (json : Bool). OnOk c.submit.result (Submits json c.args.folder.now c.args.command (g.O.Write.contents c.args.out.now) (g.O.Write.contents c.submit.new.out)))
    (sym c.if-json.true) c.submit.ensures

pub returns-else-json : goal.returns-else-json
returns-else-json g c =
    subst (λ (json : Bool). OnOk c.submit-else-json.result (Submits json c.args.folder.now c.args.command (g.O.Write.contents c.args.out.now) (g.O.Write.contents c.submit-else-json.new.out)))
    (sym c.if-json.false) c.submit-else-json.ensures.written
