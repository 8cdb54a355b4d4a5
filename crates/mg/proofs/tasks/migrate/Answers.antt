use Rattle.std.proofs.Common.{Bool, sym, subst}
use Rattle.std.specs.Prelude.{OnOk}
use Rattle.mg.specs.Tasks.{Migrates}
use Rattle.mg.proofs.tasks.migrate.Goals as goal

pub returns-then-json : goal.returns-then-json
returns-then-json g c =
    subst (λ (json : Bool). OnOk c.make_endless.result (Migrates json c.args.folder.now (g.O.Write.contents c.args.out.now) (g.O.Write.contents c.make_endless.new.out)))
    (sym c.if-json.true) c.make_endless.ensures

pub returns-else-json : goal.returns-else-json
returns-else-json g c =
    subst (λ (json : Bool). OnOk c.make_endless-else-json.result (Migrates json c.args.folder.now (g.O.Write.contents c.args.out.now) (g.O.Write.contents c.make_endless-else-json.new.out)))
    (sym c.if-json.false) c.make_endless-else-json.ensures.written
