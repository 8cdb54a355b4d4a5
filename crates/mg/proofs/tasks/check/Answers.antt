use Rattle.std.proofs.Common.{Bool, sym, subst, None}
use Rattle.std.specs.Prelude.{OnOk}
use Rattle.dlm_tasks.specs.Checking.{IsFound}
use Rattle.mg.specs.Tasks.{WritesSound}
use Rattle.mg.proofs.tasks.check.Goals as goal

pub returns-then-json : goal.returns-then-json
returns-then-json g c =
    subst (λ (json : Bool). OnOk c.check.result (IsFound None × WritesSound json c.args.folder.now (g.O.Write.contents c.args.out.now) (g.O.Write.contents c.check.new.out)))
    (sym c.if-json.true) c.check.ensures

pub returns-else-json : goal.returns-else-json
returns-else-json g c =
    subst (λ (json : Bool). OnOk c.check-else-json.result (IsFound None × WritesSound json c.args.folder.now (g.O.Write.contents c.args.out.now) (g.O.Write.contents c.check-else-json.new.out)))
    (sym c.if-json.false) c.check-else-json.ensures.sound
