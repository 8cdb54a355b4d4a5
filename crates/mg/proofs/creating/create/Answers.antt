use Rattle.std.proofs.Common.{Bool, sym, subst}
use Rattle.std.specs.Prelude.{OnOk}
use Rattle.mg.specs.Tasks.{Creates}
use Rattle.mg.proofs.creating.create.Goals as goal

pub returns-then-json : goal.returns-then-json
returns-then-json g c =
    subst (λ (json : Bool). OnOk c.create_as_json.result (Creates json c.args.folder.now c.args.cluster c.args.disks c.args.slots (g.O.Write.contents c.args.out.now) (g.O.Write.contents c.create_as_json.new.out)))
    (sym c.if-json.true) c.create_as_json.ensures

pub returns-else-json : goal.returns-else-json
returns-else-json g c =
    subst (λ (json : Bool). OnOk c.create_in_words.result (Creates json c.args.folder.now c.args.cluster c.args.disks c.args.slots (g.O.Write.contents c.args.out.now) (g.O.Write.contents c.create_in_words.new.out)))
    (sym c.if-json.false) c.create_in_words.ensures
