use Rattle.std.specs.Prelude.{IsTrue, ◌↔◌}
use Rattle.std.proofs.Common.{Option, sym, subst}
use Rattle.epoch_sweep.specs.declared.ending.Recovery.{Recovery}
use Rattle.epoch_sweep.specs.Judging.{HoldAll}
use Rattle.epoch_sweep.proofs.judging.holds_all.Goals as goal

pub returns-in-Some : goal.returns-in-Some
returns-in-Some c =
    subst (λ (o : Option Recovery). IsTrue c.all_held.result ↔ HoldAll c.args.told.now o) (sym c.in-Some.is) c.all_held.ensures
