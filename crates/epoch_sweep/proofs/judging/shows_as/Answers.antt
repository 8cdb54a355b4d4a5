use Rattle.std.specs.Prelude.{IsTrue, ◌↔◌}
use Rattle.std.proofs.Common.{Option, Some, sym, subst}
use Rattle.epoch_sweep.specs.declared.ending.Recovery.{Recovery}
use Rattle.epoch_sweep.specs.Judging.{ShowOne}
use Rattle.epoch_sweep.proofs.judging.shows_as.Goals as goal

pub returns-in-Some : goal.returns-in-Some
returns-in-Some c =
    subst (λ (o : Option Recovery). IsTrue c.show_same.result ↔ ShowOne (Some c.args.first.now) o) (sym c.in-Some.is) c.show_same.ensures
