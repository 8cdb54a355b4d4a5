use Rattle.std.specs.Prelude.{IsTrue, ◌↔◌}
use Rattle.std.proofs.Common.{Option, sym, subst}
use Rattle.epoch_sweep.specs.declared.ending.Recovery.{Recovery}
use Rattle.epoch_sweep.specs.Judging.{ShowOne}
use Rattle.epoch_sweep.proofs.judging.show_one.Goals as goal

pub returns-in-Some : goal.returns-in-Some
returns-in-Some c =
    subst (λ (o : Option Recovery). IsTrue c.shows_as.result ↔ ShowOne o c.args.last.now) (sym c.in-Some.is) c.shows_as.ensures
