use Rattle.std.proofs.Common.{subst}
use Rattle.epoch_simulator.specs.Kept.{IsHost, Kept}
use Rattle.epoch_simulator.proofs.Owed as owed
use Rattle.epoch_simulator.proofs.Owed.{kept_in}
use Rattle.epoch_simulator.proofs.simulated_epochs.SimulatedEpochs.host.Goals as goal

pub returns : goal.returns
returns c =
    let seat = owed.seat_of c.args.host c.get.result c.from.result c.get.ensures.value c.get.ensures.range c.from.ensures in
    let own = owed.own_of (kept_in c.self.inside) c.self.invariant c.args.host seat c.index.result.now c.index.ensures in
    subst (λ (k : Kept). IsHost k c.args.host c.index.result.now) c.self.view_is own.is
