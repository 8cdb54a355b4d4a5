use Rattle.epoch_simulator.proofs.Owed as owed
use Rattle.epoch_simulator.proofs.simulated_epochs.SimulatedEpochs.length.Goals as goal

pub returns-clause-known : goal.returns-clause-known
returns-clause-known c =
    owed.if_some c.length.result c.length.ensures.known
    (λ upto known entries led. known c.args.self.now.shape c.args.host (led.world.deeds c.args.host) (led.shows.hosts c.args.host c.host.result.now c.host.ensures))
