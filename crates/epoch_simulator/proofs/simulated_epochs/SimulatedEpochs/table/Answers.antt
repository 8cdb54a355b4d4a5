use Rattle.epoch_simulator.proofs.Owed as owed
use Rattle.epoch_simulator.proofs.simulated_epochs.SimulatedEpochs.table.Goals as goal

pub returns-clause-known : goal.returns-clause-known
returns-clause-known c =
    owed.if_some c.table.result c.table.ensures.known
    (λ shown known entries led. known c.args.self.now.shape c.args.host (led.world.deeds c.args.host) (led.shows.hosts c.args.host c.host.result.now c.host.ensures))
