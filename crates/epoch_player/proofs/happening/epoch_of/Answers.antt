-- Whatever entries lead to the cluster, what the host did leads to what is kept of it.
use Rattle.epoch_player.proofs.happening.epoch_of.Goals as goal

pub returns : goal.returns
returns c = λ entries led.
    let k = c.args.cluster.now in
    let h = c.args.host in
    c.epoch.ensures.known k.shape h (led.world.deeds h) (led.shows.hosts h c.host.result.now c.host.ensures)
