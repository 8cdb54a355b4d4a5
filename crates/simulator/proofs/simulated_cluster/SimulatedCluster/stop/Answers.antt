use Rattle.std.proofs.Common.{None}
use Rattle.world.specs.Happens.{Stop}
use Rattle.simulator.proofs.Changes.{reached, seen}
use Rattle.simulator.proofs.Owed as owed
use Rattle.simulator.proofs.Owed.{kept_in}
use Rattle.simulator.proofs.simulated_cluster.SimulatedCluster.stop.Goals as goal

pub invariant_of-self : goal.invariant_of-self
invariant_of-self c =
    let old = kept_in c.self.inside in
    let p = owed.place_of old c.self.invariant c.args.host c.get.result c.from.result c.get.ensures.value c.get.ensures.range c.from.ensures in
    reached (Stop c.args.host) old _ None c.self.invariant (owed.stops old c.args.host p)

pub returns : goal.returns
returns c =
    let old = kept_in c.self.inside in
    let p = owed.place_of old c.self.invariant c.args.host c.get.result c.from.result c.get.ensures.value c.get.ensures.range c.from.ensures in
    seen (Stop c.args.host) old c.args.self.now _ None c.self.view_is (owed.stops old c.args.host p)
