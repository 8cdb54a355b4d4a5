use Rattle.std.proofs.Common.{None, sym, ◌∙◌}
use Rattle.world.specs.Happens.{Start}
use Rattle.simulator.proofs.Changes.{reached, seen, unseen}
use Rattle.simulator.proofs.Owed as owed
use Rattle.simulator.proofs.Owed.{kept_in}
use Rattle.simulator.proofs.simulated_cluster.SimulatedCluster.start.Goals as goal

pub returns-then-is_some-clause-brings : goal.returns-then-is_some-clause-brings
returns-then-is_some-clause-brings c =
    let old = kept_in c.self.inside in
    let p = owed.place_of old c.self.invariant c.args.host c.get.result c.from-at.result c.get.ensures.value c.get.ensures.range c.from-at.ensures in
    unseen (Start c.args.host) old c.args.self.now None c.self.view_is (owed.starts_not old c.args.host p c.index.result.now c.index.ensures (sym c.is_some.ensures ∙ c.if-is_some.true))

pub invariant_of-self : goal.invariant_of-self
invariant_of-self c =
    let old = kept_in c.self.inside in
    let p = owed.place_of old c.self.invariant c.args.host c.get.result c.from-at.result c.get.ensures.value c.get.ensures.range c.from-at.ensures in
    reached (Start c.args.host) old _ None c.self.invariant
    (owed.starts old c.args.host p c.index.result.now c.index.ensures (sym c.is_some.ensures ∙ c.if-is_some.false) c.in_ok-core.core c.in_ok-core.ensures)

pub returns-clause-brings : goal.returns-clause-brings
returns-clause-brings c =
    let old = kept_in c.self.inside in
    let p = owed.place_of old c.self.invariant c.args.host c.get.result c.from-at.result c.get.ensures.value c.get.ensures.range c.from-at.ensures in
    seen (Start c.args.host) old c.args.self.now _ None c.self.view_is
    (owed.starts old c.args.host p c.index.result.now c.index.ensures (sym c.is_some.ensures ∙ c.if-is_some.false) c.in_ok-core.core c.in_ok-core.ensures)
