use Rattle.std.proofs.Common.{None, refl, sym, ◌∙◌, arith}
use Rattle.world.specs.Happens.{Step}
use Rattle.simulator.proofs.Changes.{reached, seen, unseen}
use Rattle.simulator.proofs.Owed as owed
use Rattle.simulator.proofs.Owed.{kept_in, Due}
use Rattle.simulator.proofs.simulated_cluster.SimulatedCluster.advance.Goals as goal
use Rattle.simulator.proofs.simulated_cluster.SimulatedCluster.advance.Goals.{After-index_mut-disk}

pub returns-then-not-is_busy-clause-silent : goal.returns-then-not-is_busy-clause-silent
returns-then-not-is_busy-clause-silent c =
    let old = kept_in c.self.inside in
    let p = owed.place_of old c.self.invariant c.args.host c.get.result c.from-at.result c.get.ensures.value c.get.ensures.range c.from-at.ensures in
    let event = Step c.args.host in
    λ silent. unseen event old c.args.self.now None c.self.view_is
    (owed.steps_idle old c.args.host p c.index.result.now c.index.ensures (sym c.is_busy.ensures ∙ c.if-not-is_busy.true))

pub index_mut-disk-requires : goal.index_mut-disk-requires
index_mut-disk-requires c =
    let there = owed.is_there (kept_in c.self.inside) c.self.invariant c.args.host (owed.place_of (kept_in c.self.inside) c.self.invariant c.args.host c.get.result c.from-at.result c.get.ensures.value c.get.ensures.range c.from-at.ensures)
    c.index_mut.result.now c.index_mut.ensures.value c.in-Some.core c.in-Some.is c.call-need.result c.call-need.ensures.disk c.from.result c.from.ensures in
    omega (arith, there)

-- the call
abbrev due : (c : After-index_mut-disk) → Due (kept_in c.self.inside) c.args.host
due c = owed.due_of (kept_in c.self.inside) c.self.invariant c.args.host (owed.place_of (kept_in c.self.inside) c.self.invariant c.args.host c.get.result c.from-at.result c.get.ensures.value c.get.ensures.range c.from-at.ensures)
    c.index_mut.result.now c.index_mut.ensures.value c.in-Some.core c.in-Some.is c.call-need.result c.call-need.ensures.disk c.from.result c.from.ensures
    c.call-need.ensures.next c.call-need.ensures.due c.index_mut-disk.result.now c.index_mut-disk.ensures.value

pub make-heard-requires-clause-calm : goal.make-heard-requires-clause-calm
make-heard-requires-clause-calm c = owed.is_calm _ _ (due (goal.at.make-heard-requires-clause-calm c).After-index_mut-disk) c.self.invariant

pub make-heard-requires-clause-range : goal.make-heard-requires-clause-range
make-heard-requires-clause-range c = owed.is_within _ _ (due (goal.at.make-heard-requires-clause-range c).After-index_mut-disk) c.self.invariant c.call-need.ensures.range

pub invariant_of-self : goal.invariant_of-self
invariant_of-self c =
    reached (Step c.args.host) (kept_in c.self.inside) _ _ c.self.invariant
    (owed.steps _ _ (due (goal.at.invariant_of-self c).After-index_mut-disk) c.hear.new.self c.make-heard.new.disk _ _ c.make-heard.ensures.disk c.make-heard.ensures.size
    c.make-heard.ensures.answer c.hear.ensures.leads refl)

pub returns-clause-speaks : goal.returns-clause-speaks
returns-clause-speaks c =
    let d = due (goal.at.returns-clause-speaks c).After-index_mut-disk in
    λ speaks. owed.speaks_now _ _ d c.self.invariant c.make-heard.new.disk c.hear.new.self c.is_silent.result c.is_silent.ensures speaks

pub returns-clause-spoken : goal.returns-clause-spoken
returns-clause-spoken c =
    let d = due (goal.at.returns-clause-spoken c).After-index_mut-disk in
    λ speaks. seen (Step c.args.host) (kept_in c.self.inside) c.args.self.now _ _ c.self.view_is
    (owed.steps _ _ d c.hear.new.self c.make-heard.new.disk _ _ c.make-heard.ensures.disk c.make-heard.ensures.size
    c.make-heard.ensures.answer c.hear.ensures.leads (owed.says_now _ _ d c.self.invariant c.make-heard.new.disk c.hear.new.self))

pub returns-clause-silent : goal.returns-clause-silent
returns-clause-silent c =
    let d = due (goal.at.returns-clause-silent c).After-index_mut-disk in
    λ silent. seen (Step c.args.host) (kept_in c.self.inside) c.args.self.now _ None c.self.view_is
    (owed.steps _ _ d c.hear.new.self c.make-heard.new.disk _ None c.make-heard.ensures.disk c.make-heard.ensures.size
    c.make-heard.ensures.answer c.hear.ensures.leads (owed.silent_now _ _ d c.hear.new.self c.is_silent.result c.is_silent.ensures silent))
