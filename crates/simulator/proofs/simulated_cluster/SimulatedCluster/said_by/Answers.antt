use Rattle.std.proofs.Common.{sym, ap, ◌∙◌}
use Rattle.simulator.specs.Kept.{said_by, said_now}
use Rattle.simulator.proofs.Owed as owed
use Rattle.simulator.proofs.Owed.{kept_in}
use Rattle.simulator.proofs.simulated_cluster.SimulatedCluster.said_by.Goals as goal

pub returns-in-None : goal.returns-in-None
returns-in-None c =
    let old = kept_in c.self.inside in
    let p = owed.place_of old c.self.invariant c.args.host c.get.result c.from.result c.get.ensures.value c.get.ensures.range c.from.ensures in
    sym (ap (said_now c.args.host) (sym c.self.view_is) ∙ ap (said_by c.args.host) (owed.stands old c.args.host p c.index.result.now c.index.ensures ∙ c.in-None.is))

pub returns-in-Some : goal.returns-in-Some
returns-in-Some c =
    let old = kept_in c.self.inside in
    let p = owed.place_of old c.self.invariant c.args.host c.get.result c.from.result c.get.ensures.value c.get.ensures.range c.from.ensures in
    c.answer_of.ensures ∙ sym (ap (said_now c.args.host) (sym c.self.view_is) ∙ ap (said_by c.args.host) (owed.stands old c.args.host p c.index.result.now c.index.ensures ∙ c.in-Some.is))
