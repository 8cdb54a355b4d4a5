use Rattle.std.proofs.Common.{List, Option, sym, subst}
use Rattle.world.specs.Entry.{Filled}
use Rattle.world.specs.Happens.{Step}
use Rattle.simulator.specs.declared.simulated_cluster.Said.{Said}
use Rattle.simulator.specs.Kept.{LeadsTo, Brings}
use Rattle.simulator.proofs.simulated_cluster.SimulatedCluster.step.Goals as goal

pub returns-then-advance : goal.returns-then-advance
returns-then-advance c =
    subst (λ (said : Option Said). (log : List Filled) → LeadsTo log c.args.self.now → Brings log (Step c.args.host) c.args.self.now c.advance.new.self said)
    (sym c.said_by.ensures) (c.advance.ensures.spoken c.if-advance.true)
