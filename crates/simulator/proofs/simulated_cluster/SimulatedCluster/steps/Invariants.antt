use Rattle.std.specs.Prelude.{replicate}
use Rattle.std.proofs.Common.{List, None}
use Rattle.world.specs.Entry.{Filled}
use Rattle.world.specs.Happens.{Step}
use Rattle.simulator.specs.Kept.{LeadsTo, BringsAll}
use Rattle.simulator.proofs.simulated_cluster.SimulatedCluster.steps.Given as goal

-- nothing was said with the steps so far
abbrev pub invariant-loop-made : goal.invariant-loop-made
invariant-loop-made l = (log : List Filled) → LeadsTo log l.initial.self → BringsAll log (replicate l.made (Step l.fn.host)) l.initial.self l.self None
