use Rattle.std.specs.Prelude.{replicate}
use Rattle.std.proofs.Common.{◌≤◌, ◌-◌, List}
use Rattle.world.specs.Entry.{Filled}
use Rattle.world.specs.Happens.{Step}
use Rattle.simulator.specs.Kept.{LeadsTo}
use Rattle.dlm_tasks.specs.Printed.{WritesAnswers}
use Rattle.dlm_tasks.proofs.run.repeat_steps.Given as goal

-- what was answered with the steps so far is written
abbrev pub invariant-loop-made : goal.invariant-loop-made
invariant-loop-made g l = record {
  within : l.made ≤ l.fn.times;
  so_far : (log : List Filled) → LeadsTo log l.initial.cluster → WritesAnswers log (replicate l.made (Step l.host)) l.first l.initial.cluster l.cluster (g.O.Write.contents l.initial.out) (g.O.Write.contents l.out);
}

abbrev pub decreases-loop-made : goal.decreases-loop-made
decreases-loop-made g l = l.fn.times - l.made
