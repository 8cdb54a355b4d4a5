use Rattle.std.specs.Prelude.{replicate}
use Rattle.std.proofs.Common.{◌≤◌, ◌-◌, List}
use Rattle.world.specs.Entry.{Filled}
use Rattle.simulator.specs.Events.{event_of}
use Rattle.simulator.specs.Kept.{LeadsTo}
use Rattle.dlm_tasks.specs.Printed.{WritesPart}
use Rattle.dlm_tasks.proofs.run.happen_run.Given as goal

-- so many of the run happened, and what was due before each of them was shown
abbrev pub invariant-loop-made : goal.invariant-loop-made
invariant-loop-made g l = record {
  within : l.made ≤ l.run.times;
  so_far : (log : List Filled) → LeadsTo log l.initial.cluster →
      WritesPart log (replicate l.made (event_of l.run.event)) l.first l.initial.shows l.shows l.initial.cluster l.cluster (g.O.Write.contents l.initial.out) (g.O.Write.contents l.out);
}

abbrev pub decreases-loop-made : goal.decreases-loop-made
decreases-loop-made g l = l.run.times - l.made
