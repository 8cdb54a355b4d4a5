use Rattle.std.specs.Prelude.{replicate}
use Rattle.std.proofs.Common.{◌-◌, List}
use Rattle.world.specs.Entry.{Filled}
use Rattle.simulator.specs.Events.{event_of}
use Rattle.simulator.specs.Kept.{LeadsTo}
use Rattle.dlm_tasks.specs.Printed.{WritesAnswers}
use Rattle.dlm_tasks.proofs.run.repeat_event.Given as goal

-- what was answered with the event so far is written
abbrev pub invariant-loop-place : goal.invariant-loop-place
invariant-loop-place g l = (log : List Filled) → LeadsTo log l.initial.cluster → WritesAnswers log (replicate (l.place - l.first) (event_of l.event)) l.first l.initial.cluster l.cluster (g.O.Write.contents l.initial.out) (g.O.Write.contents l.out)
