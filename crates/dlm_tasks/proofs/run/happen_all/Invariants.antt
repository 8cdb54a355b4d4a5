use Rattle.std.proofs.Common.{◌≤◌, ◌+◌, List, length, drop}
use Rattle.world.specs.Entry.{Filled}
use Rattle.lock_script.specs.Events.{each_event}
use Rattle.lock_script.specs.declared.events.TheConstants.{MOST_EVENTS}
use Rattle.simulator.specs.Events.{events_of}
use Rattle.simulator.specs.Kept.{LeadsTo}
use Rattle.dlm_tasks.proofs.Shown.{ShownSoFar}
use Rattle.dlm_tasks.proofs.run.happen_all.Given as goal

-- The events that are left find numbers behind this one. What was answered so far is written, and the tables between are shown.
abbrev pub invariant-loop-run : goal.invariant-loop-run
invariant-loop-run g l = record {
  room : l.place + length (each_event (drop l.run-index l.run-items)) ≤ MOST_EVENTS;
  so_far : (log : List Filled) → LeadsTo log l.initial.cluster →
      ShownSoFar log (events_of l.script.events) (events_of (each_event (drop l.run-index l.run-items))) l.place l.script.shows.items l.shows l.initial.cluster l.cluster
      (g.O.Write.contents l.initial.out) (g.O.Write.contents l.out);
}
