use Rattle.std.proofs.Common.{◌≤◌, ◌+◌, length, drop}
use Rattle.lock_script.specs.Events.{each_event}
use Rattle.lock_script.specs.declared.events.TheConstants.{MOST_EVENTS}
use Rattle.epoch_player.proofs.Parts.{SoFar}
use Rattle.epoch_player.proofs.playing.happen_all.Given as goal

-- The events that are left find numbers behind this one. What was answered so far is written, and the tables between are shown.
abbrev pub invariant-loop-run : goal.invariant-loop-run
invariant-loop-run g l = record {
  room : l.place + length (each_event (drop l.run-index l.run-items)) ≤ MOST_EVENTS;
  so_far : SoFar l.script.config l.script.events (each_event (drop l.run-index l.run-items)) l.place l.script.shows.items l.shows l.initial.cluster l.cluster
      (g.O.Write.contents l.initial.out) (g.O.Write.contents l.out);
}
