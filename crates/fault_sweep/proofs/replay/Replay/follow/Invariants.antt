use Rattle.std.specs.Prelude.{take, length}
use Rattle.std.proofs.Common.{◌≡◌, ◌≤◌, ◌+◌, ◌-◌}
use Rattle.simulator.specs.Events.{events_of}
use Rattle.fault_sweep.specs.Replayed.{GoesOn}
use Rattle.fault_sweep.proofs.replay.Replay.follow.Given as goal

abbrev pub invariant-loop-from : goal.invariant-loop-from
invariant-loop-from l = record {
  within : l.from ≤ length l.events;
  counted : l.self.place ≡ l.initial.self.place + l.from;
  happened : GoesOn l.initial.self l.self (events_of (take l.from l.events));
}

abbrev pub decreases-loop-from : goal.decreases-loop-from
decreases-loop-from l = length l.events - l.from
