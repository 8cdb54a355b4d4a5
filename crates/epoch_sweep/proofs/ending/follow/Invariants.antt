use Rattle.std.proofs.Common.{take}
use Rattle.epoch_sweep.specs.Sweeping.{HappenOn}
use Rattle.epoch_sweep.proofs.ending.follow.Given as goal

-- the events before this one happened
abbrev pub invariant-loop-event : goal.invariant-loop-event
invariant-loop-event l = HappenOn l.config (take l.event-index l.events) l.initial.cluster l.cluster l.initial.told.items l.told.items
