use Rattle.std.specs.Prelude.{take, replicate}
use Rattle.std.proofs.Common.{◌≡◌}
use Rattle.world.specs.Happens.{Step}
use Rattle.simulator.specs.Events.{events_of}
use Rattle.fault_sweep.proofs.replay.steps_of.Given as goal

abbrev pub invariant-loop-many : goal.invariant-loop-many
invariant-loop-many l = events_of (take l.many l.events) ≡ replicate l.many (Step l.fn.host)
