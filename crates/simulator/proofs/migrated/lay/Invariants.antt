use Rattle.std.specs.Prelude.{take}
use Rattle.simulator.proofs.Moved.{HasRows}
use Rattle.simulator.proofs.migrated.lay.Given as goal

abbrev pub invariant-loop-slot : goal.invariant-loop-slot
invariant-loop-slot l = HasRows l.fn.config.slots (take l.slot l.values) l.disk
