use Rattle.world.proofs.ShortLines.{misses, holds, at_once, busy}
use Rattle.world.proofs.examples.recovery_that_misses_is_told.Goals as goal

pub returns : goal.returns
returns c = record {
  misses = misses;
  holds = holds;
  at_once = at_once;
  busy = busy;
}
