-- The race is a run, computed guard by guard.
use Rattle.std.proofs.Common.{refl}
use Rattle.agreement.specs.Event.{IsRun}
use Rattle.agreement.specs.Race.{race}
use Rattle.agreement.proofs.Guards.{run_looked_at}

pub is_run : IsRun 3 race
is_run = run_looked_at 3 race refl
