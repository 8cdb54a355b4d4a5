use Rattle.std.proofs.Common.{List, [], length}
use Rattle.world.specs.Entry.{Filled}
use Rattle.simulator.specs.Kept.{LeadsTo}
use Rattle.dlm_tasks.specs.Printed.{WritesPart}
use Rattle.dlm_tasks.proofs.run.show_due.Given as goal

-- what was due so far is shown
abbrev pub invariant-loop-show : goal.invariant-loop-show
invariant-loop-show g l = (log : List Filled) → LeadsTo log l.cluster →
    WritesPart log [] l.place l.initial.shows l.shows l.cluster l.cluster (g.O.Write.contents l.initial.out) (g.O.Write.contents l.out)

abbrev pub decreases-loop-show : goal.decreases-loop-show
decreases-loop-show g l = length l.shows
