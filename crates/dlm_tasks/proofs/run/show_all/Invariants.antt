use Rattle.std.proofs.Common.{List, drop}
use Rattle.world.specs.Entry.{Filled}
use Rattle.simulator.specs.Kept.{LeadsTo}
use Rattle.dlm_tasks.proofs.Shown.{ShowsLast}
use Rattle.dlm_tasks.proofs.run.show_all.Given as goal

-- the tables in front of this one are shown
abbrev pub invariant-loop-show : goal.invariant-loop-show
invariant-loop-show g l = (log : List Filled) → LeadsTo log l.cluster →
    ShowsLast log l.shows (drop l.show-index l.shows) l.cluster (g.O.Write.contents l.initial.out) (g.O.Write.contents l.out)
