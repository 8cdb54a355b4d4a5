use Rattle.cleanup.proofs.Lowest.{IsBest}
use Rattle.cleanup.proofs.whose.first_from.Given as goal

-- the best of the locks below the place
abbrev pub invariant-loop-at : goal.invariant-loop-at
invariant-loop-at l = IsBest l.locks l.host l.at l.kind l.ours l.from l.best
