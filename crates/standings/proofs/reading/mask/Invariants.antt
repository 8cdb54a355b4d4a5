use Rattle.standings.proofs.Masks.{Done}
use Rattle.standings.proofs.reading.mask.Given as goal

abbrev pub invariant-loop-host : goal.invariant-loop-host
invariant-loop-host l = Done l.shown l.fn.row l.row l.host
