use Rattle.standings.proofs.TwoReadings.{Sofar}
use Rattle.standings.proofs.reading.shown.Given as goal

abbrev pub invariant-loop-host : goal.invariant-loop-host
invariant-loop-host l = Sofar l.epoch l.first l.second l.shown l.host
