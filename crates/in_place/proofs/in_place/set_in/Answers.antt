use Rattle.in_place.proofs.InPlaceFiles.{set_refused, set_right}
use Rattle.in_place.proofs.in_place.set_in.Goals as goal

pub returns-clause-set : goal.returns-clause-set
returns-clause-set g c = record { found = c.in_ok-found.found; own = c.in_ok-found.ensures.own; one_set = c.in_ok-set.ensures.set; endless = c.in_ok-set.ensures.endless }

pub returns-clause-header : goal.returns-clause-header
returns-clause-header g c = set_right c.in_ok-found.found c.in_ok-set.set.header c.in_ok-found.ensures.own c.in_ok-set.ensures.set

pub returns-in_err-set-clause-fault : goal.returns-in_err-set-clause-fault
returns-in_err-set-clause-fault g c =
    set_refused c.in_ok-found.found c.in_err-set.field-0.0 c.in_err-set.ensures.fault c.from_residual-in_err-set.result c.from_residual-in_err-set.ensures.1
