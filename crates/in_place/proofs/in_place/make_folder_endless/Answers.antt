use Rattle.in_place.specs.InPlaceFolders.{MayNotMake}
use Rattle.in_place.proofs.InPlaceDisks.{err_is}
use Rattle.in_place.proofs.InPlaceFiles.{folder_may, lock_may, on_ok, short_may, unfound}
use Rattle.in_place.proofs.in_place.make_folder_endless.Goals as goal

pub returns-in_err-found-clause-fault : goal.returns-in_err-found-clause-fault
returns-in_err-found-clause-fault g c = folder_may c.in_err-found.field-0.0 (unfound c.in_err-found.field-0.0 c.in_err-found.ensures.unreadable) c.from_residual.result c.from_residual.ensures.1

pub returns-in_err-refuse_short-clause-fault : goal.returns-in_err-refuse_short-clause-fault
returns-in_err-refuse_short-clause-fault g c =
    err_is MayNotMake c.in_err-refuse_short.field-0.0 (short_may c.in_err-refuse_short.field-0.0 c.in_err-refuse_short.ensures) c.from_residual-in_err-refuse_short.result c.from_residual-in_err-refuse_short.ensures.1

pub returns-in_err-set_in-clause-fault : goal.returns-in_err-set_in-clause-fault
returns-in_err-set_in-clause-fault g c = folder_may c.in_err-set_in.field-0.0 c.in_err-set_in.ensures.fault c.from_residual-in_err-set_in.result c.from_residual-in_err-set_in.ensures.1

pub returns-in_err-_locks-clause-fault : goal.returns-in_err-_locks-clause-fault
returns-in_err-_locks-clause-fault g c = lock_may c.in_err-_locks.field-0.0 c.in_err-_locks.ensures.fault c.from_residual-in_err-_locks.result c.from_residual-in_err-_locks.ensures.1

pub returns-clause-locked : goal.returns-clause-locked
returns-clause-locked g c = on_ok _ (c.in_ok-_locks._locks.items, c.in_ok-_locks.ensures.locked) c.make_locked.result
