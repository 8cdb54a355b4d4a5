use Rattle.in_place.specs.InPlaceFolders.{MayNotMake}
use Rattle.in_place.proofs.InPlaceDisks.{err_is}
use Rattle.in_place.proofs.InPlaceFiles.{folder_may, renewed_may}
use Rattle.in_place.proofs.in_place.make_locked.Goals as goal

pub returns-in_err-refuse_renewed-clause-fault : goal.returns-in_err-refuse_renewed-clause-fault
returns-in_err-refuse_renewed-clause-fault g c =
    err_is MayNotMake c.in_err-refuse_renewed.field-0.0 (renewed_may c.in_err-refuse_renewed.field-0.0 c.in_err-refuse_renewed.ensures) c.from_residual.result c.from_residual.ensures.1

pub returns-in_err-set-clause-fault : goal.returns-in_err-set-clause-fault
returns-in_err-set-clause-fault g c = folder_may c.in_err-set.field-0.0 c.in_err-set.ensures.fault c.from_residual-in_err-set.result c.from_residual-in_err-set.ensures.1

pub returns-in_err-make_images-clause-fault : goal.returns-in_err-make_images-clause-fault
returns-in_err-make_images-clause-fault g c = folder_may c.in_err-make_images.field-0.0 c.in_err-make_images.ensures.fault c.from_residual-in_err-make_images.result c.from_residual-in_err-make_images.ensures.1
