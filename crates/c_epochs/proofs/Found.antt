-- A header that is found is that of the image's own number.
use Rattle.std.specs.Prelude.{IfOk, Result, Ok, Err}
use Rattle.std.proofs.Common.{ℕ, List}
use Rattle.disk.specs.declared.fault.ImageFault.{ImageFault}
use Rattle.endless_image.specs.declared.any_header.AnyHeader.{AnyHeader}
use Rattle.endless_image.specs.Kinds.{IsRightBy}
use Rattle.log_folders.proofs.UsedHeaders.{may_be, own_number}
use Rattle.c_epochs.specs.Images.{IsOwn}

pub own_so : (disk long : ℕ) (bytes : List ℕ) (result : Result AnyHeader ImageFault) → IfOk result (IsRightBy disk long bytes) → IsOwn disk result
own_so disk long bytes (Ok header) used = (may_be disk long bytes header used, own_number disk long bytes header used)
own_so disk long bytes (Err fault) used = tt
