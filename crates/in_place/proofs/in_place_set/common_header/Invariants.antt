use Rattle.std.proofs.Common.{◌≡◌, ◌<◌, ℕ, Some, Result, slice_get}
use Rattle.disk.specs.declared.fault.ImageFault.{ImageFault}
use Rattle.endless_image.specs.declared.progress.Progress.{Progress}
use Rattle.in_place.specs.InPlaceFolders.{IsAsInSet}
use Rattle.in_place.proofs.in_place_set.common_header.Given as goal

abbrev pub invariant-loop-disk : goal.invariant-loop-disk
invariant-loop-disk l = (k : ℕ) (image : Result Progress ImageFault) → k < l.disk → slice_get l.found k ≡ Some image → IsAsInSet l.header k image
