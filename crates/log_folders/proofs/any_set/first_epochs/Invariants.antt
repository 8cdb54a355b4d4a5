use Rattle.std.proofs.Common.{◌≡◌, ◌<◌, ℕ, Some, Result, slice_get}
use Rattle.disk.specs.declared.fault.ImageFault.{ImageFault}
use Rattle.endless_image.specs.declared.any_header.AnyHeader.{AnyHeader}
use Rattle.log_folders.specs.AnySets.{first_of}
use Rattle.log_folders.proofs.any_set.first_epochs.Given as goal

-- those of the disks below the number are told
abbrev pub invariant-loop-disk : goal.invariant-loop-disk
invariant-loop-disk l = (k : ℕ) (first : ℕ) (image : Result AnyHeader ImageFault) → k < l.disk → slice_get l.firsts k ≡ Some first → slice_get l.found k ≡ Some image → first ≡ first_of image
