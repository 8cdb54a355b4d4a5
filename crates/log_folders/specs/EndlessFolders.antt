-- A folder of a log without an end once it is open, and why a folder of either kind is refused.
use Rattle.std.specs.Prelude.{◌≡◌, ℕ, true, false, List, slice_get, Some, Result, Ok, Err, is_ok}
use Rattle.disk.specs.FileStates.{FileState}
use Rattle.disk.specs.declared.fault.ImageFault.{ImageFault}
use Rattle.paxos_block.specs.Shape.{Shape}
use Rattle.endless_image.specs.declared.any_header.AnyHeader.{AnyHeader}
use Rattle.endless_image.specs.declared.kind.Kind.TheVariants.{Ending, Endless}
use Rattle.folders.specs.declared.fault.FolderFault.{FolderFault}
use Rattle.folders.specs.declared.fault.FolderFault.TheVariants.{NoMemory, AlreadyThere, Image}
use Rattle.log_folders.specs.AnyHeaders.{size_in}
use Rattle.log_folders.specs.AnySets.{AnyFound, AreAnyImages, HasAnyNumbers, HasAnySetFault}

-- An image with a header is in use, and as long as that says. Of one that is refused no call is carried out.
abbrev pub IsAnyDiskOf : Result AnyHeader ImageFault → FileState → Type 0
IsAnyDiskOf (Ok header) disk = (disk.used ≡ true) × (disk.size ≡ size_in header)
IsAnyDiskOf (Err fault) disk = disk.used ≡ false

-- so it is with each
abbrev pub AreAnyDisksOf : AnyFound → List FileState → Type 0
AreAnyDisksOf found disks =
    (k : ℕ) (disk : FileState) (image : Result AnyHeader ImageFault) → slice_get disks k ≡ Some disk → slice_get found k ≡ Some image → IsAnyDiskOf image disk

-- A folder of a log without an end has the numbers of the set that was found, and of the set's images those in use that have a header.
pub record IsEndlessOpened (found : AnyFound) (config : Shape) (cluster : ℕ) (disks : List FileState) : Type 0 where
  pub images : AreAnyImages found
  pub numbers : HasAnyNumbers found Endless config cluster
  pub used : (k : ℕ) (disk : FileState) (image : Result AnyHeader ImageFault) → slice_get disks k ≡ Some disk → slice_get found k ≡ Some image →
      disk.used ≡ is_ok image

-- The images that were found are a set of a log that ends.
pub record FindsEnding : Type 0 where
  pub found : AnyFound
  pub config : Shape
  pub cluster : ℕ
  pub images : AreAnyImages found
  pub numbers : HasAnyNumbers found Ending config cluster

-- A folder that is there is refused for want of memory, or since its images are no set of either kind.
abbrev pub MayRefuseAny : FolderFault → Type 0
MayRefuseAny NoMemory = Unit {0}
MayRefuseAny AlreadyThere = ⊥
MayRefuseAny (Image disk fault) = (found : AnyFound) × AreAnyImages found × HasAnySetFault found (record { disk = disk; fault = fault })
