-- What making the images of a folder endless in place came to, and why it is refused.
use Rattle.std.specs.Prelude.{◌≡◌, ◌⊎◌, ◌<◌, ◌≤◌, ℕ, Bool, true, false, List, Some, Result, Ok, Err, IfOk, length, slice_get}
use Rattle.std.specs.List.{list_all}
use Rattle.disk.specs.FileStates.{FileState, FileGives}
use Rattle.disk.specs.declared.fault.ImageFault.{ImageFault}
use Rattle.disk.specs.declared.fault.ImageFault.TheVariants.{Unreadable, WrongHeader}
use Rattle.paxos_block.specs.Shape.{Shape}
use Rattle.endless_image.specs.Headers.{IsEndlessHeader}
use Rattle.endless_image.specs.Sets.{IsSameSet}
use Rattle.endless_image.specs.Sizes.{size_of}
use Rattle.endless_image.specs.declared.header.EndlessHeader.{EndlessHeader}
use Rattle.endless_image.specs.declared.progress.Progress.{Progress}
use Rattle.endless_image.specs.declared.progress.Progress.TheVariants.{Ending, Marked, Endless}
use Rattle.endless_image.specs.declared.size.TheConstants.{LEAST_SLOTS}
use Rattle.lock_command.specs.declared.number.TheConstants.{HOSTS}
use Rattle.folders.specs.Folders.{IsLockFault, IsOpened}
use Rattle.folders.specs.Sets.{Found}
use Rattle.folders.specs.declared.fault.FolderFault.{FolderFault}
use Rattle.folders.specs.declared.fault.FolderFault.TheVariants.{NoMemory, AlreadyThere, Image}
use Rattle.folders.specs.declared.set.SetFault.{SetFault}
use Rattle.in_place.specs.InPlaceImages.{AreMadeEndless, StopsMaking, becomes}
use Rattle.in_place.specs.declared.in_place.MadeEndless.{MadeEndless}
use Rattle.in_place.specs.declared.in_place.MadeEndless.TheVariants.{Made, Already}
use Rattle.in_place.specs.declared.in_place_disk.MakeFault.{MakeFault}
use Rattle.in_place.specs.declared.in_place_disk.MakeFault.TheVariants.{Refused}
use Rattle.in_place.specs.declared.in_place_fault.InPlaceFault.{InPlaceFault}
use Rattle.in_place.specs.declared.in_place_fault.InPlaceFault.TheVariants.{Folder, Lock, TooFewSlots, Renewed}
use Rattle.in_place.specs.declared.in_place_set.WholeSet.{WholeSet}

-- THE SET

-- what was found of each image: how far it is, or why it cannot be made endless
abbrev pub Looks : Type 0
Looks = List (Result Progress ImageFault)

-- the header that it has in the end is one that the image of this number may have
abbrev pub IsOwn : ℕ → Progress → Type 0
IsOwn disk progress = IsEndlessHeader (becomes progress) × ((becomes progress).disk ≡ disk)

-- so it is with each that was found
abbrev pub AreOwn : Looks → Type 0
AreOwn found = (k : ℕ) (image : Result Progress ImageFault) → slice_get found k ≡ Some image → IfOk image (IsOwn k)

-- So it is with each image of a set: those of the set's numbers are found, and what is found is of the set.
abbrev pub IsAsInSet : EndlessHeader → ℕ → Result Progress ImageFault → Type 0
IsAsInSet set disk (Ok progress) = IsSameSet (becomes progress) set
IsAsInSet set disk (Err fault) = set.disks ≤ disk

-- this is wrong with one that is not so
abbrev pub IsNotAsInSet : EndlessHeader → ℕ → Result Progress ImageFault → ImageFault → Type 0
IsNotAsInSet set disk (Ok progress) fault = (fault ≡ WrongHeader) × ¬ IsSameSet (becomes progress) set
IsNotAsInSet set disk (Err why) fault = (fault ≡ why) × (disk < set.disks)

-- The images are one set, and none is missing: that of the header which disk 0 has in the end.
pub record AreOneSet (found : Looks) (set : EndlessHeader) : Type 0 where
  pub first : Progress
  pub is_first : slice_get found 0 ≡ Some (Ok first)
  pub set_is : set ≡ becomes first
  pub each : (k : ℕ) (image : Result Progress ImageFault) → slice_get found k ≡ Some image → IsAsInSet set k image

-- They are not: disk 0 is refused, or the image of this number is not as one of disk 0's set.
pub record IsNotOfSet (found : Looks) (why : SetFault) : Type 0 where
  pub first : Progress
  pub image : Result Progress ImageFault
  pub is_first : slice_get found 0 ≡ Some (Ok first)
  pub is_there : slice_get found why.disk ≡ Some image
  pub wrong : IsNotAsInSet (becomes first) why.disk image why.fault

abbrev pub AreNoSet : Looks → SetFault → Type 0
AreNoSet found why = ((why.disk ≡ 0) × (slice_get found 0 ≡ Some (Err why.fault))) ⊎ IsNotOfSet found why

-- it is of a log without an end already, or none at all
abbrev pub is_endless : Result Progress ImageFault → Bool
is_endless (Ok (Ending header)) = false
is_endless (Ok (Marked header)) = false
is_endless (Ok (Endless header)) = true
is_endless (Err fault) = true

-- All images that there may be were looked at, and they are this set.
pub record IsOfWholeSet (set : WholeSet) : Type 0 where
  pub found : Looks
  pub own : AreOwn found
  pub one_set : AreOneSet found set.header
  pub endless : set.is_endless ≡ list_all is_endless found

-- THE FOLDER

-- every host's number is locked by a file of its own
pub record HoldsAll {F : Type 0} (locked : F → Type 0) (locks : List F) : Type 0 where
  pub as_many : length locks ≡ HOSTS
  pub each : (k : ℕ) (file : F) → slice_get locks k ≡ Some file → locked file

-- They are there for each disk of the set, each as long as its image will be.
pub record AreLong (set : EndlessHeader) (devices : List FileState) : Type 0 where
  pub as_many : length devices ≡ set.disks
  pub sizes : (k : ℕ) (device : FileState) → slice_get devices k ≡ Some device → device.size ≡ size_of set.slots

-- The images of this set were as long as they will be, and then they were made endless together.
pub record WereMadeEndless (set : EndlessHeader) : Type 0 where
  pub old : List FileState
  pub new : List FileState
  pub long : AreLong set old
  pub made : AreMadeEndless FileGives set old new

-- So it was with a set that was found, of so many images. Some of them were not endless yet, or all were.
abbrev pub CameTo : MadeEndless → Type 0
CameTo (Made disks slots) = (set : WholeSet) × IsOfWholeSet set × (set.is_endless ≡ false) × (set.header.disks ≡ disks) × (set.header.slots ≡ slots) × WereMadeEndless set.header
CameTo (Already disks) = (set : WholeSet) × IsOfWholeSet set × (set.is_endless ≡ true) × (set.header.disks ≡ disks) × WereMadeEndless set.header

-- WHY IT IS REFUSED

-- the folder has a log that ends, of fewer slots than an epoch needs
pub record IsTooShort : Type 0 where
  pub found : Found
  pub config : Shape
  pub cluster : ℕ
  pub disks : List FileState
  pub opened : IsOpened found config cluster disks
  pub short : config.slots < LEAST_SLOTS

-- the images were as long as they will be, and then it stopped so
pub record WereNotMade (why : MakeFault) : Type 0 where
  pub set : EndlessHeader
  pub old : List FileState
  pub new : List FileState
  pub long : AreLong set old
  pub stopped : StopsMaking FileGives set old new why

-- An image is refused: something of it could not be opened, read or written. Or all were looked at, and they are no set. Or a set was found, and one of it was another one later.
abbrev pub IsImageFault : ℕ → ImageFault → Type 0
IsImageFault disk fault =
    (fault ≡ Unreadable) ⊎ ((found : Looks) × AreNoSet found (record { disk = disk; fault = fault })) ⊎ WereNotMade (Refused disk fault)

-- for want of memory, or for the sake of an image
abbrev pub IsMakingFault : FolderFault → Type 0
IsMakingFault NoMemory = Unit {0}
IsMakingFault AlreadyThere = ⊥
IsMakingFault (Image disk fault) = IsImageFault disk fault

abbrev pub MayNotMake : InPlaceFault → Type 0
MayNotMake (Folder fault) = IsMakingFault fault
MayNotMake (Lock fault) = (host : ℕ) × (host < HOSTS) × IsLockFault host fault
MayNotMake TooFewSlots = IsTooShort
MayNotMake Renewed = Unit {0}
