-- Why a folder's images are no set, or are not made.
use Rattle.std.specs.Prelude.{◌≡◌, ◌⊎◌, ◌<◌, ℕ}
use Rattle.disk.specs.declared.fault.ImageFault.TheVariants.{WrongHeader, Unreadable}
use Rattle.folders.specs.declared.fault.FolderFault.{FolderFault}
use Rattle.folders.specs.declared.fault.FolderFault.TheVariants.{NoMemory, AlreadyThere, Image}
use Rattle.folders.specs.declared.set.SetFault.{SetFault}
use Rattle.folders.specs.Sets.{Found, AreImages, HasNone, Differs}

-- the fault of disk 0 where no header is right, or a header that is not of the others' set
abbrev pub HasSetFault : Found → SetFault → Type 0
HasSetFault found f = ((f.disk ≡ 0) × HasNone found f.fault) ⊎ ((f.fault ≡ WrongHeader) × Differs found f.disk)

-- a folder that is there is refused for want of memory, or since its images are no set
abbrev pub MayRefuse : FolderFault → Type 0
MayRefuse NoMemory = Unit {0}
MayRefuse AlreadyThere = ⊥
MayRefuse (Image disk fault) = (found : Found) × AreImages found × HasSetFault found (record { disk = disk; fault = fault })

-- Of so many images some are not made: for want of memory, since one of them is there, or since a file or device of one could not be used.
abbrev pub IsFormatFault : ℕ → FolderFault → Type 0
IsFormatFault disks NoMemory = Unit {0}
IsFormatFault disks AlreadyThere = Unit {0}
IsFormatFault disks (Image disk fault) = (disk < disks) × (fault ≡ Unreadable)
