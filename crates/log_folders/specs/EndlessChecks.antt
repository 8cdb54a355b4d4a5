-- What a check tells of the images of a folder of a log without an end.
use Rattle.std.specs.Prelude.{◌≡◌, ◌≢◌, ◌⊎◌, ◌≤◌, ◌<◌, ◌+◌, ℕ, IsTrue, List, slice_get, Option, Some, None, Result, Ok, Err}
use Rattle.disk.specs.Disk.{Device, DiskState, Call, Answer}
use Rattle.disk.specs.declared.fault.ImageFault.{ImageFault}
use Rattle.disk.specs.declared.fault.ImageFault.TheVariants.{Unreadable}
use Rattle.endless_image.specs.Sizes.{size_of}
use Rattle.endless_image.specs.declared.any_header.AnyHeader.{AnyHeader}
use Rattle.folders.specs.Damage.{Shows}
use Rattle.folders.specs.declared.check.Finding.{Finding}
use Rattle.folders.specs.declared.check.Finding.TheVariants.{Image, Damaged}
use Rattle.log_folders.specs.AnySets.{AnyFound}
use Rattle.log_folders.specs.Areas.{IsDamagedImage}
use Rattle.log_folders.specs.EndlessReading.{OneCannotBeRead}

-- each disk has room for an image whose epochs have so many slots
abbrev pub AreLarge : {D : Type 0} → (D → Device) → ℕ → List D → Type 0
AreLarge {D} device slots disks = (k : ℕ) (d : D) → slice_get disks k ≡ Some d → size_of slots ≤ (device d).size

-- of any image: why it is refused, or what its blocks show
abbrev pub TellsOf : Result AnyHeader ImageFault → (disk : ℕ) → (tells damaged failed : Type 0) → Option Finding → Type 0
TellsOf (Err fault) disk tells damaged failed finding = finding ≡ Some (Image disk fault)
TellsOf (Ok header) disk tells damaged failed finding = Shows disk tells damaged failed finding

-- This is told of image k of a folder.
abbrev pub IsTold : {D : Type 0} → (D → Device) → (D → DiskState) → ℕ → AnyFound → List D → (failed : ℕ → Type 0) → ℕ → Option Finding → Type 0
IsTold {D} device state slots found disks failed k finding =
    (disk : D) (image : Result AnyHeader ImageFault) → slice_get disks k ≡ Some disk → slice_get found k ≡ Some image →
    TellsOf image k (IsTrue (device disk).tells) (IsDamagedImage slots (state disk).bytes) (failed k) finding

-- nothing is told of the first n images
abbrev pub AreSound : {D : Type 0} → (D → Device) → (D → DiskState) → ℕ → AnyFound → List D → (failed : ℕ → Type 0) → ℕ → Type 0
AreSound device state slots found disks failed n = (k : ℕ) → k < n → IsTold device state slots found disks failed k None

-- Of the first n images nothing is told, or of one of them this, and nothing of those before it.
abbrev pub IsToldFirst : {D : Type 0} → (D → Device) → (D → DiskState) → ℕ → AnyFound → List D → (failed : ℕ → Type 0) → ℕ → Option Finding → Type 0
IsToldFirst device state slots found disks failed n None = AreSound device state slots found disks failed n
IsToldFirst device state slots found disks failed n (Some finding) =
    (k : ℕ) × (k < n) × AreSound device state slots found disks failed k × IsTold device state slots found disks failed k (Some finding)

-- OF A FOLDER

-- none of the first n images is refused
abbrev pub NoneRefused : AnyFound → ℕ → Type 0
NoneRefused found n = (k : ℕ) (fault : ImageFault) → k < n → slice_get found k ≢ Some (Err fault)

-- Nothing is told only where none of the first n images is refused. Else it is told why the first refused one is, or, of one before it, that it
-- is damaged or could not be read. A file tells no bytes, so it is not said which of both.
abbrev pub IsToldOfFolder : AnyFound → ℕ → Option Finding → Type 0
IsToldOfFolder found n None = NoneRefused found n
IsToldOfFolder found n (Some (Image k fault)) =
    (k < n) × NoneRefused found k × ((slice_get found k ≡ Some (Err fault)) ⊎ ((fault ≡ Unreadable) × NoneRefused found (k + 1)))
IsToldOfFolder found n (Some Damaged) = (k : ℕ) × (k < n) × NoneRefused found (k + 1)

-- That an image which is used cannot be read is told only where a call of its disk failed.
abbrev pub FailsIfUnread : {D : Type 0} → (D → Call → Answer → D → Type 0) → (slots : ℕ) → AnyFound → (old new : List D) → Option Finding → Type 0
FailsIfUnread gives slots found old new None = Unit {0}
FailsIfUnread gives slots found old new (Some Damaged) = Unit {0}
FailsIfUnread gives slots found old new (Some (Image k fault)) = (header : AnyHeader) → slice_get found k ≡ Some (Ok header) → OneCannotBeRead gives slots old new k
