-- What an image of a folder says of itself, whichever kind of log it is of: its numbers, when it is used, and why it is not.
use Rattle.std.specs.Prelude.{◌≡◌, ◌⊎◌, ◌<◌, ◌≤◌, ℕ, List, min}
use Rattle.disk.specs.Disk.{Call, Attach, Read, Answer, Booted, Told}
use Rattle.disk.specs.FileStates.{FileState, FileGives}
use Rattle.disk.specs.declared.fault.DiskFault.{DiskFault}
use Rattle.disk.specs.declared.fault.ImageFault.{ImageFault}
use Rattle.disk.specs.declared.fault.ImageFault.TheVariants.{NotFormatted, WrongHeader, Unreadable, OldLayout}
use Rattle.torn_block.specs.Layout.{cluster_version}
use Rattle.torn_block.specs.declared.layout.TheConstants.{HEADER_LENGTH}
use Rattle.paxos_block.specs.Headers.{IsFormatted, IsHeader}
use Rattle.endless_image.specs.Headers.{IsEndlessHeader}
use Rattle.endless_image.specs.Kinds.{IsRightBy, kind_of, size_by}
use Rattle.endless_image.specs.declared.any_header.AnyHeader.{AnyHeader}
use Rattle.endless_image.specs.declared.any_header.AnyHeader.TheVariants.{Ending, Endless}
use Rattle.folders.specs.Folders.{FailsToTell, HasToldFirst}
use Rattle.folders.specs.Headers.{IsOld}

-- ITS NUMBERS

abbrev pub disk_in : AnyHeader → ℕ
disk_in (Ending header) = header.disk
disk_in (Endless header) = header.disk

abbrev pub disks_in : AnyHeader → ℕ
disks_in (Ending header) = header.disks
disks_in (Endless header) = header.disks

abbrev pub slots_in : AnyHeader → ℕ
slots_in (Ending header) = header.slots
slots_in (Endless header) = header.slots

abbrev pub cluster_in : AnyHeader → ℕ
cluster_in (Ending header) = header.cluster
cluster_in (Endless header) = header.cluster

-- the first epoch in which it takes part; one of a log that ends has the first one alone
abbrev pub first_in : AnyHeader → ℕ
first_in (Ending header) = 0
first_in (Endless header) = header.first_epoch

-- how many bytes its image has
abbrev pub size_in : AnyHeader → ℕ
size_in header = size_by (kind_of header) (slots_in header)

-- WHEN IT IS USED

-- an image that is used may have this header
abbrev pub IsAnyHeader : AnyHeader → Type 0
IsAnyHeader (Ending header) = IsHeader header
IsAnyHeader (Endless header) = IsEndlessHeader header

-- The gate is open. No header is right by either kind, and the image is not of the layout that images had before.
pub record HasNoneUsed (disk long : ℕ) (bytes : List ℕ) : Type 0 where
  pub formatted : IsFormatted bytes
  pub none : (header : AnyHeader) → ¬ IsRightBy disk long bytes header
  pub not_old : ¬ IsOld cluster_version disk long bytes

-- why it is not used, by its first bytes
abbrev pub IsUnusedBy : (disk long : ℕ) → List ℕ → ImageFault → Type 0
IsUnusedBy disk long bytes NotFormatted = (HEADER_LENGTH ≤ long) × ¬ IsFormatted bytes
IsUnusedBy disk long bytes WrongHeader = (long < HEADER_LENGTH) ⊎ HasNoneUsed disk long bytes
IsUnusedBy disk long bytes OldLayout = IsOld cluster_version disk long bytes
IsUnusedBy disk long bytes Unreadable = ⊥

-- HOW IT IS READ

-- The device told its first bytes, and as those of the image of this number and size they are used: they say this header.
pub record ReadsAnyHeader {D : Type 0} (gives : D → Call → Answer → D → Type 0) (old : D) (disk size : ℕ) (header : AnyHeader) (new : D) : Type 0 where
  pub boot : ℕ
  pub attached : D
  pub bytes : List ℕ
  pub boots : gives old Attach (Booted boot) attached
  pub tells : gives attached (Read boot 0 HEADER_LENGTH) (Told bytes) new
  pub used : IsRightBy disk size bytes header

-- Why it says none: its first bytes, which it told, say none that is used; or they are fewer than a header has; or it failed to tell those that it has.
abbrev pub ReadsNoAnyHeader : {D : Type 0} → (D → Call → Answer → D → Type 0) → (old : D) → (disk size : ℕ) → (new : D) → ImageFault → Type 0
ReadsNoAnyHeader gives old disk size new NotFormatted = (bytes : List ℕ) × HasToldFirst gives old bytes new × ¬ IsFormatted bytes
ReadsNoAnyHeader gives old disk size new WrongHeader = (size < HEADER_LENGTH) ⊎ ((bytes : List ℕ) × HasToldFirst gives old bytes new × HasNoneUsed disk size bytes)
ReadsNoAnyHeader gives old disk size new OldLayout = (bytes : List ℕ) × HasToldFirst gives old bytes new × IsOld cluster_version disk size bytes
ReadsNoAnyHeader gives old disk size new Unreadable = (fault : DiskFault) × FailsToTell gives (min size HEADER_LENGTH) old fault new

-- A device of this size is used on as far as these first bytes say, if they are those of a right image of either kind, and never beyond its end.
pub record IsCutBy (bytes : List ℕ) (old new : ℕ) : Type 0 where
  pub within : new ≤ old
  pub as_far : (disk long : ℕ) (header : AnyHeader) → IsRightBy disk long bytes header → new ≡ min long old

-- So it is with what the device told.
pub record IsCutToAnyHeader (old new : FileState) : Type 0 where
  pub bytes : List ℕ
  pub read : FileState
  pub told : HasToldFirst FileGives old bytes read
  pub same : new ≡ record read { size = new.size }
  pub size : IsCutBy bytes read.size new.size
