-- The images of a folder: their names, how one is read, and the disks that a folder has once it is open.
use Rattle.std.specs.Prelude.{◌≡◌, ◌==◌, ◌++◌, ◌<◌, ◌≤◌, ◌⊎◌, ℕ, true, false, List, codes, decimal, min, slice_get, Some, Result, Ok, Err, is_ok, if◌then◌else◌}
use Rattle.disk.specs.declared.fault.ImageFault.{ImageFault}
use Rattle.disk.specs.declared.fault.ImageFault.TheVariants.{NotFormatted, WrongHeader, Unreadable, OldLayout}
use Rattle.disk.specs.Disk.{Call, Attach, Read, Answer, Booted, Told, Fault}
use Rattle.disk.specs.declared.fault.DiskFault.{DiskFault}
use Rattle.disk.specs.FileStates.{FileState, FileGives}
use Rattle.torn_block.specs.Layout.{Version}
use Rattle.torn_block.specs.declared.layout.TheConstants.{DISKS, HEADER_LENGTH, SLOTS}
use Rattle.paxos_block.specs.declared.header.Header.{Header}
use Rattle.paxos_block.specs.Headers.{IsRight, IsFormatted}
use Rattle.paxos_block.specs.Places.{image_length}
use Rattle.paxos_block.specs.Shape.{Shape}
use Rattle.folders.specs.Headers.{IsOld, HasWrongHeader, told_length}
use Rattle.folders.specs.Sets.{Found, AreImages, HasNumbers}
use Rattle.folders.specs.declared.host_lock.LockFault.{LockFault}
use Rattle.folders.specs.declared.host_lock.LockFault.TheVariants.{NoMemory, InUse, NoLock}

-- ONE IMAGE

-- the name of the image of this number
abbrev pub image_name : ℕ → List ℕ
image_name disk = codes "disk" ++ decimal disk ++ codes ".img"

-- the name of the file by which this host's number is locked
abbrev pub lock_name : ℕ → List ℕ
lock_name host = codes "host" ++ decimal host ++ codes ".lock"

-- why this host's number was not locked: for want of memory, or as is told of this number
abbrev pub IsLockFault : ℕ → LockFault → Type 0
IsLockFault host NoMemory = Unit {0}
IsLockFault host (InUse number) = number ≡ host
IsLockFault host (NoLock number) = number ≡ host

-- the device was attached to, and told these first bytes
pub record HasToldFirst {D : Type 0} (gives : D → Call → Answer → D → Type 0) (old : D) (bytes : List ℕ) (new : D) : Type 0 where
  pub boot : ℕ
  pub attached : D
  pub boots : gives old Attach (Booted boot) attached
  pub tells : gives attached (Read boot 0 HEADER_LENGTH) (Told bytes) new

-- The device told its first bytes. It is used on as far as the image goes of which they tell, or to its end.
pub record IsCutToHeader (old new : FileState) : Type 0 where
  pub bytes : List ℕ
  pub read : FileState
  pub told : HasToldFirst FileGives old bytes read
  pub size : new ≡ record read { size = min (told_length bytes) read.size }

-- The device told its first bytes, and as those of the image of this number and size they are right by this layout: they say this header.
pub record ReadsHeader {D : Type 0} (v : Version) (gives : D → Call → Answer → D → Type 0) (old : D) (disk size : ℕ) (header : Header) (new : D) : Type 0 where
  pub boot : ℕ
  pub attached : D
  pub bytes : List ℕ
  pub boots : gives old Attach (Booted boot) attached
  pub tells : gives attached (Read boot 0 HEADER_LENGTH) (Told bytes) new
  pub right : IsRight v disk size bytes header

-- the device was asked for so many first bytes, and one of the two calls was answered with this fault
abbrev pub FailsToTell : {D : Type 0} → (D → Call → Answer → D → Type 0) → ℕ → (old : D) → DiskFault → (new : D) → Type 0
FailsToTell {D} gives count old fault new =
    gives old Attach (Fault fault) new ⊎ ((boot : ℕ) × (attached : D) × gives old Attach (Booted boot) attached × gives attached (Read boot 0 count) (Fault fault) new)

-- why it says none: its first bytes, which it told, have no open gate; or they are no header of that image, or fewer than a header has; or
-- they are right by the layout that images had before this one; or it failed to tell those that it has
abbrev pub ReadsNoHeader : {D : Type 0} → Version → (D → Call → Answer → D → Type 0) → (old : D) → (disk size : ℕ) → (new : D) → ImageFault → Type 0
ReadsNoHeader v gives old disk size new NotFormatted = (bytes : List ℕ) × HasToldFirst gives old bytes new × ¬ IsFormatted bytes
ReadsNoHeader v gives old disk size new WrongHeader = (size < HEADER_LENGTH) ⊎ ((bytes : List ℕ) × HasToldFirst gives old bytes new × HasWrongHeader v disk size bytes)
ReadsNoHeader v gives old disk size new OldLayout = (bytes : List ℕ) × HasToldFirst gives old bytes new × IsOld v disk size bytes
ReadsNoHeader v gives old disk size new Unreadable = (fault : DiskFault) × FailsToTell gives (min size HEADER_LENGTH) old fault new

-- an image that is right is in use and as long as its header says; of one that is refused no call is carried out
abbrev pub IsDiskOf : Version → Result Header ImageFault → FileState → Type 0
IsDiskOf v (Ok header) disk = (disk.used ≡ true) × (disk.size ≡ image_length v header.slots)
IsDiskOf v (Err fault) disk = disk.used ≡ false

-- ALL OF THEM

-- a disk of this size, of which every call fails
abbrev pub missing : ℕ → FileState
missing size = record { used = false; size = size; failures = 0 }

-- one of another size is not used
abbrev pub resized : ℕ → FileState → FileState
resized size disk = if disk.size == size then disk else missing size

-- no more disks and slots than there may be
pub record IsSmall (c : Shape) : Type 0 where
  pub disks : c.disks ≤ DISKS
  pub slots : c.slots ≤ SLOTS

-- An open folder has the numbers of the set that was found, and of the set's images those in use whose header was right.
pub record IsOpened (found : Found) (config : Shape) (cluster : ℕ) (disks : List FileState) : Type 0 where
  pub images : AreImages found
  pub numbers : HasNumbers found config cluster
  pub used : (k : ℕ) (disk : FileState) (image : Result Header ImageFault) → slice_get disks k ≡ Some disk → slice_get found k ≡ Some image →
      disk.used ≡ is_ok image
