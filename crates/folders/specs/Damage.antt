-- When an image is damaged, the text of its damage, a line for each damaged block, and what a check tells of the images of a folder.
use Rattle.std.specs.Prelude.{◌≡◌, ◌≢◌, ◌⊎◌, ◌↔◌, ◌≤◌, ◌<◌, ◌+◌, ℕ, Bool, false, IsTrue, List, [], ◌∷◌, ◌++◌, codes, decimal, length, slice_get, slice_index_or, Option, Some, None, Result, Ok, Err, if◌then◌else◌}
use Rattle.std.specs.Io.KnownBytes.{Appends}
use Rattle.std.specs.List.{concat, flat_map, range_with_len}
use Rattle.disk.specs.Disk.{Device, DiskState, Call, Answer}
use Rattle.disk.specs.declared.fault.DiskFault.{DiskFault}
use Rattle.disk.specs.declared.fault.ImageFault.{ImageFault}
use Rattle.disk.specs.declared.fault.ImageFault.TheVariants.{Unreadable}
use Rattle.torn_block.specs.Layout.{cluster_version}
use Rattle.torn_block.specs.declared.layout.TheConstants.{HOSTS}
use Rattle.paxos_block.specs.Places.{area_of, row_of, image_length}
use Rattle.paxos_block.specs.Damage as rows
use Rattle.paxos_block.specs.declared.header.Header.{Header}
use Rattle.heartbeat.specs.Damage as areas
use Rattle.paxos_block.specs.Row.{IsDamagedRow}
use Rattle.heartbeat.specs.Beat.{IsDamagedArea}
use Rattle.folders.specs.ImageFaults.{image_fault_number, image_fault_name}
use Rattle.folders.specs.Reading.{OneCannotBeRead}
use Rattle.folders.specs.Sets.{Found}
use Rattle.folders.specs.declared.check.Blocks.{Blocks}
use Rattle.folders.specs.declared.check.Blocks.TheVariants.{Heartbeat, Slot}
use Rattle.folders.specs.declared.check.CheckFault.{CheckFault}
use Rattle.folders.specs.declared.check.CheckFault.TheVariants.{Device as OfDevice, Output}
use Rattle.folders.specs.declared.check.Finding.{Finding}
use Rattle.folders.specs.declared.check.Finding.TheVariants.{Image, Damaged}

-- each disk has room for an image of so many slots
abbrev pub AreLarge : {D : Type 0} → (D → Device) → ℕ → List D → Type 0
AreLarge {D} device slots disks = (k : ℕ) (d : D) → slice_get disks k ≡ Some d → image_length cluster_version slots ≤ (device d).size

-- the row of some slot below this one is damaged
abbrev pub IsDamagedBelow : ℕ → List ℕ → Type 0
IsDamagedBelow slots bytes = (slot : ℕ) × (slot < slots) × IsDamagedRow cluster_version (row_of cluster_version slot bytes)

-- an image is damaged where its heartbeat area is, or the row of a slot
abbrev pub IsDamagedImage : ℕ → List ℕ → Type 0
IsDamagedImage slots bytes = IsDamagedArea (area_of cluster_version bytes) ⊎ IsDamagedBelow slots bytes

-- the line of a damaged block
abbrev pub line_of : ℕ → Blocks → ℕ → List ℕ
line_of disk Heartbeat host = codes "disk" ++ decimal disk ++ codes " heartbeat host " ++ decimal host ++ codes " damaged" ++ 10 ∷ []
line_of disk (Slot slot) host = codes "disk" ++ decimal disk ++ codes " slot " ++ decimal slot ++ codes " host " ++ decimal host ++ codes " damaged" ++ 10 ∷ []

-- a host's line, where its block is damaged
abbrev pub line_if : ℕ → Blocks → List Bool → ℕ → List ℕ
line_if disk blocks damaged host = if slice_index_or damaged host false then line_of disk blocks host else []

-- the lines of the damaged ones, by host
abbrev pub lines_of : ℕ → Blocks → List Bool → List ℕ
lines_of disk blocks damaged = flat_map (line_if disk blocks damaged) (range_with_len 0 HOSTS)

abbrev pub area_text : ℕ → List ℕ → List ℕ
area_text disk bytes = lines_of disk Heartbeat (areas.damaged_in (area_of cluster_version bytes))

abbrev pub row_text : ℕ → List ℕ → ℕ → List ℕ
row_text disk bytes slot = lines_of disk (Slot slot) (rows.damaged_in (row_of cluster_version slot bytes))

abbrev pub rows_text : ℕ → ℕ → List ℕ → List ℕ
rows_text disk slots bytes = flat_map (row_text disk bytes) (range_with_len 0 slots)

-- the line of an image that is not used
abbrev pub fault_line : ℕ → ImageFault → List ℕ
fault_line disk fault =
    codes "disk" ++ decimal disk ++ codes " " ++ decimal (image_fault_number fault) ++ codes " " ++ image_fault_name fault ++ 10 ∷ []

-- the heartbeat blocks first, and then the blocks of each slot
abbrev pub image_text : ℕ → ℕ → List ℕ → List ℕ
image_text disk slots bytes = area_text disk bytes ++ rows_text disk slots bytes

-- AN IMAGE THAT IS NOT READ TO ITS END

-- This is so of the device's fault. Of an output that failed nothing is said, here and below.
abbrev pub IfDevice : CheckFault → (DiskFault → Type 0) → Type 0
IfDevice (Output error) P = Unit {0}
IfDevice (OfDevice fault) P = P fault

-- Its heartbeat blocks and the first n slots were looked at: their lines are printed, and it is told whether there is one, or was before.
pub record IsLookedAt (disk n : ℕ) (bytes : List ℕ) (before after : Option (List ℕ)) (first any : Bool) : Type 0 where
  pub text : Appends before after (image_text disk n bytes)
  pub found : IsTrue any ↔ (IsTrue first ⊎ IsDamagedImage n bytes)

-- nothing is printed where a call of the device failed
abbrev pub PrintsNothing : CheckFault → (before after : Option (List ℕ)) → Type 0
PrintsNothing (Output error) before after = Unit {0}
PrintsNothing (OfDevice fault) before after = after ≡ before

-- The slots before some slot were looked at, where the device failed.
abbrev pub IsLeftInRows : CheckFault → (disk slots : ℕ) → List ℕ → (before after : Option (List ℕ)) → (first any : Bool) → Type 0
IsLeftInRows (Output error) disk slots bytes before after first any = Unit {0}
IsLeftInRows (OfDevice fault) disk slots bytes before after first any =
    (n : ℕ) × (n < slots) × Appends before after (rows_text disk n bytes) × (IsTrue any ↔ (IsTrue first ⊎ IsDamagedBelow n bytes))

-- Nothing of an image was looked at, where the device failed, or all before some slot.
abbrev pub IsLeftAt : CheckFault → (disk slots : ℕ) → List ℕ → (before after : Option (List ℕ)) → (first any : Bool) → Type 0
IsLeftAt (Output error) disk slots bytes before after first any = Unit {0}
IsLeftAt (OfDevice fault) disk slots bytes before after first any =
    ((after ≡ before) × (any ≡ first)) ⊎ ((n : ℕ) × (n < slots) × IsLookedAt disk n bytes before after first any)

-- WHAT A CHECK PRINTS

-- that it could not be read: alone, or behind the lines of what stands before some slot
abbrev pub IsTextOfUnread : (disk slots : ℕ) → (bytes text : List ℕ) → Type 0
IsTextOfUnread disk slots bytes text =
    (text ≡ fault_line disk Unreadable) ⊎ ((n : ℕ) × (n < slots) × (text ≡ image_text disk n bytes ++ fault_line disk Unreadable))

-- of an image that is used: the lines of all of it; or, where a call of its disk failed, that
abbrev pub IsTextOfUsed : (disk slots : ℕ) → (bytes : List ℕ) → (failed : Type 0) → (text : List ℕ) → Type 0
IsTextOfUsed disk slots bytes failed text = (text ≡ image_text disk slots bytes) ⊎ (failed × IsTextOfUnread disk slots bytes text)

-- of any image: why it is refused, or that
abbrev pub IsTextOf : Result Header ImageFault → (disk slots : ℕ) → (bytes : List ℕ) → (failed : Type 0) → (text : List ℕ) → Type 0
IsTextOf (Err fault) disk slots bytes failed text = text ≡ fault_line disk fault
IsTextOf (Ok header) disk slots bytes failed text = IsTextOfUsed disk slots bytes failed text

-- such a text was written
abbrev pub WritesTextOf : Result Header ImageFault → (disk slots : ℕ) → (bytes : List ℕ) → (failed : Type 0) → (before after : Option (List ℕ)) → Type 0
WritesTextOf image disk slots bytes failed before after = (text : List ℕ) × IsTextOf image disk slots bytes failed text × Appends before after text

-- contracts see the bytes of each disk
abbrev pub AllTell : {D : Type 0} → (D → Device) → List D → Type 0
AllTell {D} device disks = (k : ℕ) (disk : D) → slice_get disks k ≡ Some disk → IsTrue (device disk).tells

-- the texts of images, by number, where some disks failed
abbrev pub AreTexts : {D : Type 0} → (D → DiskState) → (slots : ℕ) → Found → List D → (failed : ℕ → Type 0) → List (List ℕ) → Type 0
AreTexts {D} state slots found disks failed texts =
    (k : ℕ) (disk : D) (image : Result Header ImageFault) (text : List ℕ) → slice_get disks k ≡ Some disk → slice_get found k ≡ Some image → slice_get texts k ≡ Some text →
    IsTextOf image k slots (state disk).bytes (failed k) text

-- those of the first n were written, one behind the other
abbrev pub WritesTexts : {D : Type 0} → (D → DiskState) → (slots : ℕ) → Found → List D → (failed : ℕ → Type 0) → (n : ℕ) → (before after : Option (List ℕ)) → Type 0
WritesTexts state slots found disks failed n before after =
    (texts : List (List ℕ)) × (length texts ≡ n) × AreTexts state slots found disks failed texts × Appends before after (concat texts)

-- WHAT A CHECK TELLS

-- Of an image that is used: nothing only where no block is damaged, damage only where one is, or that it could not be read, only where a call
-- of its disk failed. A disk that tells no bytes is held to the last alone.
abbrev pub Shows : (disk : ℕ) → (tells damaged failed : Type 0) → Option Finding → Type 0
Shows disk tells damaged failed None = tells → damaged → ⊥
Shows disk tells damaged failed (Some Damaged) = tells → damaged
Shows disk tells damaged failed (Some (Image number fault)) = (number ≡ disk) × (fault ≡ Unreadable) × failed

-- of any image: why it is refused, or what its blocks show
abbrev pub TellsOf : Result Header ImageFault → (disk : ℕ) → (tells damaged failed : Type 0) → Option Finding → Type 0
TellsOf (Err fault) disk tells damaged failed finding = finding ≡ Some (Image disk fault)
TellsOf (Ok header) disk tells damaged failed finding = Shows disk tells damaged failed finding

-- This is told of image k of a folder.
abbrev pub IsTold : {D : Type 0} → (D → Device) → (D → DiskState) → ℕ → Found → List D → (failed : ℕ → Type 0) → ℕ → Option Finding → Type 0
IsTold {D} device state slots found disks failed k finding =
    (disk : D) (image : Result Header ImageFault) → slice_get disks k ≡ Some disk → slice_get found k ≡ Some image →
    TellsOf image k (IsTrue (device disk).tells) (IsDamagedImage slots (state disk).bytes) (failed k) finding

-- nothing is told of the first n images
abbrev pub AreSound : {D : Type 0} → (D → Device) → (D → DiskState) → ℕ → Found → List D → (failed : ℕ → Type 0) → ℕ → Type 0
AreSound device state slots found disks failed n = (k : ℕ) → k < n → IsTold device state slots found disks failed k None

-- Of the first n images nothing is told, or of one of them this, and nothing of those before it.
abbrev pub IsToldFirst : {D : Type 0} → (D → Device) → (D → DiskState) → ℕ → Found → List D → (failed : ℕ → Type 0) → ℕ → Option Finding → Type 0
IsToldFirst device state slots found disks failed n None = AreSound device state slots found disks failed n
IsToldFirst device state slots found disks failed n (Some finding) =
    (k : ℕ) × (k < n) × AreSound device state slots found disks failed k × IsTold device state slots found disks failed k (Some finding)

-- OF A FOLDER

-- none of the first n images is refused
abbrev pub NoneRefused : Found → ℕ → Type 0
NoneRefused found n = (k : ℕ) (fault : ImageFault) → k < n → slice_get found k ≢ Some (Err fault)

-- Nothing is told only where none of the first n images is refused. Else it is told why the first refused one is, or, of one before it, that it
-- is damaged or could not be read. A file tells no bytes, so it is not said which of both.
abbrev pub IsToldOfFolder : Found → ℕ → Option Finding → Type 0
IsToldOfFolder found n None = NoneRefused found n
IsToldOfFolder found n (Some (Image k fault)) =
    (k < n) × NoneRefused found k × ((slice_get found k ≡ Some (Err fault)) ⊎ ((fault ≡ Unreadable) × NoneRefused found (k + 1)))
IsToldOfFolder found n (Some Damaged) = (k : ℕ) × (k < n) × NoneRefused found (k + 1)

-- That an image which is used cannot be read is told only where a call of its disk failed.
abbrev pub FailsIfUnread : {D : Type 0} → (D → Call → Answer → D → Type 0) → (slots : ℕ) → Found → (old new : List D) → Option Finding → Type 0
FailsIfUnread gives slots found old new None = Unit {0}
FailsIfUnread gives slots found old new (Some Damaged) = Unit {0}
FailsIfUnread gives slots found old new (Some (Image k fault)) = (header : Header) → slice_get found k ≡ Some (Ok header) → OneCannotBeRead gives slots old new k
