-- How a check reads an image of a log without an end: the calls that it makes in turn, and the one at which the device failed.
use Rattle.std.specs.Prelude.{◌≡◌, ◌⊎◌, ◌<◌, ℕ, List, ◌∷◌, ◌++◌, map, slice_get, Option, Some, None}
use Rattle.std.specs.List.{range_with_len}
use Rattle.disk.specs.Disk.{Call, Attach, Read, Answer, Booted, Fault}
use Rattle.disk.specs.declared.fault.DiskFault.{DiskFault}
use Rattle.torn_block.specs.declared.layout.TheConstants.{ROW_LENGTH}
use Rattle.folders.specs.Reading.{FailsAmong, TellsAll}
use Rattle.folders.specs.declared.check.Finding.{Finding}
use Rattle.log_folders.specs.Areas.{part_place}
use Rattle.log_folders.specs.declared.area.Part.{Part}
use Rattle.log_folders.specs.declared.area.Part.TheVariants.{Standings, Heartbeats, Slot}

-- the reads of a part, of the slots from one on, and of an area, under a boot number
abbrev pub part_read : (boot slots area : ℕ) → Part → Call
part_read boot slots area part = Read boot (part_place slots area part) ROW_LENGTH

abbrev pub slot_reads : (boot slots area slot count : ℕ) → List Call
slot_reads boot slots area slot count = map (λ s. part_read boot slots area (Slot s)) (range_with_len slot count)

abbrev pub area_reads : (boot slots area : ℕ) → List Call
area_reads boot slots area = part_read boot slots area Standings ∷ part_read boot slots area Heartbeats ∷ slot_reads boot slots area 0 slots

-- of both areas
abbrev pub image_reads : (boot slots : ℕ) → List Call
image_reads boot slots = area_reads boot slots 0 ++ area_reads boot slots 1

-- A check of an image failed at the device: the attach was answered with this fault, or one of the reads after it.
abbrev pub FailsToShow : {D : Type 0} → (D → Call → Answer → D → Type 0) → (slots : ℕ) → (old : D) → DiskFault → (new : D) → Type 0
FailsToShow {D} gives slots old fault new =
    gives old Attach (Fault fault) new
    ⊎ ((boot : ℕ) × (attached : D) × gives old Attach (Booted boot) attached × FailsAmong gives (image_reads boot slots) attached fault new)

-- with some fault
abbrev pub CannotBeRead : {D : Type 0} → (D → Call → Answer → D → Type 0) → (slots : ℕ) → (old new : D) → Type 0
CannotBeRead gives slots old new = (fault : DiskFault) × FailsToShow gives slots old fault new

-- it was read to its end: each call was answered well
abbrev pub IsReadWhole : {D : Type 0} → (D → Call → Answer → D → Type 0) → (slots : ℕ) → (old new : D) → Type 0
IsReadWhole {D} gives slots old new =
    (boot : ℕ) × (attached : D) × gives old Attach (Booted boot) attached × TellsAll gives (image_reads boot slots) attached new

-- OF SEVERAL DISKS

-- so it was with the disk of this number
abbrev pub OneCannotBeRead : {D : Type 0} → (D → Call → Answer → D → Type 0) → (slots : ℕ) → (old new : List D) → ℕ → Type 0
OneCannotBeRead {D} gives slots old new k =
    (before : D) × (after : D) × (slice_get old k ≡ Some before) × (slice_get new k ≡ Some after) × CannotBeRead gives slots before after

abbrev pub OneIsReadWhole : {D : Type 0} → (D → Call → Answer → D → Type 0) → (slots : ℕ) → (old new : List D) → ℕ → Type 0
OneIsReadWhole {D} gives slots old new k =
    (before : D) × (after : D) × (slice_get old k ≡ Some before) × (slice_get new k ≡ Some after) × IsReadWhole gives slots before after

-- nothing was found only where each of the first n was read to its end
abbrev pub AreReadIfSound : {D : Type 0} → (D → Call → Answer → D → Type 0) → (slots : ℕ) → (old new : List D) → (n : ℕ) → Option Finding → Type 0
AreReadIfSound gives slots old new n finding = finding ≡ None → (k : ℕ) → k < n → OneIsReadWhole gives slots old new k
