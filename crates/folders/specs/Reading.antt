-- How a check reads an image: the calls that it makes in turn, and the one at which the device failed.
use Rattle.std.specs.Prelude.{◌≡◌, ◌⊎◌, ◌<◌, ℕ, List, [], ◌∷◌, map, slice_get, Option, Some, None}
use Rattle.std.specs.List.{range_with_len}
use Rattle.disk.specs.Disk.{Call, Attach, Read, Answer, Booted, Told, Fault}
use Rattle.disk.specs.declared.fault.DiskFault.{DiskFault}
use Rattle.torn_block.specs.Layout.{area_place, cluster_version}
use Rattle.torn_block.specs.declared.layout.TheConstants.{ROW_LENGTH}
use Rattle.paxos_block.specs.Places.{row_place}
use Rattle.folders.specs.declared.check.Finding.{Finding}

-- the reads of the heartbeat area, of a slot's row, and of the rows of so many slots, under a boot number
abbrev pub area_read : ℕ → Call
area_read boot = Read boot (area_place cluster_version) ROW_LENGTH

abbrev pub row_read : (boot slot : ℕ) → Call
row_read boot slot = Read boot (row_place cluster_version slot) ROW_LENGTH

abbrev pub row_reads : (boot slots : ℕ) → List Call
row_reads boot slots = map (row_read boot) (range_with_len 0 slots)

-- the device answered this read with bytes
abbrev pub Tells : {D : Type 0} → (D → Call → Answer → D → Type 0) → Call → (old new : D) → Type 0
Tells gives call old new = (bytes : List ℕ) × gives old call (Told bytes) new

-- of these reads, made one after another, one was answered with this fault, and each before it with bytes
abbrev pub FailsAmong : {D : Type 0} → (D → Call → Answer → D → Type 0) → List Call → (old : D) → DiskFault → (new : D) → Type 0
FailsAmong gives [] old fault new = ⊥
FailsAmong {D} gives (call ∷ calls) old fault new =
    gives old call (Fault fault) new ⊎ ((between : D) × Tells gives call old between × FailsAmong gives calls between fault new)

-- a check of an image of so many slots failed at the device: the attach was answered with this fault, or one of the reads after it
abbrev pub FailsToShow : {D : Type 0} → (D → Call → Answer → D → Type 0) → (slots : ℕ) → (old : D) → DiskFault → (new : D) → Type 0
FailsToShow {D} gives slots old fault new =
    gives old Attach (Fault fault) new
    ⊎ ((boot : ℕ) × (attached : D) × gives old Attach (Booted boot) attached × FailsAmong gives (area_read boot ∷ row_reads boot slots) attached fault new)

-- with some fault
abbrev pub CannotBeRead : {D : Type 0} → (D → Call → Answer → D → Type 0) → (slots : ℕ) → (old new : D) → Type 0
CannotBeRead gives slots old new = (fault : DiskFault) × FailsToShow gives slots old fault new

-- so it was with the disk of this number
abbrev pub OneCannotBeRead : {D : Type 0} → (D → Call → Answer → D → Type 0) → (slots : ℕ) → (old new : List D) → ℕ → Type 0
OneCannotBeRead {D} gives slots old new k =
    (before : D) × (after : D) × (slice_get old k ≡ Some before) × (slice_get new k ≡ Some after) × CannotBeRead gives slots before after

-- READ TO THE END

-- these reads were made, one after another, and each was answered with bytes
abbrev pub TellsAll : {D : Type 0} → (D → Call → Answer → D → Type 0) → List Call → (old new : D) → Type 0
TellsAll gives [] old new = new ≡ old
TellsAll {D} gives (call ∷ calls) old new = (between : D) × Tells gives call old between × TellsAll gives calls between new

-- an image of so many slots was read to its end
abbrev pub IsReadWhole : {D : Type 0} → (D → Call → Answer → D → Type 0) → (slots : ℕ) → (old new : D) → Type 0
IsReadWhole {D} gives slots old new =
    (boot : ℕ) × (attached : D) × gives old Attach (Booted boot) attached × TellsAll gives (area_read boot ∷ row_reads boot slots) attached new

-- so was that of this number
abbrev pub OneIsReadWhole : {D : Type 0} → (D → Call → Answer → D → Type 0) → (slots : ℕ) → (old new : List D) → ℕ → Type 0
OneIsReadWhole {D} gives slots old new k =
    (before : D) × (after : D) × (slice_get old k ≡ Some before) × (slice_get new k ≡ Some after) × IsReadWhole gives slots before after

-- nothing was found only where each of the first n was
abbrev pub AreReadIfSound : {D : Type 0} → (D → Call → Answer → D → Type 0) → (slots : ℕ) → (old new : List D) → (n : ℕ) → Option Finding → Type 0
AreReadIfSound gives slots old new n finding = finding ≡ None → (k : ℕ) → k < n → OneIsReadWhole gives slots old new k
