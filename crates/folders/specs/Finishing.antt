-- A format that was ended once all its images were whole: what is found of each image, and how the gates that are left are opened.
use Rattle.std.specs.Prelude.{◌≡◌, ◌==◌, ◌⊎◌, ◌<◌, ◌+◌, ℕ, false, List, [], ◌∷◌, Some, length, min, replicate, slice_get, slice_index, slice_set}
use Rattle.std.specs.List.{list_all}
use Rattle.disk.specs.Disk.{Device, Call, Attach, Read, Write, Sync, Answer, Booted, Told, Done, Fault}
use Rattle.disk.specs.declared.fault.DiskFault.{DiskFault}
use Rattle.disk.specs.FileStates.{FileState, FileGives}
use Rattle.attempt.specs.Looking.{OnlyReads}
use Rattle.torn_block.specs.Layout.{cluster_version}
use Rattle.torn_block.specs.declared.layout.TheConstants.{HEADER_LENGTH}
use Rattle.torn_block.specs.declared.block.TheConstants.{OPEN_GATE}
use Rattle.paxos_block.specs.declared.header.Header.{Header}
use Rattle.paxos_block.specs.Headers.{header_saying}
use Rattle.paxos_block.specs.Places.{image_length}
use Rattle.paxos_block.specs.Shape.{Shape}
use Rattle.folders.specs.Folders.{HasToldFirst, FailsToTell}
use Rattle.folders.specs.Formatting.{EachBecame, EndsInFault, FirstBecame, MakesOnly, OneBecame, OpensGate}
use Rattle.folders.specs.Layout.{header_of}
use Rattle.folders.specs.declared.layout.LayFault.{LayFault}
use Rattle.folders.specs.declared.layout.LayFault.TheVariants.{NotWhole, NotOpened}
use Rattle.folders.specs.declared.unfinished.Left.{Left}
use Rattle.folders.specs.declared.unfinished.Left.TheVariants.{Open, Closed, Neither}

-- ONE IMAGE

-- zeros were read from this place to that one, some at a time
pub data ReadsZeros {D : Type 0} (gives : D → Call → Answer → D → Type 0) (boot : ℕ) : ℕ → ℕ → D → D → Type 0 where
  none : (at : ℕ) → (disk : D) → ReadsZeros gives boot at at disk disk
  more : (from n to : ℕ) → (old between new : D) → ReadsZeros gives boot from n old between → (len : ℕ) → gives between (Read boot n len) (Told (replicate len 0)) new → to ≡ n + len → ReadsZeros gives boot from to old new

-- all is zeros from the header on, up to this size
pub record HasReadZeros {D : Type 0} (gives : D → Call → Answer → D → Type 0) (size : ℕ) (old new : D) : Type 0 where
  pub boot : ℕ
  pub attached : D
  pub attaches : gives old Attach (Booted boot) attached
  pub reads : ReadsZeros gives boot HEADER_LENGTH size attached new

-- a read showed a byte that is not zero, or was answered with a fault
pub data ReadsNoZeros {D : Type 0} (gives : D → Call → Answer → D → Type 0) (boot at len : ℕ) (old new : D) : Type 0 where
  not_zero : (bytes : List ℕ) → list_all (λ b. b == 0) bytes ≡ false → gives old (Read boot at len) (Told bytes) new → ReadsNoZeros gives boot at len old new
  failed : (fault : DiskFault) → gives old (Read boot at len) (Fault fault) new → ReadsNoZeros gives boot at len old new

-- zeros were read from the header on, up to such a read
pub record StopsReading {D : Type 0} (gives : D → Call → Answer → D → Type 0) (boot : ℕ) (old new : D) : Type 0 where
  pub at : ℕ
  pub len : ℕ
  pub last : D
  pub zeros : ReadsZeros gives boot HEADER_LENGTH at old last
  pub ends : ReadsNoZeros gives boot at len last new

-- what stands after the header is not all zeros, or was not told to its end
pub data HoldsMore {D : Type 0} (gives : D → Call → Answer → D → Type 0) (old new : D) : Type 0 where
  not_attached : (fault : DiskFault) → gives old Attach (Fault fault) new → HoldsMore gives old new
  not_zeros : (boot : ℕ) → (attached : D) → gives old Attach (Booted boot) attached → StopsReading gives boot attached new → HoldsMore gives old new

-- these bytes are this header, but for a gate that is not open
pub record IsClosedHeader (header : Header) (bytes : List ℕ) : Type 0 where
  pub closed : ¬ (slice_index bytes 0 ≡ OPEN_GATE)
  pub right : slice_set bytes 0 OPEN_GATE ≡ header_saying cluster_version header

-- an image is neither: its first bytes were not told; or they are another header, whatever its gate; or it holds more
pub data IsNeither {D : Type 0} (gives : D → Call → Answer → D → Type 0) (header : Header) (old new : D) : Type 0 where
  not_told : (fault : DiskFault) → FailsToTell gives (min (image_length cluster_version header.slots) HEADER_LENGTH) old fault new → IsNeither gives header old new
  another : (bytes : List ℕ) → HasToldFirst gives old bytes new → ¬ (slice_set bytes 0 OPEN_GATE ≡ header_saying cluster_version header) → IsNeither gives header old new
  in_use : (bytes : List ℕ) → (told : D) → HasToldFirst gives old bytes told → IsClosedHeader header bytes → HoldsMore gives told new → IsNeither gives header old new

-- what is found of a disk: the image with this header; or one that is whole but for its gate, and holds nothing; or neither
abbrev pub FindsLeft : {D : Type 0} → (D → Call → Answer → D → Type 0) → Header → (old new : D) → Left → Type 0
FindsLeft gives header old new Open = (bytes : List ℕ) × HasToldFirst gives old bytes new × (bytes ≡ header_saying cluster_version header)
FindsLeft {D} gives header old new Closed =
    (bytes : List ℕ) × (told : D) × HasToldFirst gives old bytes told × IsClosedHeader header bytes × HasReadZeros gives (image_length cluster_version header.slots) told new
FindsLeft gives header old new Neither = IsNeither gives header old new

-- it is one of the two
abbrev pub IsLeft : {D : Type 0} → (D → Call → Answer → D → Type 0) → Header → (old new : D) → Type 0
IsLeft gives header old new = FindsLeft gives header old new Open ⊎ FindsLeft gives header old new Closed

-- its gate was opened, whether it was closed or not, and synced
pub record OpensFound {D : Type 0} (gives : D → Call → Answer → D → Type 0) (old new : D) : Type 0 where
  pub boot : ℕ
  pub attached : D
  pub opened : D
  pub attaches : gives old Attach (Booted boot) attached
  pub opens : gives attached (Write boot 0 (OPEN_GATE ∷ [])) Done opened
  pub syncs : gives opened (Sync boot) Done new

-- it attaches, opens the gate, or is a sync
abbrev pub OpensFoundGate : Call → Type 0
OpensFoundGate Attach = Unit {0}
OpensFoundGate other = OpensGate other

-- ALL OF THEM

-- each disk has so many bytes
abbrev pub HaveSize : {D : Type 0} → (D → Device) → ℕ → List D → Type 0
HaveSize {D} device size disks = (k : ℕ) (disk : D) → slice_get disks k ≡ Some disk → (device disk).size ≡ size

-- each disk was only read
abbrev pub AreOnlyRead : {D : Type 0} → (D → Call → Answer → D → Type 0) → (old new : List D) → Type 0
AreOnlyRead gives = EachBecame (λ disk old new. MakesOnly gives OnlyReads old new)

-- each was found whole, with its gate open or closed
abbrev pub AreLeft : {D : Type 0} → (D → Call → Answer → D → Type 0) → Shape → (cluster : ℕ) → (old new : List D) → Type 0
AreLeft gives config cluster = EachBecame (λ disk old new. IsLeft gives (header_of config cluster disk) old new)

-- this is found of one of the first so many
abbrev pub FindsOne : {D : Type 0} → (D → Call → Answer → D → Type 0) → Shape → (cluster : ℕ) → Left → (n : ℕ) → (old new : List D) → Type 0
FindsOne gives config cluster left n old new = (disk : ℕ) × (disk < n) × OneBecame (λ old new. FindsLeft gives (header_of config cluster disk) old new left) disk old new

-- the first so many were found open
abbrev pub FirstAreOpen : {D : Type 0} → (D → Call → Answer → D → Type 0) → Shape → (cluster : ℕ) → (n : ℕ) → (old new : List D) → Type 0
FirstAreOpen gives config cluster = FirstBecame (λ disk old new. FindsLeft gives (header_of config cluster disk) old new Open)

-- Each was found whole, and the gate of one of them closed.
pub record AreUnfinished {D : Type 0} (gives : D → Call → Answer → D → Type 0) (config : Shape) (cluster : ℕ) (old new : List D) : Type 0 where
  pub left : AreLeft gives config cluster old new
  pub closed : FindsOne gives config cluster Closed config.disks old new

-- Each was found open, or one of them is neither.
abbrev pub HaveNothingLeft : {D : Type 0} → (D → Call → Answer → D → Type 0) → Shape → (cluster : ℕ) → (old new : List D) → Type 0
HaveNothingLeft gives config cluster old new = FirstAreOpen gives config cluster config.disks old new ⊎ FindsOne gives config cluster Neither config.disks old new

-- They were found so that a gate was closed, and only then gates were opened.
pub record AreFinished {D : Type 0} (gives : D → Call → Answer → D → Type 0) (config : Shape) (cluster : ℕ) (old new : List D) : Type 0 where
  pub looked : List D
  pub left : AreUnfinished gives config cluster old looked
  pub opened : EachBecame (λ disk old new. OpensFound gives old new) looked new

-- of one of them a call failed that was to open its gate, once they had been found so; nothing else was asked of any disk then
abbrev pub StopsFinishing : {D : Type 0} → (D → Call → Answer → D → Type 0) → Shape → (cluster : ℕ) → (old new : List D) → LayFault → Type 0
StopsFinishing gives config cluster old new (NotWhole disk) = ⊥
StopsFinishing {D} gives config cluster old new (NotOpened disk) =
    (disk < config.disks) × (looked : List D) × AreUnfinished gives config cluster old looked
    × OneBecame (EndsInFault gives OpensFoundGate) disk looked new × EachBecame (λ disk old new. MakesOnly gives OpensFoundGate old new) looked new

-- WHAT A FORMAT OF A FOLDER CAME TO

-- the images of a folder are of a format that was ended, and all are open now
pub record WereFinished (config : Shape) (cluster : ℕ) : Type 0 where
  pub old : List FileState
  pub new : List FileState
  pub as_many : length old ≡ config.disks
  pub finished : AreFinished FileGives config cluster old new

-- they are all there, each as long as an image of the set
pub record AreThere (config : Shape) (devices : List FileState) : Type 0 where
  pub as_many : length devices ≡ config.disks
  pub sizes : (k : ℕ) (device : FileState) → slice_get devices k ≡ Some device → device.size ≡ image_length cluster_version config.slots
