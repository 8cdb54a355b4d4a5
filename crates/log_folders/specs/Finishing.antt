-- A format of either kind of images that was ended once all of them were whole: what is found of each image, and how the gates that are left are opened.
use Rattle.std.specs.Prelude.{◌≡◌, ◌⊎◌, ◌<◌, ℕ, List, Some, length, min, slice_get, slice_index, slice_set}
use Rattle.disk.specs.Disk.{Call, Answer}
use Rattle.disk.specs.declared.fault.DiskFault.{DiskFault}
use Rattle.disk.specs.FileStates.{FileState, FileGives}
use Rattle.torn_block.specs.declared.layout.TheConstants.{HEADER_LENGTH}
use Rattle.torn_block.specs.declared.block.TheConstants.{OPEN_GATE}
use Rattle.folders.specs.Finishing.{HasReadZeros, HoldsMore, OpensFound, OpensFoundGate}
use Rattle.folders.specs.Folders.{HasToldFirst, FailsToTell}
use Rattle.folders.specs.Formatting.{EachBecame, EndsInFault, FirstBecame, MakesOnly, OneBecame}
use Rattle.folders.specs.declared.layout.LayFault.{LayFault}
use Rattle.folders.specs.declared.layout.LayFault.TheVariants.{NotWhole, NotOpened}
use Rattle.folders.specs.declared.unfinished.Left.{Left}
use Rattle.folders.specs.declared.unfinished.Left.TheVariants.{Open, Closed, Neither}
use Rattle.log_folders.specs.NewSets.{Wanted, header_for, size_for}

-- ONE IMAGE

-- these bytes are those of this header, but for a gate that is not open
pub record IsClosedHeader (header bytes : List ℕ) : Type 0 where
  pub closed : ¬ (slice_index bytes 0 ≡ OPEN_GATE)
  pub right : slice_set bytes 0 OPEN_GATE ≡ header

-- an image is neither: its first bytes were not told; or they are another header, whatever its gate; or it holds more
pub data IsNeither {D : Type 0} (gives : D → Call → Answer → D → Type 0) (size : ℕ) (header : List ℕ) (old new : D) : Type 0 where
  not_told : (fault : DiskFault) → FailsToTell gives (min size HEADER_LENGTH) old fault new → IsNeither gives size header old new
  another : (bytes : List ℕ) → HasToldFirst gives old bytes new → ¬ (slice_set bytes 0 OPEN_GATE ≡ header) → IsNeither gives size header old new
  in_use : (bytes : List ℕ) → (told : D) → HasToldFirst gives old bytes told → IsClosedHeader header bytes → HoldsMore gives told new → IsNeither gives size header old new

-- what is found of a disk: the image of this size with this header; or one that is whole but for its gate, and holds nothing; or neither
abbrev pub FindsLeft : {D : Type 0} → (D → Call → Answer → D → Type 0) → (size : ℕ) → (header : List ℕ) → (old new : D) → Left → Type 0
FindsLeft gives size header old new Open = (bytes : List ℕ) × HasToldFirst gives old bytes new × (bytes ≡ header)
FindsLeft {D} gives size header old new Closed =
    (bytes : List ℕ) × (told : D) × HasToldFirst gives old bytes told × IsClosedHeader header bytes × HasReadZeros gives size told new
FindsLeft gives size header old new Neither = IsNeither gives size header old new

-- it is one of the two
abbrev pub IsLeft : {D : Type 0} → (D → Call → Answer → D → Type 0) → (size : ℕ) → (header : List ℕ) → (old new : D) → Type 0
IsLeft gives size header old new = FindsLeft gives size header old new Open ⊎ FindsLeft gives size header old new Closed

-- ALL OF THEM

-- each was found whole, with its gate open or closed
abbrev pub AreLeft : {D : Type 0} → (D → Call → Answer → D → Type 0) → Wanted → (old new : List D) → Type 0
AreLeft gives set = EachBecame (λ disk old new. IsLeft gives (size_for set) (header_for set disk) old new)

-- this is found of one of the first so many
abbrev pub FindsOne : {D : Type 0} → (D → Call → Answer → D → Type 0) → Wanted → Left → (n : ℕ) → (old new : List D) → Type 0
FindsOne gives set left n old new = (disk : ℕ) × (disk < n) × OneBecame (λ old new. FindsLeft gives (size_for set) (header_for set disk) old new left) disk old new

-- the first so many were found open
abbrev pub FirstAreOpen : {D : Type 0} → (D → Call → Answer → D → Type 0) → Wanted → (n : ℕ) → (old new : List D) → Type 0
FirstAreOpen gives set = FirstBecame (λ disk old new. FindsLeft gives (size_for set) (header_for set disk) old new Open)

-- Each was found whole, and the gate of one of them closed.
pub record AreUnfinished {D : Type 0} (gives : D → Call → Answer → D → Type 0) (set : Wanted) (old new : List D) : Type 0 where
  pub left : AreLeft gives set old new
  pub closed : FindsOne gives set Closed set.config.disks old new

-- Each was found open, or one of them is neither.
abbrev pub HaveNothingLeft : {D : Type 0} → (D → Call → Answer → D → Type 0) → Wanted → (old new : List D) → Type 0
HaveNothingLeft gives set old new = FirstAreOpen gives set set.config.disks old new ⊎ FindsOne gives set Neither set.config.disks old new

-- They were found so that a gate was closed, and only then gates were opened.
pub record AreFinished {D : Type 0} (gives : D → Call → Answer → D → Type 0) (set : Wanted) (old new : List D) : Type 0 where
  pub looked : List D
  pub left : AreUnfinished gives set old looked
  pub opened : EachBecame (λ disk old new. OpensFound gives old new) looked new

-- of one of them a call failed that was to open its gate, once they had been found so; nothing else was asked of any disk then
abbrev pub StopsFinishing : {D : Type 0} → (D → Call → Answer → D → Type 0) → Wanted → (old new : List D) → LayFault → Type 0
StopsFinishing gives set old new (NotWhole disk) = ⊥
StopsFinishing {D} gives set old new (NotOpened disk) =
    (disk < set.config.disks) × (looked : List D) × AreUnfinished gives set old looked
    × OneBecame (EndsInFault gives OpensFoundGate) disk looked new × EachBecame (λ disk old new. MakesOnly gives OpensFoundGate old new) looked new

-- WHAT A FORMAT OF A FOLDER CAME TO

-- the images of a folder are of a format that was ended, and all are open now
pub record WereFinished (set : Wanted) : Type 0 where
  pub old : List FileState
  pub new : List FileState
  pub as_many : length old ≡ set.config.disks
  pub finished : AreFinished FileGives set old new

-- they are all there, each as long as an image of the set
pub record AreThere (set : Wanted) (devices : List FileState) : Type 0 where
  pub as_many : length devices ≡ set.config.disks
  pub sizes : (k : ℕ) (device : FileState) → slice_get devices k ≡ Some device → device.size ≡ size_for set
