-- What the calls of a format, and of a migration, leave of a disk that makes a step of the disk model with each of them.
use Rattle.std.specs.Prelude.{◌≡◌, ◌<◌, ◌⊎◌, ℕ, false, All, List, [], ◌∷◌, ◌++◌, length, map, replicate, slice_get, slice_index_or, take, Some}
use Rattle.disk.specs.Disk.{DiskState, Call, Attach, Write, Sync, Answer, Booted, Done, Step}
use Rattle.disk.specs.Cut.{cut}
use Rattle.disk.specs.Simulated.{fresh_disk}
use Rattle.torn_block.specs.Layout.{cluster_version}
use Rattle.torn_block.specs.declared.block.TheConstants.{OPEN_GATE}
use Rattle.torn_block.specs.declared.layout.TheConstants.{HEADER_LENGTH, VALUE_LENGTH}
use Rattle.paxos_block.specs.declared.header.Header.{Header}
use Rattle.paxos_block.specs.Headers.{header_saying}
use Rattle.paxos_block.specs.Places.{image_length}
use Rattle.migration.specs.Fits.{Fits}
use Rattle.migration.specs.Heard.{at_first, heard, next}
use Rattle.paxos_block.specs.Image.{Setup}
use Rattle.migration.specs.Run.{IsAllOrNothing, IsMigrated}
use Rattle.migration.specs.declared.end.End.TheVariants.{Migrated}
use Rattle.lock_command.specs.declared.command.Command.{Command}
use Rattle.lock_command.specs.Command.{spelling}
use Rattle.folders.specs.Layout.{WritesZeros, none as no_zeros, more as more_zeros, IsLaidOut, closed_header}
use Rattle.dlm_images.specs.Operations.{Made, Gave, GaveOne}
use Rattle.folder_migration.specs.Gates.{IsCleared}
use Rattle.folder_migration.specs.Moving.{Makes, none, more, HasMoved}
use Rattle.at_once.specs.Disks.{GaveAlone, MakesSteps}
use Rattle.at_once.specs.Images.{HoldsNothing, HoldsLog}
use Rattle.at_once.specs.Power.{LosesPower}

-- A FORMAT

-- A disk with boot number 1 that was laid out holds nothing.
abbrev pub LaidOutIsBlank : {D : Type 0} → (D → Call → Answer → D → Type 0) → (D → DiskState) → Type 0
LaidOutIsBlank {D = D} gives state = MakesSteps gives state →
    (header : Header) (old new : D) → (state old).boot ≡ 1 → IsLaidOut gives old header new → HoldsNothing header.slots (state new)

-- the first bytes of a disk are the header that says this, and none of them is unsynced
abbrev pub SaysHeader : Header → DiskState → Type 0
SaysHeader header disk = (take HEADER_LENGTH disk.bytes ≡ header_saying cluster_version header) × (take HEADER_LENGTH disk.unsynced ≡ replicate HEADER_LENGTH false)

-- It begins with its header.
abbrev pub LaidOutSaysHeader : {D : Type 0} → (D → Call → Answer → D → Type 0) → (D → DiskState) → Type 0
LaidOutSaysHeader {D = D} gives state = MakesSteps gives state →
    (header : Header) (old new : D) → (state old).boot ≡ 1 → IsLaidOut gives old header new → SaysHeader header (state new)

-- A MIGRATION

-- the first n positions are zeros, none of them unsynced, on a disk that is there under boot number 1
abbrev pub IsFresh : ℕ → DiskState → Type 0
IsFresh n disk = cut n disk ≡ fresh_disk n

-- A disk with boot number 1 that was made zeros is fresh as far as that.
abbrev pub ClearedIsFresh : {D : Type 0} → (D → Call → Answer → D → Type 0) → (D → DiskState) → Type 0
ClearedIsFresh {D = D} gives state = MakesSteps gives state →
    (size : ℕ) (old new : D) → (state old).boot ≡ 1 → IsCleared gives size old new → IsFresh size (state new)

-- There are as many disks as the set has, and each is fresh as far as an image is long.
pub record AreFresh {D : Type 0} (state : D → DiskState) (s : Setup) (disks : List D) : Type 0 where
  pub as_many : length disks ≡ s.disks
  pub each : (k : ℕ) (disk : D) → slice_get disks k ≡ Some disk → IsFresh (image_length cluster_version s.slots) (state disk)

-- of each of these disks, the first n positions
abbrev pub firsts : {D : Type 0} → ℕ → (D → DiskState) → List D → ℕ → DiskState
firsts n state disks k = cut n (slice_index_or (map state disks) k (fresh_disk 0))

-- Whatever calls a migration has made on them, however these were answered: no gate is open, or every image is complete except perhaps for
-- its gate.
abbrev pub MakesAllOrNothing : {D : Type 0} → (D → Call → Answer → D → Type 0) → (D → DiskState) → Type 0
MakesAllOrNothing {D = D} gives state = MakesSteps gives state →
    (s : Setup) (old new : List D) (answers : List Answer) → Fits s → AreFresh state s old → Makes gives s old answers new →
    IsAllOrNothing s (firsts (image_length cluster_version s.slots) state new)

-- Each of these disks lost power, and is that image now.
pub record HaveLostPower {D : Type 0} (state : D → DiskState) (disks : List D) (images : List DiskState) : Type 0 where
  pub as_many : length images ≡ length disks
  pub each : (k : ℕ) (disk : D) (image : DiskState) → slice_get disks k ≡ Some disk → slice_get images k ≡ Some image → LosesPower (state disk) image

-- So it is if they then lose power.
abbrev pub PowerLeavesAllOrNothing : {D : Type 0} → (D → Call → Answer → D → Type 0) → (D → DiskState) → Type 0
PowerLeavesAllOrNothing {D = D} gives state = MakesSteps gives state →
    (s : Setup) (old new : List D) (answers : List Answer) → Fits s → AreFresh state s old → Makes gives s old answers new →
    (images : List DiskState) → HaveLostPower state new images →
    IsAllOrNothing s (firsts (image_length cluster_version s.slots) (λ image. image) images)

-- each value of its log is as long as a value is
abbrev pub HasValues : Setup → Type 0
HasValues s = All (λ value. length value ≡ VALUE_LENGTH) s.log

-- Where it ended well, every image is complete, and synced.
abbrev pub MovedIsWhole : {D : Type 0} → (D → Call → Answer → D → Type 0) → (D → DiskState) → Type 0
MovedIsWhole {D = D} gives state = MakesSteps gives state →
    (s : Setup) (old new : List D) → HasValues s → AreFresh state s old → HasMoved gives s old new Migrated →
    (k : ℕ) → k < s.disks → IsMigrated s k (firsts (image_length cluster_version s.slots) state new k)

-- So each disk holds the commands whose spellings were moved.
abbrev pub MovedHoldsLog : {D : Type 0} → (D → Call → Answer → D → Type 0) → (D → DiskState) → Type 0
MovedHoldsLog {D = D} gives state = MakesSteps gives state →
    (s : Setup) (commands : List Command) (old new : List D) → HasValues s → s.log ≡ map spelling commands → AreFresh state s old → HasMoved gives s old new Migrated →
    (k : ℕ) (disk : D) → slice_get new k ≡ Some disk → HoldsLog s.slots commands (state disk)

-- THE CALLS THAT WERE MADE

-- a call of this disk that succeeded
abbrev pub succeeded : ℕ → Call → Answer → Made
succeeded k call answer = record { disk = k; call = call; answer = answer }

-- the calls that write zeros
abbrev pub zeroing : {D : Type 0} {gives : D → Call → Answer → D → Type 0} {boot from to : ℕ} {old new : D} → ℕ → WritesZeros gives boot from to old new → List Made
zeroing k (no_zeros at disk) = []
zeroing {boot = boot} k (more_zeros from n to old between new writes len gave is) = zeroing k writes ++ succeeded k (Write boot n (replicate len 0)) Done ∷ []

-- those that lay out
abbrev pub laying : {D : Type 0} {gives : D → Call → Answer → D → Type 0} {old new : D} {header : Header} → IsLaidOut gives old header new → List Made
laying {header = header} is =
    let call = succeeded header.disk in
    call Attach (Booted is.boot) ∷ zeroing header.disk is.clears
    ++ call (Sync is.boot) Done ∷ call (Write is.boot 0 (closed_header header)) Done ∷ call (Sync is.boot) Done ∷ call (Write is.boot 0 (OPEN_GATE ∷ [])) Done ∷ call (Sync is.boot) Done ∷ []

-- those that clear disk k
abbrev pub clearing : {D : Type 0} {gives : D → Call → Answer → D → Type 0} {size : ℕ} {old new : D} → ℕ → IsCleared gives size old new → List Made
clearing k is = succeeded k Attach (Booted is.boot) ∷ zeroing k is.clears ++ succeeded k (Sync is.boot) Done ∷ []

-- those of a migration
abbrev pub moving : {D : Type 0} {gives : D → Call → Answer → D → Type 0} {s : Setup} {old new : List D} {answers : List Answer} → Makes gives s old answers new → List Made
moving none = []
moving (more answers now makes x due new gave) = moving makes ++ x ∷ []

-- THE SAME OF FILES

-- Contracts do not see what a file holds. The file that was laid out gave the answers to these calls; and an image with boot number 1 that
-- makes a step with each of them, answered so, then holds nothing.
abbrev pub LaidOutFileIsBlank : {D : Type 0} → (D → Call → Answer → D → Type 0) → Type 0
LaidOutFileIsBlank {D = D} gives = (header : Header) (old new : D) (is : IsLaidOut gives old header new) →
    GaveAlone gives old (laying is) new × ((image left : DiskState) → image.boot ≡ 1 → GaveAlone Step image (laying is) left → HoldsNothing header.slots left)

-- So it begins with that header.
abbrev pub LaidOutFileSaysHeader : {D : Type 0} → (D → Call → Answer → D → Type 0) → Type 0
LaidOutFileSaysHeader {D = D} gives = (header : Header) (old new : D) (is : IsLaidOut gives old header new) →
    (image left : DiskState) → image.boot ≡ 1 → GaveAlone Step image (laying is) left → SaysHeader header left

-- A file that was cleared gave these; and such an image is then fresh as far as that.
abbrev pub ClearedFileIsFresh : {D : Type 0} → (D → Call → Answer → D → Type 0) → Type 0
ClearedFileIsFresh {D = D} gives = (size k : ℕ) (old new : D) (is : IsCleared gives size old new) →
    GaveAlone gives old (clearing k is) new × ((image left : DiskState) → image.boot ≡ 1 → GaveAlone Step image (clearing k is) left → IsFresh size left)

-- the images of the set are fresh
abbrev pub AreFreshImages : Setup → List DiskState → Type 0
AreFreshImages s images = AreFresh (λ image. image) s images

-- The files that a migration has called gave these; and of fresh images that make a step with each, no gate is then open, or every one is
-- complete except perhaps for its gate.
abbrev pub FilesMakeAllOrNothing : {D : Type 0} → (D → Call → Answer → D → Type 0) → Type 0
FilesMakeAllOrNothing {D = D} gives = (s : Setup) (old new : List D) (answers : List Answer) (is : Makes gives s old answers new) →
    Gave gives old (moving is) new ×
    ((images left : List DiskState) → Fits s → AreFreshImages s images → Gave Step images (moving is) left →
    IsAllOrNothing s (firsts (image_length cluster_version s.slots) (λ image. image) left))

-- what the images are where the migration was stopped: between two calls, or within the next one, whatever came of that
abbrev pub StopsWithin : Setup → List Answer → (left stopped : List DiskState) → Type 0
StopsWithin s answers left stopped = (stopped ≡ left) ⊎ ((x : Made) × (next (heard (at_first s) answers) ≡ Some (x.disk, x.call)) × GaveOne Step left x stopped)

-- So it is wherever it is stopped, and if the images then lose power.
abbrev pub StoppedFilesAreAllOrNothing : {D : Type 0} → (D → Call → Answer → D → Type 0) → Type 0
StoppedFilesAreAllOrNothing {D = D} gives = (s : Setup) (old new : List D) (answers : List Answer) (is : Makes gives s old answers new) →
    (images left stopped : List DiskState) → Fits s → AreFreshImages s images → Gave Step images (moving is) left → StopsWithin s answers left stopped →
    IsAllOrNothing s (firsts (image_length cluster_version s.slots) (λ image. image) stopped) ×
    ((dark : List DiskState) → HaveLostPower (λ image. image) stopped dark →
    IsAllOrNothing s (firsts (image_length cluster_version s.slots) (λ image. image) dark))

-- Where it ended well, each of these images is complete, and synced.
abbrev pub MovedFilesAreWhole : {D : Type 0} → (D → Call → Answer → D → Type 0) → Type 0
MovedFilesAreWhole {D = D} gives = (s : Setup) (old new : List D) (is : HasMoved gives s old new Migrated) →
    (images left : List DiskState) → HasValues s → AreFreshImages s images → Gave Step images (moving is.makes) left →
    (k : ℕ) → k < s.disks → IsMigrated s k (firsts (image_length cluster_version s.slots) (λ image. image) left k)

-- So it holds the commands whose spellings were moved.
abbrev pub MovedFilesHoldLog : {D : Type 0} → (D → Call → Answer → D → Type 0) → Type 0
MovedFilesHoldLog {D = D} gives = (s : Setup) (commands : List Command) (old new : List D) (is : HasMoved gives s old new Migrated) →
    (images left : List DiskState) → HasValues s → s.log ≡ map spelling commands → AreFreshImages s images → Gave Step images (moving is.makes) left →
    (k : ℕ) (image : DiskState) → slice_get left k ≡ Some image → HoldsLog s.slots commands image
