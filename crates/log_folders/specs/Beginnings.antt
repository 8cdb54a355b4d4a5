-- What a format leaves of a disk that makes a step of the disk model with each call, whether it came to its end at once or was finished later.
use Rattle.std.specs.Prelude.{◌≡◌, ◌-◌, ◌++◌, ℕ, false, List, length, replicate, take}
use Rattle.disk.specs.Disk.{DiskState, Call, Answer, Step}
use Rattle.torn_block.specs.declared.layout.TheConstants.{HEADER_LENGTH}
use Rattle.paxos_block.specs.Saying.{zeros}
use Rattle.paxos_block.specs.Shape.{Shape}
use Rattle.endless_image.specs.Holding.{new_image}
use Rattle.endless_image.specs.declared.kind.Kind.TheVariants.{Endless}
use Rattle.folders.specs.Finishing.{OpensFound}
use Rattle.folders.specs.declared.unfinished.Left.TheVariants.{Open, Closed}
use Rattle.log_folders.specs.Finishing.{FindsLeft}
use Rattle.log_folders.specs.Layout.{IsLaidOut}
use Rattle.log_folders.specs.NewSets.{Wanted, header_for, size_for}

-- each answer makes a step of the disk model
abbrev pub MakesSteps : {D : Type 0} → (D → Call → Answer → D → Type 0) → (D → DiskState) → Type 0
MakesSteps {D} gives state = (old new : D) (call : Call) (answer : Answer) → gives old call answer new → Step (state old) call answer (state new)

-- A new image of a set: its header, and zeros behind it.
abbrev pub image_for : Wanted → (disk : ℕ) → List ℕ
image_for set disk = header_for set disk ++ zeros (size_for set - HEADER_LENGTH)

-- Of a log without an end it is the one that holds nothing.
abbrev pub EndlessHoldsNothing : Type 0
EndlessHoldsNothing = (config : Shape) (cluster disk : ℕ) →
    image_for (record { kind = Endless; config = config; cluster = cluster }) disk ≡ new_image (record { disk = disk; disks = config.disks; slots = config.slots; cluster = cluster; first_epoch = 0 })

-- A disk begins with these bytes, and all of them are synced.
pub record HoldsSurely (bytes : List ℕ) (disk : DiskState) : Type 0 where
  pub begins : take (length bytes) disk.bytes ≡ bytes
  pub synced : take (length bytes) disk.unsynced ≡ replicate (length bytes) false

-- A disk that was laid out holds a new image.
abbrev pub LaidOutIsNew : {D : Type 0} → (D → Call → Answer → D → Type 0) → (D → DiskState) → Type 0
LaidOutIsNew {D} gives state = MakesSteps gives state →
    (set : Wanted) (disk : ℕ) (old new : D) → IsLaidOut gives (size_for set) (header_for set disk) old new → HoldsSurely (image_for set disk) (state new)

-- So does one that was found whole but for its gate, once its gate was opened.
abbrev pub FinishedIsNew : {D : Type 0} → (D → Call → Answer → D → Type 0) → (D → DiskState) → Type 0
FinishedIsNew {D} gives state = MakesSteps gives state →
    (set : Wanted) (disk : ℕ) (old looked new : D) → FindsLeft gives (size_for set) (header_for set disk) old looked Closed → OpensFound gives looked new → HoldsSurely (image_for set disk) (state new)

-- One whose gate was found open keeps its header, and all behind it.
abbrev pub OpenStays : {D : Type 0} → (D → Call → Answer → D → Type 0) → (D → DiskState) → Type 0
OpenStays {D} gives state = MakesSteps gives state →
    (set : Wanted) (disk : ℕ) (old looked new : D) → FindsLeft gives (size_for set) (header_for set disk) old looked Open → OpensFound gives looked new →
    HoldsSurely (header_for set disk) (state new) × ((state new).bytes ≡ (state old).bytes)
