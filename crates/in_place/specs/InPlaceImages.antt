-- How the images of a set are made endless in place: all of them are looked at, then room is made behind each, and only then headers are changed.
use Rattle.std.specs.Prelude.{◌≡◌, ◌⊎◌, ◌<◌, ◌≤◌, ◌+◌, ℕ, List, [], Some, length, replicate, slice_get, slice_set}
use Rattle.disk.specs.Disk.{Call, Attach, Read, Write, Sync, Answer, Booted, Told, Done, Fault}
use Rattle.disk.specs.declared.boot.Boot.{Boot}
use Rattle.disk.specs.declared.fault.DiskFault.{DiskFault}
use Rattle.disk.specs.declared.fault.ImageFault.{ImageFault}
use Rattle.disk.specs.declared.fault.ImageFault.TheVariants.{Unreadable, WrongHeader}
use Rattle.torn_block.specs.declared.layout.TheConstants.{HEADER_LENGTH}
use Rattle.endless_image.specs.Headers.{IsRight}
use Rattle.endless_image.specs.InPlace.{AllDone, IsEnding, IsUnfinished, StopsBy, endless_of, finishing, making}
use Rattle.endless_image.specs.Sets.{IsSameSet}
use Rattle.endless_image.specs.Sizes.{area_size, size_of}
use Rattle.endless_image.specs.declared.header.EndlessHeader.{EndlessHeader}
use Rattle.endless_image.specs.declared.progress.Progress.{Progress}
use Rattle.endless_image.specs.declared.progress.Progress.TheVariants.{Ending, Marked, Endless}
use Rattle.folders.specs.Formatting.{EachBecame, FirstBecame}
use Rattle.folders.specs.Layout.{WritesZeros}
use Rattle.in_place.specs.declared.in_place_disk.Due.{Due}
use Rattle.in_place.specs.declared.in_place_disk.Due.TheVariants.{Nothing, Make, Finish}
use Rattle.in_place.specs.declared.in_place_disk.MakeFault.{MakeFault}
use Rattle.in_place.specs.declared.in_place_disk.MakeFault.TheVariants.{Refused, NotReady, NotMade}

-- WHAT IS FOUND

-- an image of this length, with these first bytes, is so far
abbrev pub IsAt : (disk long : ℕ) → List ℕ → Progress → Type 0
IsAt disk long bytes (Ending header) = IsEnding disk long bytes header
IsAt disk long bytes (Marked header) = IsUnfinished disk long bytes header
IsAt disk long bytes (Endless header) = IsRight disk long bytes header

-- the header that it has in the end
abbrev pub becomes : Progress → EndlessHeader
becomes (Ending header) = endless_of header
becomes (Marked header) = header
becomes (Endless header) = header

-- what is due on it, under the boot number that its disk has
abbrev pub due_of : Boot → Progress → Due
due_of boot (Ending header) = Make boot
due_of boot (Marked header) = Finish boot
due_of boot (Endless header) = Nothing

-- all that was written before was synced, and then the first bytes were read
pub record TellsSurely {D : Type 0} (gives : D → Call → Answer → D → Type 0) (boot : ℕ) (bytes : List ℕ) (old new : D) : Type 0 where
  pub attached : D
  pub synced : D
  pub attaches : gives old Attach (Booted boot) attached
  pub syncs : gives attached (Sync boot) Done synced
  pub tells : gives synced (Read boot 0 HEADER_LENGTH) (Told bytes) new

-- one of these calls was answered with this fault, and each before it well
abbrev pub FailsToTellSurely : {D : Type 0} → (D → Call → Answer → D → Type 0) → (old : D) → DiskFault → (new : D) → Type 0
FailsToTellSurely {D} gives old fault new =
    gives old Attach (Fault fault) new
    ⊎ ((boot : ℕ) × (attached : D) × gives old Attach (Booted boot) attached
    × (gives attached (Sync boot) (Fault fault) new ⊎ ((synced : D) × gives attached (Sync boot) Done synced × gives synced (Read boot 0 HEADER_LENGTH) (Fault fault) new)))

-- An image of this set was found, and this is due on it.
pub record IsFound {D : Type 0} (gives : D → Call → Answer → D → Type 0) (set : EndlessHeader) (disk : ℕ) (due : Due) (old new : D) : Type 0 where
  pub boot : Boot
  pub bytes : List ℕ
  pub progress : Progress
  pub told : TellsSurely gives boot.number bytes old new
  pub is_at : IsAt disk (size_of set.slots) bytes progress
  pub same : IsSameSet (becomes progress) set
  pub due_is : due ≡ due_of boot progress

-- Why none was found: its first bytes were not told, or they are those of no image of this set.
abbrev pub IsNotFound : {D : Type 0} → (D → Call → Answer → D → Type 0) → EndlessHeader → (disk : ℕ) → (old new : D) → ImageFault → Type 0
IsNotFound gives set disk old new Unreadable = (fault : DiskFault) × FailsToTellSurely gives old fault new
IsNotFound gives set disk old new WrongHeader =
    (boot : ℕ) × (bytes : List ℕ) × TellsSurely gives boot bytes old new × ((progress : Progress) → IsAt disk (size_of set.slots) bytes progress → ¬ IsSameSet (becomes progress) set)
IsNotFound gives set disk old new other = ⊥

-- ROOM IS MADE

-- zeros were written behind the old image, up to the end of the new one, and synced
abbrev pub IsExtendedBy : {D : Type 0} → (D → Call → Answer → D → Type 0) → (boot slots : ℕ) → (old new : D) → Type 0
IsExtendedBy {D} gives boot slots old new = (zeroed : D) × WritesZeros gives boot (area_size slots) (size_of slots) old zeroed × gives zeroed (Sync boot) Done new

-- such a write was answered with this fault, and each before it well
abbrev pub FailsToWriteZeros : {D : Type 0} → (D → Call → Answer → D → Type 0) → (boot slots : ℕ) → (old : D) → DiskFault → (new : D) → Type 0
FailsToWriteZeros {D} gives boot slots old fault new =
    (at len : ℕ) × (at + len ≤ size_of slots) × (last : D) × WritesZeros gives boot (area_size slots) at old last × gives last (Write boot at (replicate len 0)) (Fault fault) new

-- or the sync was, once all of them were written
abbrev pub FailsToExtend : {D : Type 0} → (D → Call → Answer → D → Type 0) → (boot slots : ℕ) → (old : D) → DiskFault → (new : D) → Type 0
FailsToExtend {D} gives boot slots old fault new =
    FailsToWriteZeros gives boot slots old fault new ⊎ ((zeroed : D) × WritesZeros gives boot (area_size slots) (size_of slots) old zeroed × gives zeroed (Sync boot) (Fault fault) new)

-- Room was made behind an image of a log that ends. Of any other one nothing was asked: what stands in its second area is no zeros, maybe.
abbrev pub IsMadeReady : {D : Type 0} → (D → Call → Answer → D → Type 0) → (slots : ℕ) → Due → (old new : D) → Type 0
IsMadeReady gives slots (Make boot) old new = IsExtendedBy gives boot.number slots old new
IsMadeReady gives slots other old new = new ≡ old

-- a call that was to make room was answered with a fault
abbrev pub IsNotReady : {D : Type 0} → (D → Call → Answer → D → Type 0) → (slots : ℕ) → Due → (old new : D) → Type 0
IsNotReady gives slots (Make boot) old new = (fault : DiskFault) × FailsToExtend gives boot.number slots old fault new
IsNotReady gives slots other old new = ⊥

-- HEADERS ARE CHANGED

-- the calls that are due on a header
abbrev pub calls_of : Due → List Call
calls_of Nothing = []
calls_of (Make boot) = making boot.number
calls_of (Finish boot) = finishing boot.number

-- ALL OF THEM

-- By what is due on each of the disks, each became another one so.
abbrev pub BecameBy : {D : Type 0} → (ℕ → Due → D → D → Type 0) → List Due → ℕ → D → D → Type 0
BecameBy became due disk old new = (of : Due) × (slice_get due disk ≡ Some of) × became disk of old new

-- each image was found, and this is due on it
abbrev pub AreFound : {D : Type 0} → (D → Call → Answer → D → Type 0) → EndlessHeader → List Due → (old new : List D) → Type 0
AreFound gives set due = EachBecame (BecameBy (λ disk of old new. IsFound gives set disk of old new) due)

-- each has room for the new image
abbrev pub AreReady : {D : Type 0} → (D → Call → Answer → D → Type 0) → (slots : ℕ) → List Due → (old new : List D) → Type 0
AreReady gives slots due = EachBecame (BecameBy (λ disk of old new. IsMadeReady gives slots of old new) due)

-- on each the calls were made that were due on its header
abbrev pub AreChanged : {D : Type 0} → (D → Call → Answer → D → Type 0) → List Due → (old new : List D) → Type 0
AreChanged gives due = EachBecame (BecameBy (λ disk of old new. AllDone gives (calls_of of) old new) due)

-- All were found. Then room was made behind each. Only then headers were changed.
pub record AreMadeEndless {D : Type 0} (gives : D → Call → Answer → D → Type 0) (set : EndlessHeader) (old new : List D) : Type 0 where
  pub due : List Due
  pub looked : List D
  pub ready : List D
  pub found : AreFound gives set due old looked
  pub extended : AreReady gives set.slots due looked ready
  pub changed : AreChanged gives due ready new

-- WHERE IT STOPS

-- The disks below this number became other ones so. Then this came of the disk of this number, and all after it are as they were.
pub record StopsAt {D : Type 0} (became : ℕ → D → D → Type 0) (stops : D → D → Type 0) (n : ℕ) (old new : List D) : Type 0 where
  pub below : n < length old
  pub between : List D
  pub before : D
  pub after : D
  pub first : FirstBecame became n old between
  pub is_there : slice_get between n ≡ Some before
  pub came : stops before after
  pub rest : new ≡ slice_set between n after

-- The images before this one were found, and this one was not. Nothing was written on any disk.
abbrev pub StopsLooking : {D : Type 0} → (D → Call → Answer → D → Type 0) → EndlessHeader → (old new : List D) → MakeFault → Type 0
StopsLooking gives set old new (Refused disk fault) =
    (due : List Due) × StopsAt (BecameBy (λ disk of old new. IsFound gives set disk of old new) due) (λ old new. IsNotFound gives set disk old new fault) disk old new
StopsLooking gives set old new other = ⊥

-- Behind the images before this one there is room, and behind this one it was not made.
abbrev pub StopsReadying : {D : Type 0} → (D → Call → Answer → D → Type 0) → (slots : ℕ) → List Due → (old new : List D) → MakeFault → Type 0
StopsReadying gives slots due old new (NotReady disk) =
    StopsAt (BecameBy (λ disk of old new. IsMadeReady gives slots of old new) due) (BecameBy (λ disk of old new. IsNotReady gives slots of old new) due disk) disk old new
StopsReadying gives slots due old new other = ⊥

-- The headers before this one were changed, and of this one a call failed.
abbrev pub StopsChanging : {D : Type 0} → (D → Call → Answer → D → Type 0) → List Due → (old new : List D) → MakeFault → Type 0
StopsChanging gives due old new (NotMade disk) =
    StopsAt (BecameBy (λ disk of old new. AllDone gives (calls_of of) old new) due) (BecameBy (λ disk of old new. (fault : DiskFault) × StopsBy gives (calls_of of) fault old new) due disk) disk old new
StopsChanging gives due old new other = ⊥

-- It stopped in one of the three passes, and each pass before that one was ended. So no header was changed before there was room behind each image.
abbrev pub StopsMaking : {D : Type 0} → (D → Call → Answer → D → Type 0) → EndlessHeader → (old new : List D) → MakeFault → Type 0
StopsMaking gives set old new (Refused disk fault) = StopsLooking gives set old new (Refused disk fault)
StopsMaking {D} gives set old new (NotReady disk) =
    (due : List Due) × (looked : List D) × AreFound gives set due old looked × StopsReadying gives set.slots due looked new (NotReady disk)
StopsMaking {D} gives set old new (NotMade disk) =
    (due : List Due) × (looked ready : List D) × AreFound gives set due old looked × AreReady gives set.slots due looked ready × StopsChanging gives due ready new (NotMade disk)
