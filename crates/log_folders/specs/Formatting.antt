-- How the images of a set are laid out together, of either kind of log: no gate is opened before each of them is whole.
use Rattle.std.specs.Prelude.{◌≡◌, ◌⊎◌, ◌<◌, ◌≤◌, ℕ, List, length, replicate, slice_get, Some}
use Rattle.disk.specs.Disk.{Call, Attach, Write, Sync, Answer, Booted, Done}
use Rattle.disk.specs.FileStates.{FileState, FileGives}
use Rattle.disk.specs.declared.boot.Boot.{Boot}
use Rattle.folders.specs.Formatting.{EachBecame, EndsInFault, FirstBecame, MakesOnly, OneBecame, OpensGate, StopsOpening}
use Rattle.folders.specs.Layout.{WritesZeros}
use Rattle.folders.specs.declared.layout.LayFault.{LayFault}
use Rattle.folders.specs.declared.layout.LayFault.TheVariants.{NotWhole, NotOpened}
use Rattle.log_folders.specs.Layout.{IsLaidOut, with_closed_gate}
use Rattle.log_folders.specs.NewSets.{Wanted, header_for, size_for}

-- ONE IMAGE

-- The image is zeros throughout, and synced; then its header is written with a closed gate, and synced. The disk after each of these calls stands first.
pub record IsLaidOutClosed {D : Type 0} (gives : D → Call → Answer → D → Type 0) (size : ℕ) (header : List ℕ) (boot : ℕ) (old new : D) : Type 0 where
  pub attached : D
  pub zeroed : D
  pub blank : D
  pub closed : D
  pub attaches : gives old Attach (Booted boot) attached
  pub clears : WritesZeros gives boot 0 size attached zeroed
  pub syncs_zeros : gives zeroed (Sync boot) Done blank
  pub writes : gives blank (Write boot 0 (with_closed_gate header)) Done closed
  pub syncs_header : gives closed (Sync boot) Done new

-- the call opens no gate: it writes zeros, or these first bytes with a closed gate, if it writes at all
abbrev pub OpensNoGate : (header : List ℕ) → Call → Type 0
OpensNoGate header (Write boot at from) = (from ≡ replicate (length from) 0) ⊎ ((at ≡ 0) × (from ≡ with_closed_gate header))
OpensNoGate header other = Unit {0}

-- ALL OF THEM

-- the first so many images were laid out with closed gates, under these boots of their disks
abbrev pub AreClosed : {D : Type 0} → (D → Call → Answer → D → Type 0) → Wanted → List Boot → (n : ℕ) → (old new : List D) → Type 0
AreClosed gives set boots = FirstBecame (λ disk old new. (boot : Boot) × (slice_get boots disk ≡ Some boot) × IsLaidOutClosed gives (size_for set) (header_for set disk) boot.number old new)

-- each image is whole, and synced, but for its gate
abbrev pub AreWhole : {D : Type 0} → (D → Call → Answer → D → Type 0) → Wanted → (old new : List D) → Type 0
AreWhole gives set = EachBecame (λ disk old new. (boot : ℕ) × IsLaidOutClosed gives (size_for set) (header_for set disk) boot old new)

-- Each image is laid out. At one moment all of them were whole, and only then were gates opened.
pub record AreLaidOutTogether {D : Type 0} (gives : D → Call → Answer → D → Type 0) (set : Wanted) (old new : List D) : Type 0 where
  pub whole : List D
  pub closed : AreWhole gives set old whole
  pub opened : EachBecame (λ disk old new. MakesOnly gives OpensGate old new) whole new
  pub images : EachBecame (λ disk old new. IsLaidOut gives (size_for set) (header_for set disk) old new) old new

-- Of one of the disks a call failed. Before each image was whole no gate was opened on any disk; or all were whole by then, and gates were opened.
abbrev pub StopsLaying : {D : Type 0} → (D → Call → Answer → D → Type 0) → Wanted → (old new : List D) → LayFault → Type 0
StopsLaying {D} gives set old new (NotWhole disk) =
    (disk < set.config.disks) × OneBecame (EndsInFault gives (OpensNoGate (header_for set disk))) disk old new
    × EachBecame (λ disk old new. MakesOnly gives (OpensNoGate (header_for set disk)) old new) old new
StopsLaying {D} gives set old new (NotOpened disk) =
    (whole : List D) × AreWhole gives set old whole × StopsOpening gives set.config whole new (NotOpened disk)

-- what they are to be made of: a file or a device for each, with room for it
pub record AreNew (set : Wanted) (devices : List FileState) : Type 0 where
  pub as_many : length devices ≡ set.config.disks
  pub room : (k : ℕ) (device : FileState) → slice_get devices k ≡ Some device → size_for set ≤ device.size

-- files or devices with room for them were laid out together as the images of a folder
pub record WereLaidOut (set : Wanted) : Type 0 where
  pub old : List FileState
  pub new : List FileState
  pub fresh : AreNew set old
  pub laid_out : AreLaidOutTogether FileGives set old new
