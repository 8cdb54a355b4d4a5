-- New images: how one is made zeros, when it is an image of a set, and how its gate is opened.
use Rattle.std.specs.Prelude.{◌≡◌, ◌⊎◌, ◌<◌, ◌≤◌, ℕ, List, [], ◌∷◌, length, drop, slice_get, slice_set, Some}
use Rattle.disk.specs.Disk.{Device, Call, Attach, Write, Sync, Answer, Booted, Done, Fault}
use Rattle.disk.specs.declared.fault.DiskFault.{DiskFault}
use Rattle.torn_block.specs.Layout.{cluster_version}
use Rattle.torn_block.specs.declared.layout.TheConstants.{HEADER_LENGTH}
use Rattle.torn_block.specs.declared.block.TheConstants.{OPEN_GATE}
use Rattle.paxos_block.specs.declared.header.Header.{Header}
use Rattle.paxos_block.specs.Headers.{IsRight, IsFormatted}
use Rattle.paxos_block.specs.Shape.{Shape}
use Rattle.folders.specs.Folders.{HasToldFirst, FailsToTell}
use Rattle.folders.specs.Layout.{WritesZeros, header_of}
use Rattle.folder_migration.specs.declared.gate.Gate.{Gate}
use Rattle.folder_migration.specs.declared.gate.Gate.TheVariants.{Open, Closed, Neither}

-- the image is right, with this header
abbrev pub IsOpenImage : Header → ℕ → List ℕ → Type 0
IsOpenImage header long bytes = IsRight cluster_version header.disk long bytes header

-- it would be, with an open gate
pub record IsClosedImage (header : Header) (long : ℕ) (bytes : List ℕ) : Type 0 where
  pub closed : ¬ IsFormatted bytes
  pub right : IsRight cluster_version header.disk long (OPEN_GATE ∷ drop 1 bytes) header

-- it is neither
pub record IsNoImage (header : Header) (long : ℕ) (bytes : List ℕ) : Type 0 where
  pub not_open : ¬ IsOpenImage header long bytes
  pub not_closed : ¬ IsClosedImage header long bytes

-- it told none: a header has no room on it, and it was not asked; or it failed to
abbrev pub TellsNone : {D : Type 0} → (D → Call → Answer → D → Type 0) → ℕ → (old new : D) → Type 0
TellsNone gives size old new = ((size < HEADER_LENGTH) × (new ≡ old)) ⊎ ((fault : DiskFault) × FailsToTell gives HEADER_LENGTH old fault new)

-- what is found of a device of so many bytes, by the first bytes that it told
abbrev pub Finds : {D : Type 0} → (D → Call → Answer → D → Type 0) → Header → ℕ → (old new : D) → Gate → Type 0
Finds gives header size old new Open = (HEADER_LENGTH ≤ size) × (bytes : List ℕ) × HasToldFirst gives old bytes new × IsOpenImage header size bytes
Finds gives header size old new Closed = (HEADER_LENGTH ≤ size) × (bytes : List ℕ) × HasToldFirst gives old bytes new × IsClosedImage header size bytes
Finds gives header size old new Neither = TellsNone gives size old new ⊎ ((bytes : List ℕ) × HasToldFirst gives old bytes new × IsNoImage header size bytes)

-- the disk was made zeros up to this size, and synced
pub record IsCleared {D : Type 0} (gives : D → Call → Answer → D → Type 0) (size : ℕ) (old new : D) : Type 0 where
  pub boot : ℕ
  pub attached : D
  pub zeroed : D
  pub attaches : gives old Attach (Booted boot) attached
  pub clears : WritesZeros gives boot 0 size attached zeroed
  pub syncs : gives zeroed (Sync boot) Done new

-- the gate was opened, and synced
pub record OpensGate {D : Type 0} (gives : D → Call → Answer → D → Type 0) (old new : D) : Type 0 where
  pub boot : ℕ
  pub attached : D
  pub opened : D
  pub attaches : gives old Attach (Booted boot) attached
  pub opens : gives attached (Write boot 0 (OPEN_GATE ∷ [])) Done opened
  pub syncs : gives opened (Sync boot) Done new

-- what is there was synced
pub record SyncsGate {D : Type 0} (gives : D → Call → Answer → D → Type 0) (old new : D) : Type 0 where
  pub boot : ℕ
  pub attached : D
  pub attaches : gives old Attach (Booted boot) attached
  pub syncs : gives attached (Sync boot) Done new

-- it was to be opened, and the first call, the write or the sync was answered with this fault
pub data FailsToOpen {D : Type 0} (gives : D → Call → Answer → D → Type 0) (old : D) (fault : DiskFault) (new : D) : Type 0 where
  not_attached : gives old Attach (Fault fault) new → FailsToOpen gives old fault new
  not_written : (boot : ℕ) → (attached : D) → gives old Attach (Booted boot) attached → gives attached (Write boot 0 (OPEN_GATE ∷ [])) (Fault fault) new → FailsToOpen gives old fault new
  not_synced : (boot : ℕ) → (attached opened : D) → gives old Attach (Booted boot) attached → gives attached (Write boot 0 (OPEN_GATE ∷ [])) Done opened → gives opened (Sync boot) (Fault fault) new → FailsToOpen gives old fault new

-- it was to be synced, and the first call or the sync was answered with this fault
abbrev pub FailsToSync : {D : Type 0} → (D → Call → Answer → D → Type 0) → (old : D) → DiskFault → (new : D) → Type 0
FailsToSync {D} gives old fault new =
    gives old Attach (Fault fault) new ⊎ ((boot : ℕ) × (attached : D) × gives old Attach (Booted boot) attached × gives attached (Sync boot) (Fault fault) new)

-- LEFT OPEN

-- a gate that was found closed was opened and synced, one that was found open was synced, and where there is none all was left as it is
abbrev pub MakesSure : {D : Type 0} → (D → Call → Answer → D → Type 0) → Gate → (looked new : D) → Type 0
MakesSure gives Closed looked new = OpensGate gives looked new
MakesSure gives Open looked new = SyncsGate gives looked new
MakesSure gives Neither looked new = new ≡ looked

-- a call of those was answered with this fault
abbrev pub FailsToMakeSure : {D : Type 0} → (D → Call → Answer → D → Type 0) → Gate → (looked : D) → DiskFault → (new : D) → Type 0
FailsToMakeSure gives Closed looked fault new = FailsToOpen gives looked fault new
FailsToMakeSure gives Open looked fault new = FailsToSync gives looked fault new
FailsToMakeSure gives Neither looked fault new = ⊥

-- The gate of an image was looked for. If there is one, it is open and synced now.
pub record IsLeftOpen {D : Type 0} (gives : D → Call → Answer → D → Type 0) (header : Header) (size : ℕ) (old new : D) : Type 0 where
  pub gate : Gate
  pub looked : D
  pub finds : Finds gives header size old looked gate
  pub sure : MakesSure gives gate looked new

-- There is one, closed or open, and for this fault nobody made sure that it is open.
pub record IsLeftUnsure {D : Type 0} (gives : D → Call → Answer → D → Type 0) (header : Header) (size : ℕ) (old : D) (fault : DiskFault) (new : D) : Type 0 where
  pub gate : Gate
  pub looked : D
  pub finds : Finds gives header size old looked gate
  pub fails : FailsToMakeSure gives gate looked fault new

-- ALL OF THEM

-- Each of the first disks became another one so, by its number, and the others are as they were.
pub record FirstBecame {D : Type 0} (becomes : ℕ → D → D → Type 0) (n : ℕ) (old new : List D) : Type 0 where
  pub as_many : length new ≡ length old
  pub first : (k : ℕ) (a b : D) → k < n → slice_get old k ≡ Some a → slice_get new k ≡ Some b → becomes k a b
  pub others : (k : ℕ) → n ≤ k → slice_get new k ≡ slice_get old k

-- this is found of the image of this number
abbrev pub FindsOf : {D : Type 0} → (D → Call → Answer → D → Type 0) → (D → Device) → Shape → (cluster : ℕ) → Gate → ℕ → D → D → Type 0
FindsOf gives device config cluster gate disk old new = Finds gives (header_of config cluster disk) (device old).size old new gate

-- of none of the first so many this is found
abbrev pub HaveNoGate : {D : Type 0} → (D → Call → Answer → D → Type 0) → (D → Device) → Shape → (cluster : ℕ) → Gate → (n : ℕ) → (old new : List D) → Type 0
HaveNoGate gives device config cluster gate n = FirstBecame (λ disk old new. (other : Gate) × ¬ (other ≡ gate) × FindsOf gives device config cluster other disk old new) n

-- no gate of the first so many is open
abbrev pub HaveNoOpenGate : {D : Type 0} → (D → Call → Answer → D → Type 0) → (D → Device) → Shape → (cluster n : ℕ) → (old new : List D) → Type 0
HaveNoOpenGate gives device config cluster = HaveNoGate gives device config cluster Open

-- The images were looked at up to one of which this is found. Of those before it this is not found, and those after it are as they were.
pub record HasGate {D : Type 0} (gives : D → Call → Answer → D → Type 0) (device : D → Device) (config : Shape) (cluster : ℕ) (gate : Gate) (old new : List D) : Type 0 where
  pub disk : ℕ
  pub now : List D
  pub before_it : HaveNoGate gives device config cluster gate disk old now
  pub image : D
  pub looked : D
  pub is : slice_get now disk ≡ Some image
  pub found : FindsOf gives device config cluster gate disk image looked
  pub new_is : new ≡ slice_set now disk looked

-- up to one whose gate is open
abbrev pub HasOpenGate : {D : Type 0} → (D → Call → Answer → D → Type 0) → (D → Device) → Shape → (cluster : ℕ) → (old new : List D) → Type 0
HasOpenGate gives device config cluster = HasGate gives device config cluster Open

-- the first so many were left open
abbrev pub AreLeftOpen : {D : Type 0} → (D → Call → Answer → D → Type 0) → (D → Device) → Shape → (cluster n : ℕ) → (old new : List D) → Type 0
AreLeftOpen gives device config cluster n = FirstBecame (λ disk old new. IsLeftOpen gives (header_of config cluster disk) (device old).size old new) n

-- Of one nobody made sure, for this fault. Those before it were left open, and those after it are as they were.
pub record IsStopped {D : Type 0} (gives : D → Call → Answer → D → Type 0) (device : D → Device) (config : Shape) (cluster : ℕ) (old : List D) (fault : DiskFault) (new : List D) : Type 0 where
  pub disk : ℕ
  pub now : List D
  pub left_open : AreLeftOpen gives device config cluster disk old now
  pub image : D
  pub left : D
  pub is : slice_get now disk ≡ Some image
  pub left_unsure : IsLeftUnsure gives (header_of config cluster disk) (device image).size image fault left
  pub new_is : new ≡ slice_set now disk left

-- WHAT IS LEFT OF A RUN

-- A gate was open, and another one closed. Each was left open.
pub record AreFinishedFrom {D : Type 0} (gives : D → Call → Answer → D → Type 0) (device : D → Device) (config : Shape) (cluster : ℕ) (old new : List D) : Type 0 where
  pub looked : List D
  pub again : List D
  pub begun : HasGate gives device config cluster Open old looked
  pub left : HasGate gives device config cluster Closed looked again
  pub left_open : AreLeftOpen gives device config cluster config.disks again new

-- No gate was open, or one was and none was closed.
abbrev pub HaveNothingLeft : {D : Type 0} → (D → Call → Answer → D → Type 0) → (D → Device) → Shape → (cluster : ℕ) → (old new : List D) → Type 0
HaveNothingLeft {D} gives device config cluster old new =
    HaveNoGate gives device config cluster Open config.disks old new
    ⊎ ((looked : List D) × HasGate gives device config cluster Open old looked × HaveNoGate gives device config cluster Closed config.disks looked new)

-- One was open, and another one closed. Of one nobody made sure, for this fault.
pub record AreStoppedFrom {D : Type 0} (gives : D → Call → Answer → D → Type 0) (device : D → Device) (config : Shape) (cluster : ℕ) (old : List D) (fault : DiskFault) (new : List D) : Type 0 where
  pub looked : List D
  pub again : List D
  pub begun : HasGate gives device config cluster Open old looked
  pub left : HasGate gives device config cluster Closed looked again
  pub stopped : IsStopped gives device config cluster again fault new
