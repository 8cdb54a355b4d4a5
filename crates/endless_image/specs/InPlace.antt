-- How an image of a log that ends becomes one of a log without an end in place: which bytes of it change, by which calls, and what a stop may leave.
use Rattle.std.specs.Prelude.{◌≡◌, ◌≢◌, ◌⊎◌, ◌+◌, ◌≤◌, ◌<◌, ◌^◌, ℕ, List, [], ◌∷◌, length, take, drop, slice_index, slice_index_or, false}
use Rattle.disk.specs.declared.fault.DiskFault.{DiskFault}
use Rattle.disk.specs.Disk.{DiskState, Call, Attach, Read, Write, Sync, Answer, Done, Fault}
use Rattle.disk.specs.Crash.{IsWhole, MayLeave}
use Rattle.torn_block.specs.Layout.{cluster_version, number_of}
use Rattle.torn_block.specs.declared.layout.TheConstants.{HEADER_LENGTH}
use Rattle.paxos_block.specs.declared.header.Header.{Header}
use Rattle.paxos_block.specs.Headers as older
use Rattle.endless_image.specs.declared.header.TheConstants.{ENDLESS_VERSION, VERSION_AT, MARK_AT}
use Rattle.endless_image.specs.declared.header.EndlessHeader.{EndlessHeader}
use Rattle.endless_image.specs.declared.in_place.TheConstants.{MARKED}
use Rattle.endless_image.specs.declared.size.TheConstants.{LEAST_SLOTS}
use Rattle.endless_image.specs.Headers.{IsEndlessHeader, header_with}
use Rattle.endless_image.specs.Sizes.{area_size, size_of}

-- THE CALLS

-- Before them the image is as long as it will be, what follows the old image is zeros, and all of it is synced. It is marked, then its version is written, then the mark is taken
-- away: a byte each time, and a sync.
abbrev pub making : ℕ → List Call
making boot =
    Write boot MARK_AT (MARKED ∷ []) ∷ Sync boot ∷ Write boot VERSION_AT (ENDLESS_VERSION ∷ []) ∷ Sync boot ∷ Write boot MARK_AT (0 ∷ []) ∷ Sync boot ∷ []

-- those that are left where it is marked
abbrev pub finishing : ℕ → List Call
finishing boot = drop 1 (making boot)

-- each is answered well
abbrev pub AllDone : {D : Type 0} → (D → Call → Answer → D → Type 0) → List Call → D → D → Type 0
AllDone gives [] old new = new ≡ old
AllDone {D} gives (call ∷ calls) old new = (between : D) × gives old call Done between × AllDone gives calls between new

-- one is answered with this fault, and each before it was answered well
abbrev pub StopsBy : {D : Type 0} → (D → Call → Answer → D → Type 0) → List Call → DiskFault → D → D → Type 0
StopsBy gives [] fault old new = ⊥
StopsBy {D} gives (call ∷ calls) fault old new =
    gives old call (Fault fault) new ⊎ ((between : D) × gives old call Done between × StopsBy gives calls fault between new)

-- they are made up to some call, which may be answered in any way, and each before it is answered well
abbrev pub EndsWithin : {D : Type 0} → (D → Call → Answer → D → Type 0) → List Call → D → D → Type 0
EndsWithin gives [] old new = new ≡ old
EndsWithin {D} gives (call ∷ calls) old new =
    (new ≡ old) ⊎ ((answer : Answer) × gives old call answer new) ⊎ ((between : D) × gives old call Done between × EndsWithin gives calls between new)

-- WHAT IS LEFT

-- Of the image's bytes these two are so, and all others are as they were.
pub record IsPatched (version mark : ℕ) (old bytes : List ℕ) : Type 0 where
  pub as_many : length bytes ≡ length old
  pub at_version : slice_index bytes VERSION_AT ≡ version
  pub at_mark : slice_index bytes MARK_AT ≡ mark
  pub others : (p : ℕ) → p ≢ VERSION_AT → p ≢ MARK_AT → slice_index bytes p ≡ slice_index old p

-- it is marked, and of some version
abbrev pub IsMarked : (old bytes : List ℕ) → Type 0
IsMarked old bytes = (version mark : ℕ) × (mark ≢ 0) × IsPatched version mark old bytes

-- it has the new version, and no mark
abbrev pub IsNew : (old bytes : List ℕ) → Type 0
IsNew old bytes = IsPatched ENDLESS_VERSION 0 old bytes

-- the old image, or one that is marked, or the new one
abbrev pub IsLeft : (old bytes : List ℕ) → Type 0
IsLeft old bytes = (bytes ≡ old) ⊎ IsMarked old bytes ⊎ IsNew old bytes

-- so it is on a disk, and after a crash
abbrev pub Leaves : List ℕ → DiskState → Type 0
Leaves old disk = (bytes : List ℕ) → MayLeave disk bytes → IsLeft old bytes

-- The old image on a disk, before these calls: its version is that of the cluster's layout, it has no mark, and all of it is synced.
pub record IsReady (old : List ℕ) (disk : DiskState) : Type 0 where
  pub header : HEADER_LENGTH ≤ length old
  pub version : slice_index old VERSION_AT ≡ number_of cluster_version
  pub mark : slice_index old MARK_AT ≡ 0
  pub whole : IsWhole disk
  pub bytes : disk.bytes ≡ old
  pub synced : (p : ℕ) → slice_index_or disk.unsynced p false ≡ false

-- An image that is marked on a disk, whatever became of it until now.
pub record IsBegun (old : List ℕ) (disk : DiskState) : Type 0 where
  pub header : HEADER_LENGTH ≤ length old
  pub whole : IsWhole disk
  pub marked : IsMarked old disk.bytes
  pub leaves : Leaves old disk

-- WHAT IS BEFORE

-- these are the first bytes of whatever a crash leaves, and the disk is longer
pub record BeginsSurely (old : List ℕ) (disk : DiskState) : Type 0 where
  pub whole : IsWhole disk
  pub room : length old ≤ length disk.bytes
  pub same : (bytes : List ℕ) → MayLeave disk bytes → take (length old) bytes ≡ old

-- the call writes behind them, or nothing
abbrev pub IsBehind : List ℕ → DiskState → Call → Type 0
IsBehind old disk Attach = Unit {0}
IsBehind old disk (Read boot at len) = Unit {0}
IsBehind old disk (Write boot at from) = (length old ≤ at) × (at + length from ≤ length disk.bytes)
IsBehind old disk (Sync boot) = Unit {0}

-- THE OLD IMAGE AND THE NEW ONE

-- the header of the new image
abbrev pub endless_of : Header → EndlessHeader
endless_of header = record { disk = header.disk; disks = header.disks; slots = header.slots; cluster = header.cluster; first_epoch = 0 }

-- A right image of a log that ends, whose slots are enough for an epoch, with zeros behind it up to the new length.
pub record IsExtended (disk : ℕ) (header : Header) (old : List ℕ) : Type 0 where
  pub right : older.IsRight cluster_version disk (area_size header.slots) (take HEADER_LENGTH old) header
  pub slots : LEAST_SLOTS ≤ header.slots
  pub long : length old ≡ size_of header.slots
  pub zeros : (p : ℕ) → area_size header.slots ≤ p → slice_index old p ≡ 0

-- WHAT IS FOUND

-- A disk of this length, with these first bytes, has the old image, of enough slots, in its first bytes.
pub record IsEnding (disk long : ℕ) (bytes : List ℕ) (header : Header) : Type 0 where
  pub right : older.IsRight cluster_version disk (area_size header.slots) bytes header
  pub slots : LEAST_SLOTS ≤ header.slots
  pub room : area_size header.slots ≤ long

-- Or one that is marked, with room for the new image.
pub record IsUnfinished (disk long : ℕ) (bytes : List ℕ) (header : EndlessHeader) : Type 0 where
  pub version : ℕ
  pub mark : ℕ
  pub marked : mark ≢ 0
  pub may_be : IsEndlessHeader header
  pub fits : header.cluster < 2 ^ 64
  pub named : header.disk ≡ disk
  pub first : header.first_epoch ≡ 0
  pub room : size_of header.slots ≤ long
  pub spelled : bytes ≡ header_with version mark header
