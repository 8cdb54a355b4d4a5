-- How the calls on an image become touches of a device's sectors.
use Rattle.std.specs.Prelude.{◌≡◌, ◌⊎◌, ◌+◌, ◌<◌, ◌^◌, ℕ, Bool, true, false, List, [], ◌∷◌, length, Option, None, Some}
use Rattle.disk.specs.declared.fault.DiskFault.TheVariants.{Reset, Failed, Gone}
use Rattle.disk.specs.Disk.{Call, Attach, Read, Write, Sync, Answer, Booted, Told, Done, Fault, IsUnder}
use Rattle.torn_block.specs.declared.layout.TheConstants.{ROW_LENGTH}
use Rattle.paxos_block.specs.Places.{Spot}
use Rattle.paxos_block.specs.Shape.{Shape}
use Rattle.world.specs.Entry.{Filled, Called, Torn, Crashed, Lost}
use Rattle.sectors.specs.declared.geometry.Geometry.{Geometry}
use Rattle.sectors.specs.Moments.{Touch, Sees, Puts, Tries, Keeps}
use Rattle.sectors.specs.Places.{IsSpot, IsWithin, RowOf, IsRow, image_row}
use Rattle.sectors.specs.Row.{IsRowOf, Agree, sector_in}
use Rattle.sectors.specs.Sector.{stamp_of, sector_with}
use Rattle.sector_runs.specs.Device.{Device, Moment, Reads, Effect, GoesBy, Restarts, IsSeen, IsSeenBy, effects, first_of, sector_of, lost}

-- ONE CALL, by the moments before it, the last first, and by those after it

-- A row of the image is read: before this moment each of its sectors is seen, and after it each once again, all alike.
pub record IsReadTwice (geometry : Geometry) (past future : List Moment) (at len : ℕ) (bytes : List ℕ) : Type 0 where
  pub row : RowOf
  pub is_row : IsRow geometry row
  pub here : at ≡ image_row row
  pub whole : len ≡ ROW_LENGTH
  pub one : List ℕ
  pub other : List ℕ
  pub before : (host : ℕ) → host < geometry.hosts → IsSeen (first_of geometry row + host) (sector_in geometry host one) past
  pub after : (host : ℕ) → host < geometry.hosts → IsSeen (first_of geometry row + host) (sector_in geometry host other) future
  pub agree : Agree geometry one other
  pub gathered : IsRowOf geometry one bytes

-- Some bytes of an image lie within this block.
pub record IsInBlock (geometry : Geometry) (at long : ℕ) : Type 0 where
  pub spot : Spot
  pub offset : ℕ
  pub is_spot : IsSpot geometry spot
  pub within : IsWithin spot offset at long

-- A host's write of them is to give this sector these bytes: the host has seen it, in this call, and they are put into what was seen,
-- with the next stamp.
pub record IsToPut (geometry : Geometry) (h : ℕ) (past : List Moment) (at : ℕ) (from : List ℕ) (s : ℕ) (bytes : List ℕ) : Type 0 where
  pub block : IsInBlock geometry at (length from)
  pub sector : s ≡ sector_of geometry block.spot
  pub was : List ℕ
  pub seen : IsSeenBy h s was past
  pub unspent : stamp_of was + 1 < 2 ^ 64
  pub made : bytes ≡ sector_with block.offset from was

-- a write that fails or is cut off tries to put them, or has not come so far
abbrev pub PutsOrNot : Geometry → ℕ → List Moment → ℕ → List ℕ → Option Touch → Type 0
PutsOrNot geometry h past at from by =
    IsInBlock geometry at (length from) × ((by ≡ None) ⊎ (s : ℕ) × (bytes : List ℕ) × (by ≡ Some (Tries s bytes)) × IsToPut geometry h past at from s bytes)

-- one that succeeds puts them; where there are none, nothing is touched
abbrev pub PutsAll : Geometry → ℕ → List Moment → ℕ → List ℕ → Option Touch → Type 0
PutsAll geometry h past at from by =
    (IsInBlock geometry at (length from) × (from ≡ []) × (by ≡ None)) ⊎ (s : ℕ) × (bytes : List ℕ) × (by ≡ Some (Puts s bytes)) × IsToPut geometry h past at from s bytes

-- a call that succeeds has this answer, and takes effect by this touch
abbrev pub Succeeds : Geometry → ℕ → List Moment → List Moment → Call → Answer → Option Touch → Type 0
Succeeds geometry h past future Attach answer by = (answer ≡ Booted 1) × (by ≡ None)
Succeeds geometry h past future (Read boot at len) answer by =
    (bytes : List ℕ) × (answer ≡ Told bytes) × (by ≡ None) × IsReadTwice geometry past future at len bytes
Succeeds geometry h past future (Write boot at from) answer by = (answer ≡ Done) × PutsAll geometry h past at from by
Succeeds geometry h past future (Sync boot) answer by = (answer ≡ Done) × (by ≡ Some Keeps)

-- one that fails
abbrev pub Fails : Geometry → ℕ → List Moment → Call → Option Touch → Type 0
Fails geometry h past Attach by = by ≡ None
Fails geometry h past (Read boot at len) by = by ≡ None
Fails geometry h past (Write boot at from) by = PutsOrNot geometry h past at from by
Fails geometry h past (Sync boot) by = by ≡ None

-- each device has boot number 1, and no call is refused for another; one that is lost tells so
abbrev pub Answers : Geometry → ℕ → List Moment → List Moment → Bool → Call → Answer → Option Touch → Type 0
Answers geometry h past future gone call (Fault Gone) by = (gone ≡ true) × (by ≡ None)
Answers geometry h past future gone call (Fault Reset) by = ⊥
Answers geometry h past future gone call (Fault Failed) by = (gone ≡ false) × IsUnder call 1 × Fails geometry h past call by
Answers geometry h past future gone call answer by = (gone ≡ false) × IsUnder call 1 × Succeeds geometry h past future call answer by

-- a write within which its host stops
abbrev pub IsCutOff : Geometry → ℕ → List Moment → Bool → Call → Option Touch → Type 0
IsCutOff geometry h past gone Attach by = ⊥
IsCutOff geometry h past gone (Read boot at len) by = ⊥
IsCutOff geometry h past gone (Write boot at from) by = (gone ≡ false) × (boot ≡ 1) × PutsOrNot geometry h past at from by
IsCutOff geometry h past gone (Sync boot) by = ⊥

-- ALL OF THEM

-- device k goes from old to new by this entry, which takes effect by this touch or by none
abbrev pub TakesEffect : Shape → ℕ → Geometry → List Moment → List Moment → Device → Filled → Option Touch → Device → Type 0
TakesEffect c k geometry past future old (Called h d call answer left) by new =
    Answers geometry h past future old.gone call answer by × GoesBy by old new
TakesEffect c k geometry past future old (Torn h d call left) by new = IsCutOff geometry h past old.gone call by × GoesBy by old new
TakesEffect c k geometry past future old (Crashed d left) by new = (k < c.disks) × (old.gone ≡ false) × (by ≡ None) × Restarts old new
TakesEffect c k geometry past future old (Lost d) by new = (k < c.disks) × (old.gone ≡ false) × (by ≡ None) × (new ≡ lost old)
TakesEffect c k geometry past future old other by new = ⊥

-- it goes from old to new at this moment
abbrev pub Happens : Shape → ℕ → Geometry → List Moment → List Moment → Device → Moment → Device → Type 0
Happens c k geometry past future old (Reads s bytes) new = GoesBy (Some (Sees s bytes)) old new
Happens c k geometry past future old (Effect entry by) new = TakesEffect c k geometry past future old entry by new

-- one after another, behind these moments, the last of which is first
abbrev pub GoesThrough : Shape → ℕ → Geometry → List Moment → Device → List Moment → Type 0
GoesThrough c k geometry past old [] = Unit {0}
GoesThrough c k geometry past old (moment ∷ future) =
    (new : Device) × Happens c k geometry past future old moment new × GoesThrough c k geometry (moment ∷ past) new future

-- A device, by itself, has served these calls: by some history of its sectors.
pub record ServesBySectors (c : Shape) (k : ℕ) (geometry : Geometry) (first : Device) (calls : List Filled) : Type 0 where
  pub history : List Moment
  pub same : calls ≡ effects history
  pub goes : GoesThrough c k geometry [] first history
