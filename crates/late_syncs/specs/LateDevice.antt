-- A device of sectors that lets syncs come late, by itself.
use Rattle.std.specs.Prelude.{◌≡◌, ◌⊎◌, ◌||◌, ℕ, Bool, false, List, [], ◌∷◌, length, nat_lt, Option, Some}
use Rattle.paxos_block.specs.Shape.{Shape}
use Rattle.world.specs.Entry.{Filled, Called, Torn, Crashed}
use Rattle.sectors.specs.declared.geometry.Geometry.{Geometry}
use Rattle.sectors.specs.Moments as touches
use Rattle.sectors.specs.Moments.{Touch, Sees}
use Rattle.sector_runs.specs.Device.{Device, GoesBy, Reads, Effect, effects}
use Rattle.sector_runs.specs.Device as sector
use Rattle.sector_runs.specs.Touches.{Answers, IsCutOff, TakesEffect, ServesBySectors}
use Rattle.late_syncs.specs.Late.{Moment, Takes, Keeps, entries_of}

-- the device as it is, and of each sector whether a sync that is answered well has still to keep it
pub record LateDevice : Type 0 where
  pub device : Device
  pub owes : ℕ → Bool

-- at first it owes nothing
abbrev pub at_first : Device → LateDevice
at_first device = record { device = device; owes = λ s. false }

abbrev pub OwesNothing : LateDevice → Type 0
OwesNothing late = (s : ℕ) → late.owes s ≡ false

-- since the last sync the sector has had something else
abbrev pub is_unsynced : Device → ℕ → Bool
is_unsynced device s = nat_lt 0 (length (device.since s))

-- A sync is asked for. Nothing is kept yet, and all that is unsynced is owed.
pub record IsAskedFor (old new : LateDevice) : Type 0 where
  pub same : new.device ≡ old.device
  pub owes : (s : ℕ) → new.owes s ≡ (old.owes s || is_unsynced old.device s)

-- a touch, if there is one, leads from this device to that
abbrev pub GoesByLate : Option Touch → LateDevice → LateDevice → Type 0
GoesByLate (Some touches.Keeps) old new = IsAskedFor old new
GoesByLate by old new = GoesBy by old.device new.device × (new.owes ≡ old.owes)

-- the device goes from old to new by this entry. It doesn't restart while it owes something.
abbrev pub TakesEffectLate : Shape → ℕ → Geometry → List sector.Moment → List sector.Moment → LateDevice → Filled → Option Touch → LateDevice → Type 0
TakesEffectLate c k geometry past future old (Called h d call answer left) by new = Answers geometry h past future old.device.gone call answer by × GoesByLate by old new
TakesEffectLate c k geometry past future old (Torn h d call left) by new = IsCutOff geometry h past old.device.gone call by × GoesByLate by old new
TakesEffectLate c k geometry past future old (Crashed d left) by new =
    OwesNothing old × TakesEffect c k geometry past future old.device (Crashed d left) by new.device × (new.owes ≡ old.owes)
TakesEffectLate c k geometry past future old other by new = TakesEffect c k geometry past future old.device other by new.device × (new.owes ≡ old.owes)

abbrev pub HappensLate : Shape → ℕ → Geometry → List sector.Moment → List sector.Moment → LateDevice → sector.Moment → LateDevice → Type 0
HappensLate c k geometry past future old (Reads s bytes) new = GoesByLate (Some (Sees s bytes)) old new
HappensLate c k geometry past future old (Effect entry by) new = TakesEffectLate c k geometry past future old entry by new

-- the sector is as it was
abbrev pub Stays : LateDevice → LateDevice → ℕ → Type 0
Stays old new s = (new.device.since s ≡ old.device.since s) × (new.owes s ≡ old.owes s)

-- what it has lasts from now on, and is owed no more
abbrev pub Lasts : LateDevice → ℕ → Type 0
Lasts new s = (new.device.since s ≡ []) × (new.owes s ≡ false)

-- Some sectors are written back.
pub record WritesBack (old new : LateDevice) : Type 0 where
  pub now : new.device.now ≡ old.device.now
  pub each : (s : ℕ) → Stays old new s ⊎ Lasts new s
  pub gone : new.device.gone ≡ old.device.gone

-- one after another, behind these moments, the last of which is first
abbrev pub GoesThroughLate : Shape → ℕ → Geometry → List sector.Moment → LateDevice → List (Moment sector.Moment) → Type 0
GoesThroughLate c k geometry past old [] = Unit {0}
GoesThroughLate c k geometry past old (Takes moment ∷ future) =
    (new : LateDevice) × HappensLate c k geometry past (entries_of future) old moment new × GoesThroughLate c k geometry (moment ∷ past) new future
GoesThroughLate c k geometry past old (Keeps ∷ future) = (new : LateDevice) × WritesBack old new × GoesThroughLate c k geometry past new future

-- A device, by itself, has served these calls, late syncs and all: by some history of its sectors.
pub record ServesBySectorsLate (c : Shape) (k : ℕ) (geometry : Geometry) (first : Device) (calls : List Filled) : Type 0 where
  pub history : List (Moment sector.Moment)
  pub same : calls ≡ effects (entries_of history)
  pub goes : GoesThroughLate c k geometry [] (at_first first) history

-- Then it has served them as one whose syncs take effect where they were asked for.
abbrev pub LateDevicesServe : Type 0
LateDevicesServe =
    (c : Shape) (k : ℕ) (geometry : Geometry) (device : Device) (calls : List Filled) → ServesBySectorsLate c k geometry device calls → ServesBySectors c k geometry device calls

-- None of those is left out.
abbrev pub DevicesMayBeLate : Type 0
DevicesMayBeLate =
    (c : Shape) (k : ℕ) (geometry : Geometry) (device : Device) (calls : List Filled) → ServesBySectors c k geometry device calls → ServesBySectorsLate c k geometry device calls
