-- A device of sectors by itself: what each sector has and has had, and what happens to it, each thing at one moment.
use Rattle.std.specs.Prelude.{◌≡◌, ◌⊎◌, ◌==◌, ◌+◌, ◌*◌, ℕ, Bool, true, false, List, [], ◌∷◌, Contains, Option, None, Some, if◌then◌else◌}
use Rattle.paxos_block.specs.Places.{Spot, BeatOf, VoteOf}
use Rattle.world.specs.Entry.{Filled, Crashed, is_of}
use Rattle.sectors.specs.declared.geometry.Geometry.{Geometry}
use Rattle.sectors.specs.Moments.{Sectors, Touch, Sees, Puts, Tries, Keeps, Goes}
use Rattle.sectors.specs.Places.{RowOf, BeatsRow, SlotRow}

-- SECTORS BY NUMBER

-- a row's first sector, where the heartbeat blocks' row comes first
abbrev pub first_of : Geometry → RowOf → ℕ
first_of geometry BeatsRow = 0
first_of geometry (SlotRow slot) = geometry.hosts * (slot + 1)

-- the sector of a block
abbrev pub sector_of : Geometry → Spot → ℕ
sector_of geometry (BeatOf host) = host
sector_of geometry (VoteOf slot host) = geometry.hosts * (slot + 1) + host

-- WHAT A DEVICE HAS

-- what each sector has; what else it has had since the last sync, or was to have by a write; and whether the device is lost
pub record Device : Type 0 where
  pub now : Sectors
  pub since : ℕ → List (List ℕ)
  pub gone : Bool

-- the device is lost for good
abbrev pub lost : Device → Device
lost old = record { now = old.now; since = old.since; gone = true }

-- what the sectors have had, once one is written, or is not though it was to be
abbrev pub noted : ℕ → List ℕ → Device → ℕ → List (List ℕ)
noted s bytes old t = if t == s then old.now t ∷ bytes ∷ old.since t else old.since t

-- and once there was this touch: a sync makes all last that sectors have
abbrev pub since_by : Device → Touch → ℕ → List (List ℕ)
since_by old (Sees s bytes) = old.since
since_by old (Puts s bytes) = noted s bytes old
since_by old (Tries s bytes) = noted s bytes old
since_by old Keeps = λ t. []

-- a touch, if there is one, leads from this device to that
abbrev pub GoesBy : Option Touch → Device → Device → Type 0
GoesBy None old new = new ≡ old
GoesBy (Some touch) old new = Goes old.now touch new.now × (new.since ≡ since_by old touch) × (new.gone ≡ old.gone)

-- The device restarts. Each sector has what it had, or something that it has had since the last sync.
pub record Restarts (old new : Device) : Type 0 where
  pub kept : (s : ℕ) → (new.now s ≡ old.now s) ⊎ Contains (old.since s) (new.now s)
  pub since : new.since ≡ (λ s. [])
  pub gone : new.gone ≡ old.gone

-- WHAT HAPPENS TO IT

-- A host reads a sector, which has these bytes. A call takes effect, by this touch or by none; so does a restart, or the loss of the device.
pub data Moment : Type 0 where
  Reads : (sector : ℕ) → (bytes : List ℕ) → Moment
  Effect : (entry : Filled) → (by : Option Touch) → Moment

-- the calls that take effect
abbrev pub effects : List Moment → List Filled
effects [] = []
effects (Reads s bytes ∷ moments) = effects moments
effects (Effect entry by ∷ moments) = entry ∷ effects moments

-- FROM ONE MOMENT ON, OR BACK FROM IT

-- by this entry the device does not restart
abbrev pub GoesOn : Filled → Type 0
GoesOn (Crashed d left) = ⊥
GoesOn other = Unit {0}

-- at one of these moments, before the device restarts, the sector is read and has these bytes
abbrev pub IsSeen : ℕ → List ℕ → List Moment → Type 0
IsSeen s bytes [] = ⊥
IsSeen s bytes (Reads t got ∷ moments) = ((t ≡ s) × (got ≡ bytes)) ⊎ IsSeen s bytes moments
IsSeen s bytes (Effect entry by ∷ moments) = GoesOn entry × IsSeen s bytes moments

-- and that before another call of this host takes effect
abbrev pub IsSeenBy : ℕ → ℕ → List ℕ → List Moment → Type 0
IsSeenBy h s bytes [] = ⊥
IsSeenBy h s bytes (Reads t got ∷ moments) = ((t ≡ s) × (got ≡ bytes)) ⊎ IsSeenBy h s bytes moments
IsSeenBy h s bytes (Effect entry by ∷ moments) = GoesOn entry × (is_of h entry ≡ false) × IsSeenBy h s bytes moments
