-- What happens to the sectors of a device, each thing at one moment.
use Rattle.std.specs.Prelude.{◌≡◌, ◌⊎◌, ◌==◌, ◌+◌, ◌^◌, ◌≤◌, ◌<◌, ℕ, List, [], ◌∷◌, ◌++◌, length, if◌then◌else◌}
use Rattle.torn_block.specs.declared.layout.TheConstants.{BLOCK_LENGTH}
use Rattle.sectors.specs.declared.sector.TheConstants.{STAMPED_LENGTH}
use Rattle.sectors.specs.Sector.{stamp_of, sector_with}

-- what each sector has, by its number
abbrev pub Sectors : Type 0
Sectors = ℕ → List ℕ

-- a sector is read and has these bytes; it is written; a write of it fails or is cut off; a sync
pub data Touch : Type 0 where
  Sees : (sector : ℕ) → (bytes : List ℕ) → Touch
  Puts : (sector : ℕ) → (bytes : List ℕ) → Touch
  Tries : (sector : ℕ) → (bytes : List ℕ) → Touch
  Keeps : Touch

-- this sector has these bytes, and no other is changed
abbrev pub changed : ℕ → List ℕ → Sectors → Sectors
changed s bytes old t = if t == s then bytes else old t

-- a sector whose write failed is as it was before or as it was to be
abbrev pub Goes : Sectors → Touch → Sectors → Type 0
Goes old (Sees s bytes) new = (bytes ≡ old s) × (new ≡ old)
Goes old (Puts s bytes) new = new ≡ changed s bytes old
Goes old (Tries s bytes) new = (new ≡ old) ⊎ (new ≡ changed s bytes old)
Goes old Keeps new = new ≡ old

-- The bytes are what a write of some bytes of the block makes of the sector as it is, and the stamp is the next.
pub record IsStamped (old bytes : List ℕ) : Type 0 where
  pub offset : ℕ
  pub from : List ℕ
  pub long : STAMPED_LENGTH ≤ length old
  pub within : offset + length from ≤ BLOCK_LENGTH
  pub unspent : stamp_of old + 1 < 2 ^ 64
  pub made : bytes ≡ sector_with offset from old

-- each write is such a write
abbrev pub WritesStamped : Sectors → Touch → Type 0
WritesStamped old (Sees s bytes) = Unit {0}
WritesStamped old (Puts s bytes) = IsStamped (old s) bytes
WritesStamped old (Tries s bytes) = IsStamped (old s) bytes
WritesStamped old Keeps = Unit {0}

-- each sector is as it was, or has a greater stamp
abbrev pub Raises : Sectors → Sectors → Type 0
Raises old new = (t : ℕ) → (new t ≡ old t) ⊎ (stamp_of (old t) < stamp_of (new t))

-- these touches, one after another, lead from these sectors to those, and each write is stamped
abbrev pub Leads : Sectors → List Touch → Sectors → Type 0
Leads old [] new = new ≡ old
Leads old (x ∷ xs) new = (between : Sectors) × Goes old x between × WritesStamped old x × Leads between xs new

-- Somewhere among the touches the sector is read, and has these bytes.
pub record IsSeen (s : ℕ) (bytes : List ℕ) (touches : List Touch) : Type 0 where
  pub before : List Touch
  pub after : List Touch
  pub same : touches ≡ before ++ (Sees s bytes ∷ after)
