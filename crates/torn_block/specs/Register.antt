-- A block as a register: what a read of it gives at a moment, and after a crash at that moment, in each layout.
use Rattle.std.specs.Prelude.{◌≡◌, ◌⊎◌, ◌+◌, ◌≤◌, ℕ, List, length, Option, Some, None}
use Rattle.disk.specs.Disk.{DiskState, Call, Attach, Read, Write, Sync}
use Rattle.disk.specs.Crash.{MayLeave}
use Rattle.torn_block.specs.Layout.{Version, block_length}
use Rattle.torn_block.specs.Block.{value_of}
use Rattle.torn_block.specs.Place.{block_in}

-- a value is none for a blank block, else its sequence number and body
abbrev pub Value : Type 0
Value = Option (ℕ × List ℕ)

-- a confirmed value, and at most one in writing
pub record Register : Type 0 where
  pub confirmed : Value
  pub writing : Option Value

-- a read gives the confirmed value, or the one in writing
abbrev pub Reads : Register → Value → Type 0
Reads r value = (value ≡ r.confirmed) ⊎ (Some value ≡ r.writing)

-- nothing is in writing, and this is the value
abbrev pub at_rest : Value → Register
at_rest value = record { confirmed = value; writing = None }

-- THE STEPS OF A REGISTER

-- a write begins, where none is in writing
pub record Begins (value : Value) (old new : Register) : Type 0 where
  pub rests : old.writing ≡ None
  pub begun : new ≡ record { confirmed = old.confirmed; writing = Some value }

-- the value in writing becomes the confirmed one
pub record Confirms (old new : Register) : Type 0 where
  pub value : Value
  pub written : old.writing ≡ Some value
  pub confirmed : new ≡ at_rest value

-- the value in writing vanishes
pub record Drops (old new : Register) : Type 0 where
  pub value : Value
  pub written : old.writing ≡ Some value
  pub dropped : new ≡ at_rest old.confirmed

-- a value in writing is confirmed or dropped; where there is none, nothing changes
abbrev pub Settles : Register → Register → Type 0
Settles old new = Confirms old new ⊎ (Drops old new ⊎ ((old.writing ≡ None) × (new ≡ old)))

-- A REGISTER ON A DISK

-- at this moment, and after a crash at this moment, the block reads as the register allows
abbrev pub StandsFor : Version → ℕ → Register → DiskState → Type 0
StandsFor v place r disk = (bytes : List ℕ) → MayLeave disk bytes → Reads r (value_of v (block_in v place bytes))

-- a crash at this moment leaves the block as it is now
abbrev pub IsAtRest : Version → ℕ → DiskState → Type 0
IsAtRest v place disk = (bytes : List ℕ) → MayLeave disk bytes → block_in v place bytes ≡ block_in v place disk.bytes

-- the block lies on the disk
abbrev pub LiesOn : Version → ℕ → DiskState → Type 0
LiesOn v place disk = place + block_length v ≤ length disk.bytes

-- a range lies before the block or behind it
abbrev pub IsOutside : Version → ℕ → ℕ → ℕ → Type 0
IsOutside v place at n = (at + n ≤ place) ⊎ (place + block_length v ≤ at)

-- the call writes nothing of the block
abbrev pub LeavesBlock : Version → ℕ → Call → Type 0
LeavesBlock v place Attach = Unit {0}
LeavesBlock v place (Read boot at len) = Unit {0}
LeavesBlock v place (Write boot at from) = IsOutside v place at (length from)
LeavesBlock v place (Sync boot) = Unit {0}
