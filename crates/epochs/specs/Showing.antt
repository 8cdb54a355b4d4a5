-- What an area of a disk shows of an epoch: an image of its own, in which each host has blocks only once it has come to the epoch.
use Rattle.std.specs.Prelude.{◌≡◌, ◌⊎◌, ◌+◌, ◌≤◌, ◌<◌, ◌%◌, ℕ, Bool, true, false, length, slice_index_or}
use Rattle.disk.specs.Disk.{DiskState, Call, Attach, Read, Write, Sync}
use Rattle.disk.specs.Crash.{IsWhole}
use Rattle.disk.specs.Steps.{HasShape}
use Rattle.torn_block.specs.declared.layout.TheConstants.{ROW_LENGTH}
pub use Rattle.standings.specs.Epochs.{host_at}
pub use Rattle.standings.specs.Reading.{moved, masked_in}
unfoldable pub use Rattle.standings.specs.Reading.{masked}

-- On a disk a host has not come to the epoch, or it is in it, or it has left it for a later one that has the same area.
pub data Standing : Type 0 where
  Before : Standing
  Inside : Standing
  After : Standing

-- The area begins `base` bytes on in the whole disk, with the row in which hosts say where they stand. Behind that row the image is what the
-- area has in blocks of hosts that are inside, and zeros for those that have not come. Of the blocks of hosts that have left nothing is said. What
-- is synced in the image is synced on the disk, where a sync for another epoch may have made sure of more.
pub record ShowsEpoch (n base : ℕ) (of : ℕ → Standing) (whole image : DiskState) : Type 0 where
  pub room : base + n ≤ length whole.bytes
  pub marked : IsWhole whole
  pub shape : HasShape n image
  pub boot : image.boot ≡ whole.boot
  pub gone : image.gone ≡ whole.gone
  pub bytes : (p : ℕ) → ROW_LENGTH ≤ p → p < n → of (host_at p) ≡ Inside → slice_index_or image.bytes p 0 ≡ slice_index_or whole.bytes (base + p) 0
  pub flags : (p : ℕ) → ROW_LENGTH ≤ p → p < n → of (host_at p) ≡ Inside → slice_index_or image.unsynced p false ≡ false → slice_index_or whole.unsynced (base + p) false ≡ false
  pub blank : (p : ℕ) → p < n → (p < ROW_LENGTH) ⊎ (of (host_at p) ≡ Before) → slice_index_or image.bytes p 0 ≡ 0
  pub still : (p : ℕ) → p < n → (p < ROW_LENGTH) ⊎ (of (host_at p) ≡ Before) → slice_index_or image.unsynced p false ≡ false

-- WHAT A HOST OF THE EPOCH DOES

-- a host's blocks in these n bytes of the image are those of the area
abbrev pub Agrees : (base at n : ℕ) → (host : ℕ) → DiskState → DiskState → Type 0
Agrees base at n host whole image = (p : ℕ) → at ≤ p → p < at + n → host_at p ≡ host → slice_index_or image.bytes p 0 ≡ slice_index_or whole.bytes (base + p) 0

-- or they are zeros
abbrev pub AreZeros : (at n : ℕ) → (host : ℕ) → DiskState → Type 0
AreZeros at n host image = (p : ℕ) → at ≤ p → p < at + n → host_at p ≡ host → slice_index_or image.bytes p 0 ≡ 0

-- who is shown is shown as it is, and who is not has zeros there
abbrev pub IsRight : (base at n : ℕ) → (ℕ → Bool) → DiskState → DiskState → Type 0
IsRight base at n shown whole image =
    (host : ℕ) → ((shown host ≡ true) × Agrees base at n host whole image) ⊎ ((shown host ≡ false) × AreZeros at n host image)

-- A call of the host reads a whole row of the image, and is shown it rightly, or writes in blocks of hosts that are inside.
abbrev pub IsOf : (n base : ℕ) → (ℕ → Standing) → (ℕ → Bool) → DiskState → DiskState → Call → Type 0
IsOf n base of shown whole image Attach = Unit {0}
IsOf n base of shown whole image (Read boot at len) = (at % ROW_LENGTH ≡ 0) × (at + len ≤ n) × IsRight base at len shown whole image
IsOf n base of shown whole image (Write boot at from) =
    (ROW_LENGTH ≤ at) × (at + length from ≤ n) × ((p : ℕ) → at ≤ p → p < at + length from → of (host_at p) ≡ Inside)
IsOf n base of shown whole image (Sync boot) = Unit {0}

-- WHAT ELSE IS DONE TO THE DISK

-- the call writes nothing of a host that is inside: it is of another area, or of a row of standings, or of a block that its host clears
abbrev pub IsElsewhere : (n base : ℕ) → (ℕ → Standing) → DiskState → Call → Type 0
IsElsewhere n base of whole Attach = Unit {0}
IsElsewhere n base of whole (Read boot at len) = Unit {0}
IsElsewhere n base of whole (Write boot at from) =
    (at + length from ≤ length whole.bytes) × ((p : ℕ) → ROW_LENGTH ≤ p → p < n → of (host_at p) ≡ Inside → (base + p < at) ⊎ (at + length from ≤ base + p))
IsElsewhere n base of whole (Sync boot) = Unit {0}

-- a host's blocks in the area are zeros, and synced
pub record IsCleared (n base host : ℕ) (whole : DiskState) : Type 0 where
  pub bytes : (p : ℕ) → ROW_LENGTH ≤ p → p < n → host_at p ≡ host → slice_index_or whole.bytes (base + p) 0 ≡ 0
  pub flags : (p : ℕ) → ROW_LENGTH ≤ p → p < n → host_at p ≡ host → slice_index_or whole.unsynced (base + p) false ≡ false

-- A host stands as it did, or it has left, or it has come, with cleared blocks.
abbrev pub Restands : (n base host : ℕ) → Standing → Standing → DiskState → Type 0
Restands n base host old new whole = (new ≡ old) ⊎ (new ≡ After) ⊎ ((old ≡ Before) × (new ≡ Inside) × IsCleared n base host whole)
