-- What hosts use of an image: not its header, and nothing behind its last slot.
use Rattle.std.specs.Prelude.{◌≡◌, ◌+◌, ◌-◌, ℕ, false, List, ◌++◌, length, map, drop, replicate}
use Rattle.disk.specs.Disk.{DiskState}
use Rattle.disk.specs.Cut.{cut}
use Rattle.disk.specs.Simulated.{fresh_disk}
use Rattle.torn_block.specs.Layout.{cluster_version}
use Rattle.torn_block.specs.declared.layout.TheConstants.{HEADER_LENGTH}
use Rattle.paxos_block.specs.Places.{image_length}
use Rattle.migration.specs.Fits.{Fits}
use Rattle.paxos_block.specs.Image.{Setup}
use Rattle.migration.specs.Run.{IsMigrated}
use Rattle.lock_command.specs.declared.command.Command.{Command}
use Rattle.lock_command.specs.Command.{spelling}
use Rattle.world.specs.Entry.{migrated_to}

-- the same list with this item in each of its first places
unfoldable pub headed : {A : Type 0} → ℕ → A → List A → List A
headed places x items = replicate places x ++ drop places items

-- the same disk with a header of zeros
abbrev pub headless : DiskState → DiskState
headless disk =
    record { bytes = headed HEADER_LENGTH 0 disk.bytes; unsynced = headed HEADER_LENGTH false disk.unsynced; boot = disk.boot; gone = disk.gone }

-- of an image of so many slots, what hosts use
abbrev pub used : ℕ → DiskState → DiskState
used slots disk = headless (cut (image_length cluster_version slots) disk)

-- There all is zero and synced, as it is behind the header of an image that was formatted, or of a device longer than that.
abbrev pub HoldsNothing : ℕ → DiskState → Type 0
HoldsNothing slots disk = used slots disk ≡ fresh_disk (image_length cluster_version slots)

-- There is what a migration of these commands leaves in the world.
abbrev pub HoldsLog : ℕ → List Command → DiskState → Type 0
HoldsLog slots commands disk = used slots disk ≡ migrated_to (fresh_disk (image_length cluster_version slots)) commands

-- So it is on each disk that is a complete image of such a migration, attached as it was made.
abbrev pub MigratedHoldsLog : Type 0
MigratedHoldsLog =
    (s : Setup) (d : ℕ) (commands : List Command) (disk : DiskState) → Fits s → s.log ≡ map spelling commands → IsMigrated s d disk → disk.boot ≡ 1 → disk.gone ≡ false
    → HoldsLog s.slots commands disk

-- an image with this header, zeros behind it, and more behind those
abbrev pub laid_out : ℕ → List ℕ → ℕ → DiskState
laid_out slots header more =
    let bytes = header ++ replicate (image_length cluster_version slots - HEADER_LENGTH + more) 0 in
    record { bytes = bytes; unsynced = replicate (length bytes) false; boot = 1; gone = false }

abbrev pub LaidOutHoldsNothing : Type 0
LaidOutHoldsNothing = (slots : ℕ) (header : List ℕ) (more : ℕ) → length header ≡ HEADER_LENGTH → HoldsNothing slots (laid_out slots header more)
