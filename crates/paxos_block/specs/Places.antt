-- Of the headline. Where the blocks of an image stand, and what a call within one of them leaves of the others, in each layout.
use Rattle.std.specs.Prelude.{◌≡◌, ◌+◌, ◌*◌, ◌^◌, ◌≤◌, ◌<◌, ℕ, List, length, slice_range}
use Rattle.disk.specs.Disk.{DiskState, Call, Attach, Read, Write, Sync}
use Rattle.disk.specs.Crash.{IsWhole, MayLeave}
use Rattle.torn_block.specs.Layout.{Version, hosts_in, block_length, row_length, area_place}
use Rattle.torn_block.specs.Register.{Value, Register, StandsFor, Reads}
use Rattle.torn_block.specs.Block.{value_of, next_sequence, number_in}
use Rattle.torn_block.specs.Damage.{IsSoundBlock}
use Rattle.torn_block.specs.Place.{block_in}
use Rattle.torn_block.specs.Plan.{told_number}
use Rattle.torn_block.specs.Stage.{Write128}
use Rattle.paxos_block.specs.declared.cell.Cell.{Cell}
use Rattle.paxos_block.specs.Row.{IsSound, says_of, DecodedBlock, seen_in}
use Rattle.paxos_block.specs.Saying.{Said, said_as, MaySay, body_saying}

-- A block's spot: a host's heartbeat block, or its block of a slot.
pub data Spot : Type 0 where
  BeatOf : (host : ℕ) → Spot
  VoteOf : (slot host : ℕ) → Spot

-- the heartbeat area, and then the rows of the slots
abbrev pub row_place : Version → ℕ → ℕ
row_place v slot = area_place v + row_length v + row_length v * slot

abbrev pub place_of : Version → Spot → ℕ
place_of v (BeatOf host) = area_place v + block_length v * host
place_of v (VoteOf slot host) = row_place v slot + block_length v * host

abbrev pub image_length : Version → ℕ → ℕ
image_length v slots = row_place v slots

-- an image of so many slots has this spot
abbrev pub IsSpot : Version → ℕ → Spot → Type 0
IsSpot v slots (BeatOf host) = host < hosts_in v
IsSpot v slots (VoteOf slot host) = (slot < slots) × (host < hosts_in v)

-- the disk is an image of so many slots
pub record IsImage (v : Version) (slots : ℕ) (disk : DiskState) : Type 0 where
  pub whole : IsWhole disk
  pub long : length disk.bytes ≡ image_length v slots

-- the call writes within this block, or nothing
abbrev pub IsWithin : Version → Spot → Call → Type 0
IsWithin v spot Attach = Unit {0}
IsWithin v spot (Read boot at len) = Unit {0}
IsWithin v spot (Write boot at from) = (place_of v spot ≤ at) × (at + length from ≤ place_of v spot + block_length v)
IsWithin v spot (Sync boot) = Unit {0}

-- the host's block at this place is sound, now and after a crash now
abbrev pub IsSoundAt : Version → ℕ → ℕ → DiskState → Type 0
IsSoundAt v host place disk = (bytes : List ℕ) → MayLeave disk bytes → IsSoundBlock v (IsSound v host) (block_in v place bytes)

-- The write of what a host may say, over a sound block of its own.
pub record IsWriteOf (host : ℕ) (says : Said) (w : Write128) : Type 0 where
  pub sound : IsSoundBlock w.version (IsSound w.version host) w.block
  pub may_say : MaySay w.version host says
  pub body : w.body ≡ body_saying w.version says
  pub number : next_sequence w.version w.block ≤ 2 ^ 62

-- the block at this spot reads as the register allows, now and after a crash now
abbrev pub Holds : Version → DiskState → Spot → Register → Type 0
Holds v disk spot r = StandsFor v (place_of v spot) r disk

-- the bytes of a slot's row, and of the heartbeat area
abbrev pub row_of : Version → ℕ → List ℕ → List ℕ
row_of v slot bytes = slice_range bytes (row_place v slot) (row_place v slot + row_length v)

abbrev pub area_of : Version → List ℕ → List ℕ
area_of v bytes = slice_range bytes (area_place v) (area_place v + row_length v)

-- A cell shows a value that the register allows: it has that value's number, and says what that value says.
pub record CellReads {V : Type 0} (v : Version) (spelled : V → List ℕ) (r : Register) (cell : Cell V) : Type 0 where
  pub value : Value
  pub reads : Reads r value
  pub number : told_number cell.block ≡ number_in value
  pub says : said_as spelled cell.says ≡ says_of v value

-- A block that is seen in a row has a value that the register allows, and all that is seen of it goes by its bytes.
pub record SeenReads (v : Version) (r : Register) (seen : DecodedBlock) : Type 0 where
  pub reads : Reads r (value_of v seen.bytes)
  pub so : seen ≡ seen_in v seen.bytes
