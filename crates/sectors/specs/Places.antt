-- Where the sectors of a device are, and which bytes of an image they have.
use Rattle.std.specs.Prelude.{◌≡◌, ◌+◌, ◌*◌, ◌≤◌, ◌<◌, ℕ, List, slice_range}
use Rattle.torn_block.specs.Layout.{area_place, cluster_version}
use Rattle.paxos_block.specs.Places as images
use Rattle.paxos_block.specs.Places.{Spot, BeatOf, VoteOf}
use Rattle.torn_block.specs.declared.layout.TheConstants.{BLOCK_LENGTH}
use Rattle.torn_block.specs.Place.{block_in}
use Rattle.paxos_block.specs.Saying.{zeros}
use Rattle.sectors.specs.declared.geometry.Geometry.{Geometry}
use Rattle.sectors.specs.declared.header.TheConstants.{DEVICE_HEADER_LENGTH}
use Rattle.sectors.specs.declared.place.SectorRange.{SectorRange}
use Rattle.sectors.specs.Geometry.{row_size, slot_rows}

-- the row of the heartbeat blocks, and then those of the slots
abbrev pub row_place : Geometry → ℕ → ℕ
row_place geometry slot = DEVICE_HEADER_LENGTH + row_size geometry + row_size geometry * slot

-- where the sector of a block begins
abbrev pub place_of : Geometry → Spot → ℕ
place_of geometry (BeatOf host) = DEVICE_HEADER_LENGTH + geometry.sector_size * host
place_of geometry (VoteOf slot host) = row_place geometry slot + geometry.sector_size * host

-- the device has this spot
abbrev pub IsSpot : Geometry → Spot → Type 0
IsSpot geometry (BeatOf host) = host < geometry.hosts
IsSpot geometry (VoteOf slot host) = (slot < slot_rows geometry) × (host < geometry.hosts)

-- the sector at a place of the device, and the sectors of a row
abbrev pub sector_at : Geometry → ℕ → List ℕ → List ℕ
sector_at geometry place device = slice_range device place (place + geometry.sector_size)

abbrev pub row_in : Geometry → ℕ → List ℕ → List ℕ
row_in geometry place device = slice_range device place (place + row_size geometry)

-- The device has the blocks of the image: each is the same at its place on the device as at its place in the image, where a host that
-- the device does not have has zeros.
pub record Shows (geometry : Geometry) (device image : List ℕ) : Type 0 where
  pub blocks : (spot : Spot) → IsSpot geometry spot →
      block_in cluster_version (place_of geometry spot) device ≡ block_in cluster_version (images.place_of cluster_version spot) image
  pub others : (spot : Spot) → images.IsSpot cluster_version (slot_rows geometry) spot → ¬ IsSpot geometry spot →
      block_in cluster_version (images.place_of cluster_version spot) image ≡ zeros BLOCK_LENGTH

-- ---- from an image's places to those of the device

-- A row: that of the heartbeat blocks, or a slot's.
pub data RowOf : Type 0 where
  BeatsRow : RowOf
  SlotRow : (slot : ℕ) → RowOf

-- the device has this row
abbrev pub IsRow : Geometry → RowOf → Type 0
IsRow geometry BeatsRow = Unit {0}
IsRow geometry (SlotRow slot) = slot < slot_rows geometry

-- where it begins in an image, and on the device
abbrev pub image_row : RowOf → ℕ
image_row BeatsRow = area_place cluster_version
image_row (SlotRow slot) = images.row_place cluster_version slot

abbrev pub device_row : Geometry → RowOf → ℕ
device_row geometry BeatsRow = DEVICE_HEADER_LENGTH
device_row geometry (SlotRow slot) = row_place geometry slot

-- The row that begins here in an image begins there on the device.
pub record IsRowAt (geometry : Geometry) (at place : ℕ) : Type 0 where
  pub row : RowOf
  pub is_row : IsRow geometry row
  pub here : at ≡ image_row row
  pub there : place ≡ device_row geometry row

-- These bytes of an image lie within this block.
pub record IsWithin (spot : Spot) (offset at long : ℕ) : Type 0 where
  pub here : at ≡ images.place_of cluster_version spot + offset
  pub begins : offset < BLOCK_LENGTH
  pub ends : offset + long ≤ BLOCK_LENGTH

-- Bytes of an image lie within a block that the device has, and this is where.
pub record IsRangeAt (geometry : Geometry) (at long : ℕ) (range : SectorRange) : Type 0 where
  pub spot : Spot
  pub is_spot : IsSpot geometry spot
  pub within : IsWithin spot range.offset at long
  pub there : range.place ≡ place_of geometry spot

-- They lie within none.
abbrev pub HasNoRangeAt : Geometry → ℕ → ℕ → Type 0
HasNoRangeAt geometry at long = (spot : Spot) (offset : ℕ) → IsSpot geometry spot → ¬ IsWithin spot offset at long
