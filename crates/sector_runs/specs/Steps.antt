-- What single touches of a device are to the disk of the model that it shows.
use Rattle.std.specs.Prelude.{◌≡◌, ◌⊎◌, ◌+◌, ◌*◌, ◌≤◌, ◌<◌, ◌^◌, ℕ, false, List, [], length, Some, slice_range}
use Rattle.disk.specs.Disk.{DiskState, Torn, written, synced}
use Rattle.disk.specs.Simulated.{fresh_disk}
use Rattle.torn_block.specs.Layout.{cluster_version}
use Rattle.torn_block.specs.declared.layout.TheConstants.{BLOCK_LENGTH, ROW_LENGTH}
use Rattle.paxos_block.specs.Saying.{zeros}
use Rattle.paxos_block.specs.Places as images
use Rattle.paxos_block.specs.Places.{Spot}
use Rattle.paxos_block.specs.Shape.{Shape}
use Rattle.world.specs.Entry.{Filled}
use Rattle.sectors.specs.declared.geometry.Geometry.{Geometry}
use Rattle.sectors.specs.declared.header.TheConstants.{DEVICE_HEADER_LENGTH}
use Rattle.sectors.specs.Geometry.{IsGeometry, slot_rows}
use Rattle.sectors.specs.Moments.{Puts, Tries, Keeps, changed}
use Rattle.sectors.specs.Places.{place_of, IsSpot, RowOf, IsRow, image_row}
use Rattle.sectors.specs.Row.{IsRowOf, sector_in}
use Rattle.sectors.specs.Sector.{block_of, stamp_of, sector_with}
use Rattle.at_once.specs.Images.{HoldsNothing}
use Rattle.at_once.specs.Power.{LosesPower, ServesOn}
use Rattle.sector_runs.specs.Device.{Device, GoesBy, Restarts, first_of, sector_of}
use Rattle.sector_runs.specs.Owning.{AllOwn}
use Rattle.sector_runs.specs.Showing.{ShowsDisk}
use Rattle.sector_runs.specs.Touches.{ServesBySectors}

-- a sector begins behind as many others as its number says
abbrev pub SectorsFollow : Type 0
SectorsFollow = (geometry : Geometry) (spot : Spot) → place_of geometry spot ≡ DEVICE_HEADER_LENGTH + geometry.sector_size * sector_of geometry spot

-- the device shows a disk that goes from this one
abbrev pub ShowsNext : Geometry → Device → (DiskState → Type 0) → Type 0
ShowsNext geometry new IsNext = (disk : DiskState) × IsNext disk × ShowsDisk geometry new disk

-- A write of some bytes of a block: of its sector as it is, and with the next stamp.
pub record MayWrite (geometry : Geometry) (old : Device) (spot : Spot) (offset : ℕ) (from : List ℕ) : Type 0 where
  pub is_spot : IsSpot geometry spot
  pub begins : offset < BLOCK_LENGTH
  pub ends : offset + length from ≤ BLOCK_LENGTH
  pub unspent : stamp_of (old.now (sector_of geometry spot)) + 1 < 2 ^ 64

-- the sector with these bytes
abbrev pub sector_put : Geometry → Device → Spot → ℕ → List ℕ → List ℕ
sector_put geometry old spot offset from = sector_with offset from (old.now (sector_of geometry spot))

-- put, it is the model's write
abbrev pub PutsAreWrites : Type 0
PutsAreWrites =
    (geometry : Geometry) (old new : Device) (disk : DiskState) (spot : Spot) (offset : ℕ) (from : List ℕ) → IsGeometry geometry → ShowsDisk geometry old disk → MayWrite geometry old spot offset from →
    GoesBy (Some (Puts (sector_of geometry spot) (sector_put geometry old spot offset from))) old new →
    ShowsDisk geometry new (written disk (images.place_of cluster_version spot + offset) from)

-- and where that failed or was cut off, a torn one
abbrev pub TriesAreTorn : Type 0
TriesAreTorn =
    (geometry : Geometry) (old new : Device) (disk : DiskState) (spot : Spot) (offset : ℕ) (from : List ℕ) → IsGeometry geometry → ShowsDisk geometry old disk → MayWrite geometry old spot offset from →
    GoesBy (Some (Tries (sector_of geometry spot) (sector_put geometry old spot offset from))) old new →
    ShowsNext geometry new (Torn (images.place_of cluster_version spot + offset) (length from) disk)

-- a sync is the model's
abbrev pub KeepsAreSyncs : Type 0
KeepsAreSyncs =
    (geometry : Geometry) (old new : Device) (disk : DiskState) → IsGeometry geometry → ShowsDisk geometry old disk → GoesBy (Some Keeps) old new → ShowsDisk geometry new (synced disk)

-- a restart keeps what was synced
abbrev pub RestartsLosePower : Type 0
RestartsLosePower =
    (geometry : Geometry) (old new : Device) (disk : DiskState) → IsGeometry geometry → ShowsDisk geometry old disk → Restarts old new → ShowsNext geometry new (LosesPower disk)

-- until a sync, a restart may undo a write, or make one that failed: the sector is as it was before that or as it was to be, and the others stay
abbrev pub WritesMayBeUndone : Type 0
WritesMayBeUndone =
    (old new : Device) (s : ℕ) (bytes left : List ℕ) → GoesBy (Some (Puts s bytes)) old new ⊎ GoesBy (Some (Tries s bytes)) old new → (left ≡ old.now s) ⊎ (left ≡ bytes) →
    (after : Device) × Restarts new after × (after.now ≡ changed s left new.now)

-- a row of what all its sectors have at one moment is the model's read
abbrev pub RowsAreReads : Type 0
RowsAreReads =
    (geometry : Geometry) (device : Device) (disk : DiskState) (row : RowOf) (sectors bytes : List ℕ) → IsGeometry geometry → ShowsDisk geometry device disk → IsRow geometry row →
    ((host : ℕ) → host < geometry.hosts → device.now (first_of geometry row + host) ≡ sector_in geometry host sectors) → IsRowOf geometry sectors bytes →
    bytes ≡ slice_range disk.bytes (image_row row) (image_row row + ROW_LENGTH)

-- so a device that has served calls by its sectors, each write one of its host's own block, has served them as the disk that it showed
abbrev pub SectorsServe : Type 0
SectorsServe =
    (c : Shape) (k : ℕ) (geometry : Geometry) (device : Device) (disk : DiskState) (calls : List Filled) → IsGeometry geometry → ShowsDisk geometry device disk → AllOwn calls →
    ServesBySectors c k geometry device calls → ServesOn c k disk calls

-- Each block is zeros, and all is synced: as a format leaves it.
pub record IsBlank (geometry : Geometry) (device : Device) : Type 0 where
  pub sized : (s : ℕ) → length (device.now s) ≡ geometry.sector_size
  pub zero : (s : ℕ) → block_of (device.now s) ≡ zeros BLOCK_LENGTH
  pub synced : device.since ≡ (λ s. [])
  pub there : device.gone ≡ false

-- such a device shows an image that holds nothing
abbrev pub BlankDevicesShow : Type 0
BlankDevicesShow =
    (geometry : Geometry) (device : Device) → IsGeometry geometry → IsBlank geometry device →
    ShowsDisk geometry device (fresh_disk (images.image_length cluster_version (slot_rows geometry))) ×
    HoldsNothing (slot_rows geometry) (fresh_disk (images.image_length cluster_version (slot_rows geometry)))
