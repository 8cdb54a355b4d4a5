-- Which disk of the model a device of sectors shows.
use Rattle.std.specs.Prelude.{◌≡◌, ◌+◌, ◌<◌, ℕ, false, List, Contains, length, slice_index, slice_index_or}
use Rattle.disk.specs.Disk.{DiskState}
use Rattle.disk.specs.Steps.{HasShape}
use Rattle.torn_block.specs.Layout.{cluster_version}
use Rattle.torn_block.specs.declared.layout.TheConstants.{BLOCK_LENGTH}
use Rattle.torn_block.specs.Place.{block_in}
use Rattle.paxos_block.specs.Saying.{zeros}
use Rattle.paxos_block.specs.Places as images
use Rattle.paxos_block.specs.Places.{Spot}
use Rattle.sectors.specs.declared.geometry.Geometry.{Geometry}
use Rattle.sectors.specs.Geometry.{slot_rows}
use Rattle.sectors.specs.Places.{IsSpot}
use Rattle.sectors.specs.Sector.{block_of}
use Rattle.sector_runs.specs.Device.{Device, sector_of}

-- each sector has as many bytes as the device's sectors have
abbrev pub IsSized : Geometry → Device → Type 0
IsSized geometry device =
    ((s : ℕ) → length (device.now s) ≡ geometry.sector_size) × ((s : ℕ) (had : List ℕ) → Contains (device.since s) had → length had ≡ geometry.sector_size)

-- The disk has in each block what its sector has, and zeros for hosts that there are not. What is synced of a block is the same in all
-- that its sector has had since the last sync.
pub record ShowsDisk (geometry : Geometry) (device : Device) (disk : DiskState) : Type 0 where
  pub shape : HasShape (images.image_length cluster_version (slot_rows geometry)) disk
  pub sized : IsSized geometry device
  pub blocks : (spot : Spot) → IsSpot geometry spot →
      block_in cluster_version (images.place_of cluster_version spot) disk.bytes ≡ block_of (device.now (sector_of geometry spot))
  pub others : (spot : Spot) → images.IsSpot cluster_version (slot_rows geometry) spot → ¬ IsSpot geometry spot →
      block_in cluster_version (images.place_of cluster_version spot) disk.bytes ≡ zeros BLOCK_LENGTH
  pub synced : (spot : Spot) (o : ℕ) (had : List ℕ) → IsSpot geometry spot → o < BLOCK_LENGTH →
      slice_index_or disk.unsynced (images.place_of cluster_version spot + o) false ≡ false →
      Contains (device.since (sector_of geometry spot)) had → slice_index had o ≡ slice_index (device.now (sector_of geometry spot)) o
  pub boot : disk.boot ≡ 1
  pub gone : disk.gone ≡ device.gone
