-- The shape of a device of sectors, and its lengths.
use Rattle.std.specs.Prelude.{◌≡◌, ◌⊎◌, ◌+◌, ◌*◌, ◌≤◌, ℕ}
use Rattle.torn_block.specs.declared.layout.TheConstants.{HOSTS}
use Rattle.endless_image.specs.Kinds.{IsSlotsBy}
use Rattle.endless_image.specs.declared.kind.Kind.{Kind}
use Rattle.endless_image.specs.declared.kind.Kind.TheVariants.{Ending, Endless}
use Rattle.sectors.specs.declared.geometry.Geometry.{Geometry}
use Rattle.sectors.specs.declared.header.TheConstants.{DEVICE_HEADER_LENGTH}

-- a sector has one of these lengths
abbrev pub IsSectorSize : ℕ → Type 0
IsSectorSize size = (size ≡ 512) ⊎ (size ≡ 1024) ⊎ (size ≡ 2048) ⊎ (size ≡ 4096)

-- one host or more, and no more than a row has room for
abbrev pub IsHostCount : ℕ → Type 0
IsHostCount hosts = (1 ≤ hosts) × (hosts ≤ HOSTS)

-- A device may have this shape.
pub record IsGeometry (geometry : Geometry) : Type 0 where
  pub sector_size : IsSectorSize geometry.sector_size
  pub hosts : IsHostCount geometry.hosts
  pub slots : IsSlotsBy geometry.kind geometry.slots

-- a row: a sector for each host
abbrev pub row_size : Geometry → ℕ
row_size geometry = geometry.sector_size * geometry.hosts

-- How many rows follow the first: one for each slot. Of a log without an end they are as many as a log of 2 S + 3 slots would have: those of the first area, two of standings,
-- and those of the second area, whose heartbeat blocks have one of their own.
abbrev pub rows_by : Kind → ℕ → ℕ
rows_by Ending slots = slots
rows_by Endless slots = 2 * slots + 3

abbrev pub slot_rows : Geometry → ℕ
slot_rows geometry = rows_by geometry.kind geometry.slots

-- the header, the heartbeat blocks' row, and the others
abbrev pub device_size : Geometry → ℕ
device_size geometry = DEVICE_HEADER_LENGTH + row_size geometry + row_size geometry * slot_rows geometry
