-- Devices that several machines use, as C names them and is told of them.
use Rattle.std.specs.Prelude.{◌≡◌, ◌≢◌, ◌==◌, ◌≤◌, ◌+◌, ◌-◌, ◌^◌, ◌⊎◌, ℕ, ℤ, List, length, if◌then◌else◌}
use Rattle.torn_block.specs.declared.layout.TheConstants.{BLOCK_LENGTH}
use Rattle.paxos_block.specs.Saying.{flag_of}
use Rattle.endless_image.specs.Kinds.{header_by, size_by}
use Rattle.endless_image.specs.declared.kind.Kind.{Kind}
use Rattle.endless_image.specs.declared.kind.Kind.TheVariants.{Ending, Endless}
use Rattle.sectors.specs.declared.geometry.Geometry.{Geometry}
use Rattle.sectors.specs.declared.header.DeviceHeader.{DeviceHeader}
use Rattle.sectors.specs.declared.place.SectorRange.{SectorRange}
use Rattle.sectors.specs.declared.sector.TheConstants.{STAMPED_LENGTH}
use Rattle.sectors.specs.Geometry.{IsGeometry, row_size, device_size}
use Rattle.sectors.specs.Headers.{IsDeviceHeader, IsRight, header_saying}
use Rattle.sectors.specs.Places.{RowOf, IsRow, IsRowAt, IsRangeAt, HasNoRangeAt, image_row}
use Rattle.sectors.specs.Row.{IsRowOf, Agree}
use Rattle.sectors.specs.Sector.{stamp_of, sector_with}
use Rattle.dlm_c.specs.declared.device.Device.{Device}
use Rattle.dlm_c.specs.declared.device.FirstBytes.{FirstBytes}
use Rattle.dlm_c.specs.declared.device.Sectors.{Sectors}
use Rattle.c_host.specs.declared.header.HeaderBytes.{HeaderBytes}
use Rattle.c_host.specs.Numbers.{done, bad_argument, different, stamp_spent}

-- ---- a device and its header

-- the kind of log that C names, and how it is told one
abbrev pub kind_of : ℕ → Kind
kind_of endless = if endless == 1 then Endless else Ending

abbrev pub endless_of : Kind → ℕ
endless_of Ending = 0
endless_of Endless = 1

-- the shape that C names
abbrev pub geometry_of : Device → Geometry
geometry_of device = record { sector_size = device.sector_size; hosts = device.hosts; kind = kind_of device.endless; slots = device.slots }

-- what C is told of a device that has this header
abbrev pub shape_of : DeviceHeader → Device
shape_of header = record {
  sector_size = header.geometry.sector_size;
  hosts = header.geometry.hosts;
  slots = header.geometry.slots;
  dsync = flag_of header.dsync;
  endless = endless_of header.geometry.kind;
}

-- the header that C asks for
abbrev pub header_of : Device → (disks cluster disk : ℕ) → DeviceHeader
header_of device disks cluster disk =
    record { disk = disk; disks = disks; cluster = cluster; geometry = geometry_of device; dsync = device.dsync == 1 }

-- the image that such a device shows: its length, and its first bytes
abbrev pub image_of : DeviceHeader → HeaderBytes
image_of header = record {
  size = size_by header.geometry.kind header.geometry.slots;
  bytes = header_by header.geometry.kind header.disk (record { disks = header.disks; slots = header.geometry.slots }) header.cluster;
}

-- There may be such a device, and C is given its first bytes and its length; or there is none, and nothing is changed.
abbrev pub LaysOutDevice : DeviceHeader → (old new : FirstBytes) → (before after : ℕ) → ℤ → Type 0
LaysOutDevice header old new before after status =
    ((status ≡ done) × IsDeviceHeader header × (new ≡ record { bytes = header_saying header }) × (after ≡ device_size header.geometry))
    ⊎ ((status ≡ bad_argument) × (¬ IsDeviceHeader header) × (new ≡ old) × (after ≡ before))

-- The device is right, and C is told its shape, and the image that it shows; or it is not, and nothing is changed.
pub record TellsDevice (disk long : ℕ) (bytes : List ℕ) (device : Device) (shown : HeaderBytes) : Type 0 where
  pub header : DeviceHeader
  pub right : IsRight disk long bytes header
  pub shape : device ≡ shape_of header
  pub shows : shown ≡ image_of header

abbrev pub FindsDevice : (disk long : ℕ) → List ℕ → (old new : Device) → (before after : HeaderBytes) → ℤ → Type 0
FindsDevice disk long bytes old new before after status =
    ((status ≡ done) × TellsDevice disk long bytes new after)
    ⊎ ((status ≡ bad_argument) × ((header : DeviceHeader) → ¬ IsRight disk long bytes header) × (new ≡ old) × (after ≡ before))

-- ---- where its sectors are

-- C is told the sectors of the row that begins here in an image.
pub record TellsRow (geometry : Geometry) (at : ℕ) (told : Sectors) : Type 0 where
  pub place : IsRowAt geometry at told.place
  pub long : told.length ≡ row_size geometry
  pub offset : told.offset ≡ 0

-- no device has this shape, or no row of such a device begins here
abbrev pub HasNoRow : Geometry → ℕ → Type 0
HasNoRow geometry at = (¬ IsGeometry geometry) ⊎ ((row : RowOf) → IsRow geometry row → at ≢ image_row row)

abbrev pub FindsRow : Geometry → ℕ → (old new : Sectors) → ℤ → Type 0
FindsRow geometry at old new status =
    ((status ≡ done) × IsGeometry geometry × TellsRow geometry at new)
    ⊎ ((status ≡ bad_argument) × HasNoRow geometry at × (new ≡ old))

-- the range of a sector that C is told
abbrev pub range_of : Sectors → SectorRange
range_of told = record { place = told.place; offset = told.offset }

-- C is told the sector that has so many bytes of an image from here on.
pub record TellsBlock (geometry : Geometry) (at long : ℕ) (told : Sectors) : Type 0 where
  pub range : IsRangeAt geometry at long (range_of told)
  pub sector : told.length ≡ geometry.sector_size

-- no device has this shape, or these bytes lie within no block of such a device
abbrev pub HasNoBlock : Geometry → (at long : ℕ) → Type 0
HasNoBlock geometry at long = (¬ IsGeometry geometry) ⊎ HasNoRangeAt geometry at long

abbrev pub FindsBlock : Geometry → (at long : ℕ) → (old new : Sectors) → ℤ → Type 0
FindsBlock geometry at long old new status =
    ((status ≡ done) × IsGeometry geometry × TellsBlock geometry at long new)
    ⊎ ((status ≡ bad_argument) × HasNoBlock geometry at long × (new ≡ old))

-- ---- what its sectors have

-- a device may have this shape, and these are the sectors of a row, read twice
pub record AreReads (geometry : Geometry) (one other : List ℕ) : Type 0 where
  pub shape : IsGeometry geometry
  pub first : length one ≡ row_size geometry
  pub second : length other ≡ row_size geometry

-- Both reads saw the same, and the row is given; or they did not; or they are none. Unless the row is given it is as it was.
abbrev pub GivesRow : Geometry → (one other : List ℕ) → (old new : List ℕ) → ℤ → Type 0
GivesRow geometry one other old new status =
    ((status ≡ done) × AreReads geometry one other × Agree geometry one other × IsRowOf geometry one new)
    ⊎ ((status ≡ different) × AreReads geometry one other × (¬ Agree geometry one other) × (new ≡ old))
    ⊎ ((status ≡ bad_argument) × (¬ AreReads geometry one other) × (new ≡ old))

-- the bytes have room in the block of a sector, which has a stamp
pub record HasRoom (offset : ℕ) (from sector : List ℕ) : Type 0 where
  pub stamped : STAMPED_LENGTH ≤ length sector
  pub within : offset + length from ≤ BLOCK_LENGTH

-- The bytes are put into the sector, with the next stamp; or there is no such stamp; or they have no room. Then the sector is as it was.
abbrev pub PutsIn : ℕ → (from old new : List ℕ) → ℤ → Type 0
PutsIn offset from old new status =
    ((status ≡ done) × HasRoom offset from old × (new ≡ sector_with offset from old))
    ⊎ ((status ≡ stamp_spent) × HasRoom offset from old × (stamp_of old ≡ 2 ^ 64 - 1) × (new ≡ old))
    ⊎ ((status ≡ bad_argument) × (¬ HasRoom offset from old) × (new ≡ old))
