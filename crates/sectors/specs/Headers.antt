-- The header of a device: what it says, how that is spelled, when a device is right, and what is wrong with one that is not.
use Rattle.std.specs.Prelude.{◌≡◌, ◌≢◌, ◌⊎◌, ◌==◌, ◌≤◌, ◌<◌, ◌^◌, ◌-◌, ◌++◌, ℕ, List, ◌∷◌, drop, slice_index, if◌then◌else◌}
use Rattle.torn_block.specs.Block.{number_bytes}
use Rattle.torn_block.specs.declared.layout.TheConstants.{DISKS}
use Rattle.torn_block.specs.declared.block.TheConstants.{OPEN_GATE}
use Rattle.paxos_block.specs.Saying.{zeros, number_at, flag_of}
use Rattle.paxos_block.specs.Headers.{short_bytes, short_at}
use Rattle.endless_image.specs.Kinds.{IsSlotsBy}
use Rattle.endless_image.specs.declared.kind.Kind.{Kind}
use Rattle.endless_image.specs.declared.kind.Kind.TheVariants.{Ending, Endless}
use Rattle.sectors.specs.declared.fault.DeviceFault.{DeviceFault}
use Rattle.sectors.specs.declared.fault.DeviceFault.TheVariants.{NotFormatted, WrongVersion, WrongDisk, WrongSlots, WrongSectorSize, WrongParts, WrongHosts, WrongWrites, WrongRest, TooShort}
use Rattle.sectors.specs.declared.header.TheConstants.{DEVICE_HEADER_LENGTH, DEVICE_VERSION, ENDLESS_DEVICE_VERSION, PARTS, GATE_AT, VERSION_AT, DISK_AT, DISKS_AT, SLOTS_AT, CLUSTER_AT, SECTOR_SIZE_AT, PARTS_AT, HOSTS_AT, WRITES_AT, REST_AT}
use Rattle.sectors.specs.declared.header.DeviceHeader.{DeviceHeader}
use Rattle.sectors.specs.Geometry.{IsGeometry, IsSectorSize, IsHostCount, device_size}

-- The disk has this number, and is one of a set of up to so many.
pub record IsNamed (disk : ℕ) (header : DeviceHeader) : Type 0 where
  pub named : header.disk ≡ disk
  pub among : header.disk < header.disks
  pub disks : header.disks ≤ DISKS

-- A device may have this header.
pub record IsDeviceHeader (header : DeviceHeader) : Type 0 where
  pub disk : IsNamed header.disk header
  pub geometry : IsGeometry header.geometry

-- the version says which kind of log it is
abbrev pub version_by : Kind → ℕ
version_by Ending = DEVICE_VERSION
version_by Endless = ENDLESS_DEVICE_VERSION

-- the gate, the version, the disk and the number of disks, a byte each; the slots; the cluster; the sector size; that blocks are
-- whole, the hosts and how writes are made, a byte each; and zeros to the end
abbrev pub header_end : DeviceHeader → List ℕ
header_end header = PARTS ∷ header.geometry.hosts ∷ flag_of header.dsync ∷ zeros (DEVICE_HEADER_LENGTH - REST_AT)

unfoldable pub header_saying : DeviceHeader → List ℕ
header_saying header =
    OPEN_GATE ∷ version_by header.geometry.kind ∷ header.disk ∷ header.disks
    ∷ (short_bytes header.geometry.slots ++ (number_bytes header.cluster ++ (short_bytes header.geometry.sector_size ++ header_end header)))

-- A device of this length, with these first bytes, is right as that of this disk, and its header says this.
pub record IsRight (disk long : ℕ) (bytes : List ℕ) (header : DeviceHeader) : Type 0 where
  pub may_be : IsDeviceHeader header
  pub fits : header.cluster < 2 ^ 64
  pub named : header.disk ≡ disk
  pub room : device_size header.geometry ≤ long
  pub spelled : bytes ≡ header_saying header

-- ---- what is wrong

-- there are devices of this version
abbrev pub IsVersion : ℕ → Type 0
IsVersion version = (version ≡ DEVICE_VERSION) ⊎ (version ≡ ENDLESS_DEVICE_VERSION)

-- the kind that a version says, right or not
abbrev pub kind_by : ℕ → Kind
kind_by version = if version == ENDLESS_DEVICE_VERSION then Endless else Ending

-- what the fields of a header say, right or not
unfoldable pub header_in : List ℕ → DeviceHeader
header_in bytes =
    record {
      disk = slice_index bytes DISK_AT;
      disks = slice_index bytes DISKS_AT;
      cluster = number_at CLUSTER_AT bytes;
      geometry =
          record {
            sector_size = short_at SECTOR_SIZE_AT bytes;
            hosts = slice_index bytes HOSTS_AT;
            kind = kind_by (slice_index bytes VERSION_AT);
            slots = short_at SLOTS_AT bytes;
          };
      dsync = slice_index bytes WRITES_AT == 1;
    }

-- the cause of a fault
abbrev pub Has : ℕ → ℕ → List ℕ → DeviceFault → Type 0
Has disk long bytes NotFormatted = slice_index bytes GATE_AT ≢ OPEN_GATE
Has disk long bytes WrongVersion = ¬ IsVersion (slice_index bytes VERSION_AT)
Has disk long bytes WrongDisk = ¬ IsNamed disk (header_in bytes)
Has disk long bytes WrongSlots = ¬ IsSlotsBy (header_in bytes).geometry.kind (header_in bytes).geometry.slots
Has disk long bytes WrongSectorSize = ¬ IsSectorSize (header_in bytes).geometry.sector_size
Has disk long bytes WrongParts = slice_index bytes PARTS_AT ≢ PARTS
Has disk long bytes WrongHosts = ¬ IsHostCount (header_in bytes).geometry.hosts
Has disk long bytes WrongWrites = 1 < slice_index bytes WRITES_AT
Has disk long bytes WrongRest = drop REST_AT bytes ≢ zeros (DEVICE_HEADER_LENGTH - REST_AT)
Has disk long bytes TooShort = long < device_size (header_in bytes).geometry

-- the order in which faults are told
abbrev pub rank : DeviceFault → ℕ
rank NotFormatted = 0
rank WrongVersion = 1
rank WrongDisk = 2
rank WrongSlots = 3
rank WrongSectorSize = 4
rank WrongParts = 5
rank WrongHosts = 6
rank WrongWrites = 7
rank WrongRest = 8
rank TooShort = 9

-- The device has this fault, and none that is told before it.
pub record IsFirst (disk long : ℕ) (bytes : List ℕ) (fault : DeviceFault) : Type 0 where
  pub has : Has disk long bytes fault
  pub before : (other : DeviceFault) → rank other < rank fault → ¬ Has disk long bytes other
