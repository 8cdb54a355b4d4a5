-- The header of an image of a log without an end: what it says, how that is spelled, when an image is right, and what is wrong with one that is not.
use Rattle.std.specs.Prelude.{◌≡◌, ◌≢◌, ◌≤◌, ◌<◌, ◌^◌, ◌-◌, ◌++◌, ℕ, List, ◌∷◌, drop, slice_index}
use Rattle.torn_block.specs.Block.{number_bytes}
use Rattle.torn_block.specs.declared.layout.TheConstants.{DISKS, HEADER_LENGTH}
use Rattle.torn_block.specs.declared.block.TheConstants.{OPEN_GATE}
use Rattle.paxos_block.specs.Saying.{zeros, number_at}
use Rattle.paxos_block.specs.Headers.{short_bytes, short_at}
use Rattle.standings.specs.declared.epoch.TheConstants.{LAST_EPOCH}
use Rattle.endless_image.specs.declared.fault.HeaderFault.{HeaderFault}
use Rattle.endless_image.specs.declared.fault.HeaderFault.TheVariants.{NotFormatted, OlderVersion, NewerVersion, WrongDisk, WrongDisks, WrongSlots, WrongEpoch, Unfinished, Damaged, WrongLength}
use Rattle.endless_image.specs.declared.header.TheConstants.{ENDLESS_VERSION, GATE_AT, VERSION_AT, DISK_AT, DISKS_AT, SLOTS_AT, CLUSTER_AT, EPOCH_AT, MARK_AT, REST_AT}
use Rattle.endless_image.specs.declared.header.EndlessHeader.{EndlessHeader}
use Rattle.endless_image.specs.Sizes.{IsSlotCount, size_of}

-- The disk is one of a set of up to so many.
pub record IsAmong (disk disks : ℕ) : Type 0 where
  pub below : disk < disks
  pub few : disks ≤ DISKS

-- An image may have this header.
pub record IsEndlessHeader (header : EndlessHeader) : Type 0 where
  pub among : IsAmong header.disk header.disks
  pub slots : IsSlotCount header.slots
  pub epoch : header.first_epoch ≤ LAST_EPOCH

-- The gate, the version, the disk and the number of disks, a byte each; the slots; the cluster; the first epoch; the mark; and zeros to the end. Only while an image is made of
-- one of a log that ends is its mark not 0, and its version another one.
unfoldable pub header_with : (version mark : ℕ) → EndlessHeader → List ℕ
header_with version mark header =
    OPEN_GATE ∷ version ∷ header.disk ∷ header.disks
    ∷ (short_bytes header.slots ++ (number_bytes header.cluster ++ (number_bytes header.first_epoch ++ mark ∷ zeros (HEADER_LENGTH - REST_AT))))

abbrev pub header_saying : EndlessHeader → List ℕ
header_saying header = header_with ENDLESS_VERSION 0 header

-- An image of this length, with these first bytes, is right as that of this disk, and its header says this.
pub record IsRight (disk long : ℕ) (bytes : List ℕ) (header : EndlessHeader) : Type 0 where
  pub may_be : IsEndlessHeader header
  pub fits : header.cluster < 2 ^ 64
  pub named : header.disk ≡ disk
  pub as_long : size_of header.slots ≡ long
  pub spelled : bytes ≡ header_saying header

-- ---- what is wrong

-- what the fields of a header say, right or not
unfoldable pub header_in : List ℕ → EndlessHeader
header_in bytes =
    record {
      disk = slice_index bytes DISK_AT;
      disks = slice_index bytes DISKS_AT;
      slots = short_at SLOTS_AT bytes;
      cluster = number_at CLUSTER_AT bytes;
      first_epoch = number_at EPOCH_AT bytes;
    }

-- the cause of a fault
abbrev pub Has : ℕ → ℕ → List ℕ → HeaderFault → Type 0
Has disk long bytes NotFormatted = slice_index bytes GATE_AT ≢ OPEN_GATE
Has disk long bytes OlderVersion = slice_index bytes VERSION_AT < ENDLESS_VERSION
Has disk long bytes NewerVersion = ENDLESS_VERSION < slice_index bytes VERSION_AT
Has disk long bytes WrongDisk = (header_in bytes).disk ≢ disk
Has disk long bytes WrongDisks = ¬ IsAmong (header_in bytes).disk (header_in bytes).disks
Has disk long bytes WrongSlots = ¬ IsSlotCount (header_in bytes).slots
Has disk long bytes WrongEpoch = LAST_EPOCH < (header_in bytes).first_epoch
Has disk long bytes Unfinished = slice_index bytes MARK_AT ≢ 0
Has disk long bytes Damaged = drop REST_AT bytes ≢ zeros (HEADER_LENGTH - REST_AT)
Has disk long bytes WrongLength = size_of (header_in bytes).slots ≢ long

-- the order in which faults are told
abbrev pub rank : HeaderFault → ℕ
rank NotFormatted = 0
rank OlderVersion = 1
rank NewerVersion = 2
rank WrongDisk = 3
rank WrongDisks = 4
rank WrongSlots = 5
rank WrongEpoch = 6
rank Unfinished = 7
rank Damaged = 8
rank WrongLength = 9

-- The image has this fault, and none that is told before it.
pub record IsFirst (disk long : ℕ) (bytes : List ℕ) (fault : HeaderFault) : Type 0 where
  pub has : Has disk long bytes fault
  pub before : (other : HeaderFault) → rank other < rank fault → ¬ Has disk long bytes other
