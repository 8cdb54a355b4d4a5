-- The header of an image: what it says, how that is spelled, and when an image is right, in each layout.
use Rattle.std.specs.Prelude.{◌≡◌, ◌==◌, ◌&&◌, ◌≤◌, ◌<◌, ◌^◌, ◌-◌, ◌++◌, ℕ, Bool, nat_lt, nat_le, List, ◌∷◌, drop, slice_index}
use Rattle.std.specs.List.{list_all}
use Rattle.byteorder.specs.Endian.{big_number, big_bytes}
use Rattle.torn_block.specs.Block.{number_bytes}
use Rattle.torn_block.specs.declared.layout.TheConstants.{DISKS, SLOTS, HEADER_LENGTH}
use Rattle.torn_block.specs.Layout.{Version, number_of}
use Rattle.torn_block.specs.declared.block.TheConstants.{OPEN_GATE}
use Rattle.paxos_block.specs.declared.header.TheConstants.{GATE_AT, VERSION_AT, DISK_AT, DISKS_AT, SLOTS_AT, CLUSTER_AT, ZEROS_AT}
use Rattle.paxos_block.specs.declared.header.Header.{Header}
use Rattle.paxos_block.specs.declared.number.TheConstants.{SHORT_LENGTH}
use Rattle.paxos_block.specs.Saying.{zeros, number_at}
use Rattle.paxos_block.specs.Places.{image_length}

-- the disk is one of a set of up to so many, and has slots, but not too many
pub record IsHeader (header : Header) : Type 0 where
  pub disk : header.disk < header.disks
  pub disks : header.disks ≤ DISKS
  pub some_slots : 1 ≤ header.slots
  pub slots : header.slots ≤ SLOTS

-- a count of slots in its bytes, the highest first
unfoldable pub short_bytes : ℕ → List ℕ
short_bytes n = big_bytes SHORT_LENGTH n

unfoldable pub short_at : ℕ → List ℕ → ℕ
short_at place bytes = big_number SHORT_LENGTH (drop place bytes)

-- the gate, the version, the disk and the number of disks, a byte each; the slots; the cluster; and zeros to the end
abbrev pub header_end : Header → List ℕ
header_end header = number_bytes header.cluster ++ zeros (HEADER_LENGTH - ZEROS_AT)

unfoldable pub header_saying : Version → Header → List ℕ
header_saying v header = OPEN_GATE ∷ number_of v ∷ header.disk ∷ header.disks ∷ (short_bytes header.slots ++ header_end header)

-- the image was formatted to the end: its gate is open
abbrev pub IsFormatted : List ℕ → Type 0
IsFormatted bytes = slice_index bytes GATE_AT ≡ OPEN_GATE

-- An image of this length, with these first bytes, is right as that of this disk, and its header says this.
pub record IsRight (v : Version) (disk long : ℕ) (bytes : List ℕ) (header : Header) : Type 0 where
  pub may_be : IsHeader header
  pub fits : header.cluster < 2 ^ 64
  pub named : header.disk ≡ disk
  pub as_long : image_length v header.slots ≡ long
  pub spelled : bytes ≡ header_saying v header

-- The gate is open, and no header is right.
pub record HasNoHeader (v : Version) (disk long : ℕ) (bytes : List ℕ) : Type 0 where
  pub formatted : IsFormatted bytes
  pub wrong : (header : Header) → ¬ IsRight v disk long bytes header

-- ---- the same as a test

unfoldable pub header_in : List ℕ → Header
header_in bytes =
    record {
      disk = slice_index bytes DISK_AT;
      disks = slice_index bytes DISKS_AT;
      slots = short_at SLOTS_AT bytes;
      cluster = number_at CLUSTER_AT bytes;
    }

abbrev pub is_header : Header → Bool
is_header header =
    nat_lt header.disk header.disks && nat_le header.disks DISKS && nat_le 1 header.slots && nat_le header.slots SLOTS

abbrev pub is_right : Version → ℕ → ℕ → List ℕ → Bool
is_right v disk long bytes =
    (slice_index bytes VERSION_AT == number_of v) && is_header (header_in bytes) && ((header_in bytes).disk == disk) && (image_length v (header_in bytes).slots == long)
    && list_all (λ b. b == 0) (drop ZEROS_AT bytes)
