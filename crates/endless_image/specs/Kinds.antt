-- The two kinds of images that a set may have, and what an image of either kind says of itself.
use Rattle.std.specs.Prelude.{◌≡◌, ◌≤◌, ℕ, List, Option, Some, None}
use Rattle.torn_block.specs.Layout.{cluster_version}
use Rattle.torn_block.specs.declared.layout.TheConstants.{SLOTS}
use Rattle.paxos_block.specs.declared.header.Header.{Header}
use Rattle.paxos_block.specs.Headers as older
use Rattle.paxos_block.specs.Shape.{Shape}
use Rattle.endless_image.specs.declared.any_header.AnyHeader.{AnyHeader}
use Rattle.endless_image.specs.declared.any_header.AnyHeader.TheVariants as any
use Rattle.endless_image.specs.declared.kind.Kind.{Kind}
use Rattle.endless_image.specs.declared.kind.Kind.TheVariants.{Ending, Endless}
use Rattle.endless_image.specs.declared.kind.TheConstants.{USUAL_SLOTS}
use Rattle.endless_image.specs.Headers.{IsRight, header_saying}
use Rattle.endless_image.specs.Sets as sets
use Rattle.endless_image.specs.Sizes.{IsSlotCount, area_size, size_of}

-- THE KINDS

-- a number of slots is asked for of a log that ends, and none of one without an end
abbrev pub kind_by : Option ℕ → Kind × ℕ
kind_by (Some slots) = (Ending, slots)
kind_by None = (Endless, USUAL_SLOTS)

-- so many slots an image of this kind may have
abbrev pub IsSlotsBy : Kind → ℕ → Type 0
IsSlotsBy Ending slots = (1 ≤ slots) × (slots ≤ SLOTS)
IsSlotsBy Endless slots = IsSlotCount slots

-- and so many bytes it has
abbrev pub size_by : Kind → ℕ → ℕ
size_by Ending slots = area_size slots
size_by Endless slots = size_of slots

-- the first bytes of a new image of this kind, as that of this disk
abbrev pub header_by : Kind → (disk : ℕ) → Shape → (cluster : ℕ) → List ℕ
header_by Ending disk config cluster = older.header_saying cluster_version (record { disk = disk; disks = config.disks; slots = config.slots; cluster = cluster })
header_by Endless disk config cluster =
    header_saying (record { disk = disk; disks = config.disks; slots = config.slots; cluster = cluster; first_epoch = 0 })

-- WHAT AN IMAGE SAYS

abbrev pub kind_of : AnyHeader → Kind
kind_of (any.Ending header) = Ending
kind_of (any.Endless header) = Endless

-- An image of this length, with these first bytes, is right as that of this disk, and its header says this.
abbrev pub IsRightBy : (disk long : ℕ) → List ℕ → AnyHeader → Type 0
IsRightBy disk long bytes (any.Ending header) = older.IsRight cluster_version disk long bytes header
IsRightBy disk long bytes (any.Endless header) = IsRight disk long bytes header

-- The gate is open, and no header of either kind is right.
pub record HasNoHeader (disk long : ℕ) (bytes : List ℕ) : Type 0 where
  pub formatted : older.IsFormatted bytes
  pub wrong : (header : AnyHeader) → ¬ IsRightBy disk long bytes header

-- Two images are of one set: of one kind, with the same numbers.
pub record IsSameEnding (one other : Header) : Type 0 where
  pub cluster : one.cluster ≡ other.cluster
  pub disks : one.disks ≡ other.disks
  pub slots : one.slots ≡ other.slots

abbrev pub AreOneSet : AnyHeader → AnyHeader → Type 0
AreOneSet (any.Ending one) (any.Ending other) = IsSameEnding one other
AreOneSet (any.Endless one) (any.Endless other) = sets.IsSameSet one other
AreOneSet one other = ⊥
