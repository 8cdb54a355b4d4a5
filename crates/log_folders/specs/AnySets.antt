-- The headers of a folder's images, of whichever kind of log, and whether they are of one set.
use Rattle.std.specs.Prelude.{◌≡◌, ◌⊎◌, ◌<◌, ℕ, List, length, slice_get, Some, Result, Ok, Err}
use Rattle.disk.specs.declared.fault.ImageFault.{ImageFault}
use Rattle.disk.specs.declared.fault.ImageFault.TheVariants.{WrongHeader}
use Rattle.torn_block.specs.declared.layout.TheConstants.{DISKS}
use Rattle.paxos_block.specs.Shape.{Shape}
use Rattle.endless_image.specs.Kinds.{AreOneSet, kind_of}
use Rattle.endless_image.specs.declared.any_header.AnyHeader.{AnyHeader}
use Rattle.endless_image.specs.declared.kind.Kind.{Kind}
use Rattle.folders.specs.declared.set.SetFault.{SetFault}
use Rattle.log_folders.specs.AnyHeaders.{IsAnyHeader, cluster_in, disk_in, disks_in, first_in, slots_in}

-- what was found of each image: its header, or why it is refused
abbrev pub AnyFound : Type 0
AnyFound = List (Result AnyHeader ImageFault)

-- the image of this number is used, and this is its header
abbrev pub Says : AnyFound → ℕ → AnyHeader → Type 0
Says found k header = slice_get found k ≡ Some (Ok header)

-- an image that is used may have the header that was found
abbrev pub AreAnyHeaders : AnyFound → Type 0
AreAnyHeaders found = (k : ℕ) (header : AnyHeader) → Says found k header → IsAnyHeader header

-- It is told of as many images as there may be, and each header is that of the image's own number.
pub record AreAnyImages (found : AnyFound) : Type 0 where
  pub all : length found ≡ DISKS
  pub right : AreAnyHeaders found
  pub numbers : (k : ℕ) (header : AnyHeader) → Says found k header → disk_in header ≡ k

-- the first epoch in which an image takes part; of one that is refused it does not matter
abbrev pub first_of : Result AnyHeader ImageFault → ℕ
first_of (Ok header) = first_in header
first_of (Err fault) = 0

-- so it is of each image
abbrev pub AreFirsts : AnyFound → List ℕ → Type 0
AreFirsts found firsts = (k : ℕ) (first : ℕ) (image : Result AnyHeader ImageFault) → slice_get firsts k ≡ Some first → slice_get found k ≡ Some image → first ≡ first_of image

-- all headers below this number are of the set of this one
abbrev pub AreOfSetBelow : AnyFound → AnyHeader → ℕ → Type 0
AreOfSetBelow found first n = (k : ℕ) (header : AnyHeader) → k < n → Says found k header → AreOneSet first header

-- none below this number is used
abbrev pub AreRefusedBelow : AnyFound → ℕ → Type 0
AreRefusedBelow found n = (k : ℕ) (header : AnyHeader) → k < n → Says found k header → ⊥

-- the header of the first image that is used
pub record IsFirst (found : AnyFound) (first : AnyHeader) : Type 0 where
  pub number : ℕ
  pub says : Says found number first
  pub before : AreRefusedBelow found number

-- The first header, and all are of its set: of one kind, with the same numbers.
pub record IsSetOf (found : AnyFound) (first : AnyHeader) : Type 0 where
  pub is_first : IsFirst found first
  pub all : (k : ℕ) (header : AnyHeader) → Says found k header → AreOneSet first header

-- A set's kind and numbers are those of the first header, and all are of its set.
pub record HasAnyNumbers (found : AnyFound) (kind : Kind) (config : Shape) (cluster : ℕ) : Type 0 where
  pub first : AnyHeader
  pub is_set : IsSetOf found first
  pub of_kind : kind ≡ kind_of first
  pub disks : config.disks ≡ disks_in first
  pub slots : config.slots ≡ slots_in first
  pub same : cluster ≡ cluster_in first

-- no image is used, and this is the fault of the first one
pub record HasNone (found : AnyFound) (fault : ImageFault) : Type 0 where
  pub first : slice_get found 0 ≡ Some (Err fault)
  pub none : (k : ℕ) (header : AnyHeader) → Says found k header → ⊥

-- the image of this number is the first one that is used and is not of the set of the first
pub record Differs (found : AnyFound) (k : ℕ) : Type 0 where
  pub first : AnyHeader
  pub other : AnyHeader
  pub is_first : IsFirst found first
  pub says : Says found k other
  pub differs : AreOneSet first other → ⊥
  pub below : AreOfSetBelow found first k

-- the fault of disk 0 where no image is used, or a header that is not of the others' set
abbrev pub HasAnySetFault : AnyFound → SetFault → Type 0
HasAnySetFault found f = ((f.disk ≡ 0) × HasNone found f.fault) ⊎ ((f.fault ≡ WrongHeader) × Differs found f.disk)
