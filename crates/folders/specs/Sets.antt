-- The headers of a folder's images, and whether they are of one set.
use Rattle.std.specs.Prelude.{◌≡◌, ◌<◌, ℕ, List, length, slice_get, Some, Result, Ok, Err}
use Rattle.torn_block.specs.declared.layout.TheConstants.{DISKS}
use Rattle.disk.specs.declared.fault.ImageFault.{ImageFault}
use Rattle.paxos_block.specs.declared.header.Header.{Header}
use Rattle.paxos_block.specs.Headers.{IsHeader}
use Rattle.paxos_block.specs.Shape.{Shape}

-- what was found of each image: its right header, or why it is refused
abbrev pub Found : Type 0
Found = List (Result Header ImageFault)

-- the image of this number has a right header, and it is this one
abbrev pub Says : Found → ℕ → Header → Type 0
Says found k header = slice_get found k ≡ Some (Ok header)

-- headers that are found are right
abbrev pub AreHeaders : Found → Type 0
AreHeaders found = (k : ℕ) (header : Header) → Says found k header → IsHeader header

-- It is told of as many images as there may be, and each right header is that of the image's own number.
pub record AreImages (found : Found) : Type 0 where
  pub all : length found ≡ DISKS
  pub right : AreHeaders found
  pub numbers : (k : ℕ) (header : Header) → Says found k header → header.disk ≡ k

-- two images are of one set
pub record IsSameSet (a b : Header) : Type 0 where
  pub disks : a.disks ≡ b.disks
  pub slots : a.slots ≡ b.slots
  pub cluster : a.cluster ≡ b.cluster

-- all right headers below this number are of the set of this one
abbrev pub AreOfSetBelow : Found → Header → ℕ → Type 0
AreOfSetBelow found first n = (k : ℕ) (header : Header) → k < n → Says found k header → IsSameSet first header

-- none below this number is right
abbrev pub AreRefusedBelow : Found → ℕ → Type 0
AreRefusedBelow found n = (k : ℕ) (header : Header) → k < n → Says found k header → ⊥

-- the first right header
pub record IsFirst (found : Found) (first : Header) : Type 0 where
  pub number : ℕ
  pub says : Says found number first
  pub before : AreRefusedBelow found number

-- The first right header, and all right ones are of its set.
pub record IsSetOf (found : Found) (first : Header) : Type 0 where
  pub is_first : IsFirst found first
  pub all : (k : ℕ) (header : Header) → Says found k header → IsSameSet first header

-- The numbers of a set are those of the first right header, and all right ones are of its set.
pub record HasNumbers (found : Found) (config : Shape) (cluster : ℕ) : Type 0 where
  pub first : Header
  pub is_set : IsSetOf found first
  pub disks : config.disks ≡ first.disks
  pub slots : config.slots ≡ first.slots
  pub same : cluster ≡ first.cluster

-- no header is right, and this is the fault of the first image
pub record HasNone (found : Found) (fault : ImageFault) : Type 0 where
  pub first : slice_get found 0 ≡ Some (Err fault)
  pub none : (k : ℕ) (header : Header) → Says found k header → ⊥

-- the image of this number is the first right one that is not of the set of the first right one
pub record Differs (found : Found) (k : ℕ) : Type 0 where
  pub first : Header
  pub other : Header
  pub is_first : IsFirst found first
  pub says : Says found k other
  pub differs : IsSameSet first other → ⊥
  pub below : AreOfSetBelow found first k
