-- What an image of a log without an end holds: a new one, and one in whose first area a log stands.
use Rattle.std.specs.Prelude.{◌≡◌, ◌+◌, ◌-◌, ◌<◌, ◌++◌, ℕ, List, None, Some}
use Rattle.torn_block.specs.Block.{value_of}
use Rattle.torn_block.specs.Layout.{cluster_version}
use Rattle.torn_block.specs.Place.{block_in}
use Rattle.torn_block.specs.declared.layout.TheConstants.{HEADER_LENGTH, HOSTS}
use Rattle.paxos_block.specs.Places.{Spot, IsSpot, place_of}
use Rattle.paxos_block.specs.Saying.{zeros}
use Rattle.standings.specs.Epochs.{base_of, number_of, epoch_of, IsNewest}
use Rattle.endless_image.specs.declared.header.EndlessHeader.{EndlessHeader}
use Rattle.endless_image.specs.Headers.{header_saying}
use Rattle.endless_image.specs.Sizes.{area_size, size_of}

-- a new image: its header, and zeros behind it
abbrev pub new_image : EndlessHeader → List ℕ
new_image header = header_saying header ++ zeros (size_of header.slots - HEADER_LENGTH)

-- the block of an area that stands at this spot of the epoch's image
abbrev pub block_at : (slots area : ℕ) → Spot → List ℕ → List ℕ
block_at slots area spot bytes = block_in cluster_version (base_of (area_size slots) area + place_of cluster_version spot) bytes

-- every block of the area is blank: no heartbeat, no ballot, no vote
abbrev pub IsBlank : (slots area : ℕ) → List ℕ → Type 0
IsBlank slots area bytes = (spot : Spot) → IsSpot cluster_version slots spot → value_of cluster_version (block_at slots area spot bytes) ≡ None

-- the numbers of the hosts in an area
abbrev pub numbers_of : (slots area : ℕ) → List ℕ → ℕ → ℕ
numbers_of slots area bytes host = number_of (area_size slots) area host bytes

-- Every host has number 0 in both areas. So all are inside of epoch 0, nobody comes to a later one, and nothing is written where epoch 1 will be.
pub record IsAtFirst (slots : ℕ) (bytes : List ℕ) : Type 0 where
  pub numbers : (area host : ℕ) → area < 2 → host < HOSTS → numbers_of slots area bytes host ≡ 0
  pub inside : (host : ℕ) → host < HOSTS → numbers_of slots (epoch_of 0).area bytes host ≡ (epoch_of 0).number
  pub newest : IsNewest 0 (numbers_of slots 0 bytes) (Some 0)
  pub none : IsNewest 1 (numbers_of slots 1 bytes) None
  pub second : IsBlank slots 1 bytes
