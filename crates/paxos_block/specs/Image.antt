-- Of the headline. A complete image: what a migration of a log makes of each disk.
use Rattle.std.specs.Prelude.{◌≡◌, ◌≢◌, ◌-◌, ◌*◌, ◌<◌, ℕ, true, List, [], ◌∷◌, ◌++◌, Some, length, take, slice_get}
use Rattle.torn_block.specs.Layout.{cluster_version}
use Rattle.torn_block.specs.declared.layout.TheConstants.{BLOCK_LENGTH, COPY_LENGTH, HEADER_LENGTH, ROW_LENGTH}
use Rattle.torn_block.specs.Place.{block_in}
use Rattle.paxos_block.specs.declared.header.Header.{Header}
use Rattle.paxos_block.specs.Headers.{header_saying, IsRight}
use Rattle.paxos_block.specs.Places.{Spot, VoteOf, IsSpot, place_of, row_place}
use Rattle.paxos_block.specs.Row.{copy_saying}
use Rattle.paxos_block.specs.Saying.{Said, zeros}

-- a log of values, for so many disks of so many slots, in a cluster of this number
pub record Setup : Type 0 where
  pub disks : ℕ
  pub slots : ℕ
  pub cluster : ℕ
  pub log : List (List ℕ)

abbrev pub header_of : Setup → ℕ → Header
header_of s d = record { disk = d; disks = s.disks; slots = s.slots; cluster = s.cluster }

-- a vote for the value in ballot 1, which is marked as chosen
abbrev pub vote_for : List ℕ → Said
vote_for value = record { mbal = 1; bal = 1; inp = Some value; mark = true }

-- a block whose first copy is open, under sequence number 1, and says this vote; the second copy is zeros
abbrev pub block_for : List ℕ → List ℕ
block_for value = copy_saying cluster_version 1 (vote_for value) ++ zeros COPY_LENGTH

-- a row with this block of host 0, and blank blocks of all other hosts
abbrev pub row_for : List ℕ → List ℕ
row_for value = block_for value ++ zeros (ROW_LENGTH - BLOCK_LENGTH)

abbrev pub rows_for : List (List ℕ) → List ℕ
rows_for [] = []
rows_for (value ∷ log) = row_for value ++ rows_for log

-- The complete image of a disk: its header, zeros up to the rows, a row for each value of the log, and zeros for the slots that are left.
abbrev pub image_of : Setup → ℕ → List ℕ
image_of s d =
    header_saying cluster_version (header_of s d) ++
    (zeros (row_place cluster_version 0 - HEADER_LENGTH) ++ (rows_for s.log ++ zeros (ROW_LENGTH * (s.slots - length s.log))))

-- WHAT IT HOLDS

-- host 0's block of each slot of the log says its value
abbrev pub HoldsLog : Setup → ℕ → Type 0
HoldsLog s d =
    (k : ℕ) (value : List ℕ) → slice_get s.log k ≡ Some value →
    block_in cluster_version (place_of cluster_version (VoteOf k 0)) (image_of s d) ≡ block_for value

-- every other block is blank
abbrev pub HoldsNoMore : Setup → ℕ → Type 0
HoldsNoMore s d =
    (spot : Spot) → IsSpot cluster_version s.slots spot → ((k : ℕ) → k < length s.log → spot ≢ VoteOf k 0) →
    block_in cluster_version (place_of cluster_version spot) (image_of s d) ≡ zeros BLOCK_LENGTH

-- its first bytes are a right header, for its length
abbrev pub HasHeader : Setup → ℕ → Type 0
HasHeader s d = IsRight cluster_version d (length (image_of s d)) (take HEADER_LENGTH (image_of s d)) (header_of s d)
