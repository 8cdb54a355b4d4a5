-- What is true of each row that an attempt reads, in each layout: its blocks say votes of their hosts, whose inputs have the right length.
use Rattle.std.specs.Prelude.{◌≡◌, ◌<◌, ℕ, List, length, slice_get, Option, Some, None}
use Rattle.torn_block.specs.Layout.{Version, hosts_in, value_length}
use Rattle.paxos_block.specs.Saying.{Said, IsVoteOf}
use Rattle.paxos_block.specs.Row.{DecodedBlock}
use Rattle.paxos_block.specs.Votes.{says_in}
use Rattle.attempt.specs.Answers.{Heard, Told}

-- an input, if there is one, fills its place in a block
abbrev pub IsLong : Version → Option (List ℕ) → Type 0
IsLong v None = Unit {0}
IsLong v (Some value) = length value ≡ value_length v

-- the block says a vote of its host up to this ballot
pub record IsVoteBy (v : Version) (host ballot : ℕ) (says : Said) : Type 0 where
  pub vote : IsVoteOf v host ballot says.bal says.inp
  pub long : IsLong v says.inp

-- so does each block of the row, up to its own
abbrev pub ShowsVotes : Version → List DecodedBlock → Type 0
ShowsVotes v row = (g : ℕ) → g < hosts_in v → IsVoteBy v g (says_in row g).mbal (says_in row g)

-- and of each sound row that a disk has told
abbrev pub TellsVotes : Version → List Heard → Type 0
TellsVotes v a = (n : ℕ) (row : List DecodedBlock) → slice_get a n ≡ Some (Told (Some row)) → ShowsVotes v row
