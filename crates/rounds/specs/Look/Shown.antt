-- What the rows that a look has read show.
use Rattle.std.specs.Prelude.{◌≡◌, ◌<◌, ℕ, true, List, Some, None}
use Rattle.torn_block.specs.declared.layout.TheConstants.{HOSTS}
use Rattle.paxos_block.specs.Row.{DecodedBlock}
use Rattle.paxos_block.specs.Votes.{says_in, marked}
use Rattle.attempt.specs.Answers.{Heard}
use Rattle.rounds.specs.Look.Status.{row_of}

-- a sound row was read on a disk, and a marked block there has this input
pub record IsMarkRead (a : List Heard) (value : List ℕ) : Type 0 where
  pub row : List DecodedBlock
  pub host : ℕ
  pub read : row_of a ≡ Some row
  pub below : host < HOSTS
  pub mark : (says_in row host).mark ≡ true
  pub inp : (says_in row host).inp ≡ Some value

-- a sound row was read on a disk, and no block there is marked with an input
pub record IsNoMarkRead (a : List Heard) : Type 0 where
  pub row : List DecodedBlock
  pub read : row_of a ≡ Some row
  pub none : (host : ℕ) → host < HOSTS → marked (says_in row host) ≡ None
