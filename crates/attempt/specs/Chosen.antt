-- Of the headline. When a value is chosen, by what one attempt has heard.
use Rattle.std.specs.Prelude.{◌≡◌, ℕ, Bool, true, false, not, List, nat_lt, Option, Some, None}
use Rattle.torn_block.specs.Layout.{Version}
use Rattle.paxos_block.specs.Row.{DecodedBlock}
use Rattle.paxos_block.specs.Votes.{highest_mbal_of_others}
use Rattle.attempt.specs.Calls.{Two}
use Rattle.attempt.specs.Answers.{Answers, row_in}
use Rattle.attempt.specs.Setup.{Setup}
use Rattle.attempt.specs.Visits.{are_enough}
use Rattle.attempt.specs.Proposal.{ballot}
use Rattle.attempt.specs.Standing.{HasProposal}

-- a row was read, and no other host's mbal in it is above the ballot
abbrev pub accepts_in : Version → ℕ → ℕ → Option (List DecodedBlock) → Bool
accepts_in v host ballot None = false
accepts_in v host ballot (Some row) = not (nat_lt ballot (highest_mbal_of_others v host row))

-- so it is with the row of phase 2, the disk's seventeenth answer: behind the vote, none was faster
abbrev pub accepts : Setup → Answers → ℕ → Bool
accepts s f d = accepts_in s.version s.host (ballot s f) (row_in Two (f d))

-- in phase 2 the attempt proposes the value, and a majority of the disks accepts it
pub record Chooses (s : Setup) (f : Answers) (value : List ℕ) : Type 0 where
  pub proposes : HasProposal s f value
  pub majority : are_enough s (accepts s f) ≡ true
