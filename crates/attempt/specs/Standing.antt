-- Of the headline. How far an attempt has come: that the phases before are over, and how.
use Rattle.std.specs.Prelude.{◌≡◌, ℕ, false, List, nat_lt, Some, None}
use Rattle.paxos_block.specs.declared.ballot.TheConstants.{LAST_BALLOT}
use Rattle.attempt.specs.Calls.{Phase, Opening, One, Two}
use Rattle.attempt.specs.Answers.{Answers}
use Rattle.attempt.specs.Setup.{Setup}
use Rattle.attempt.specs.Visits.{visited}
use Rattle.attempt.specs.Proposal.{ballot, proposal, decided, others_mbal}

-- no other host was seen with a greater ballot in the phase
abbrev pub NotOutrun : Setup → Phase → Answers → Type 0
NotOutrun s Opening f = Unit {0}
NotOutrun s One f = nat_lt (ballot s f) (others_mbal s One f) ≡ false
NotOutrun s Two f = nat_lt (ballot s f) (others_mbal s Two f) ≡ false

-- the opening is over, nothing is decided, and there is a ballot
pub record HasBallot (s : Setup) (f : Answers) : Type 0 where
  pub over : visited s Opening f ≡ None
  pub undecided : decided s f ≡ None
  pub fits : nat_lt LAST_BALLOT (ballot s f) ≡ false

-- so is phase 1, and there is a proposal
pub record HasProposal (s : Setup) (f : Answers) (value : List ℕ) : Type 0 where
  pub taken : HasBallot s f
  pub over : visited s One f ≡ None
  pub not_outrun : NotOutrun s One f
  pub is : proposal s f ≡ Some value

-- the attempt has come to a phase
abbrev pub IsIn : Setup → Phase → Answers → Type 0
IsIn s Opening f = Unit {0}
IsIn s One f = HasBallot s f
IsIn s Two f = (value : List ℕ) × HasProposal s f value
