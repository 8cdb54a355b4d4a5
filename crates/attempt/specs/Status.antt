-- Of the headline. Where an attempt stands: the disk on which a call is due, or its end.
use Rattle.std.specs.Prelude.{ℕ, Bool, true, List, nat_lt, Option, Some, None, if◌then◌else◌, is_some}
use Rattle.paxos_block.specs.declared.ballot.TheConstants.{LAST_BALLOT}
use Rattle.attempt.specs.Calls.{Phase, Opening, One, Two}
use Rattle.attempt.specs.Answers.{Answers, row_in}
use Rattle.attempt.specs.Setup.{Setup}
use Rattle.attempt.specs.Visits.{visited, is_left_at, are_enough}
use Rattle.attempt.specs.Proposal.{ballot, proposal, decided, others_mbal}

-- how an attempt ends: its proposal is chosen; a marked block tells what was chosen; it found no input and has none;
-- another host has a greater ballot; too few disks are left; there is no greater ballot
pub data End : Type 0 where
  Committed : (value : List ℕ) → End
  Decided : (value : List ℕ) → End
  Empty : End
  Outrun : (mbal : ℕ) → End
  NoMajority : End
  BallotsSpent : End

-- in a phase the next call is on a disk, or the attempt has ended
pub data Status : Type 0 where
  Due : (phase : Phase) → (disk : ℕ) → Status
  Ended : (end : End) → Status

abbrev pub next_or : Phase → Option ℕ → Status → Status
next_or p None rest = rest
next_or p (Some d) rest = Due p d

-- too few disks are left, or a call of the phase is due, or all disks left were visited
abbrev pub through : Setup → Phase → Answers → Status → Status
through s p f rest = let at = visited s p f in
    if are_enough s (is_left_at at s p f) then next_or p at rest else Ended NoMajority

abbrev pub unless_outrun : Setup → Phase → Answers → Status → Status
unless_outrun s p f rest = if nat_lt (ballot s f) (others_mbal s p f) then Ended (Outrun (others_mbal s p f)) else rest

abbrev pub proposing : Option (List ℕ) → (List ℕ → Status) → Status
proposing None rest = Ended Empty
proposing (Some value) rest = rest value

-- phase 2 with a proposal
abbrev pub voting : Setup → Answers → List ℕ → Status
voting s f value = unless_outrun s Two f (through s Two f (Ended (Committed value)))

-- phase 1, and what comes after it
abbrev pub promising : Setup → Answers → Status
promising s f = unless_outrun s One f (through s One f (proposing (proposal s f) (voting s f)))

-- a ballot, if there is one, and phase 1
abbrev pub balloting : Setup → Answers → Status
balloting s f = if nat_lt LAST_BALLOT (ballot s f) then Ended BallotsSpent else promising s f

-- what is decided ends the attempt
abbrev pub unless_decided : Option (List ℕ) → Status → Status
unless_decided None rest = rest
unless_decided (Some value) rest = Ended (Decided value)

-- the opening, the ballot, phase 1, the proposal, phase 2
abbrev pub status : Setup → Answers → Status
status s f = through s Opening f (unless_decided (decided s f) (balloting s f))

-- THE BALLOT TAKEN

abbrev pub is_opened : Answers → ℕ → Bool
is_opened f d = is_some (row_in Opening (f d))

abbrev pub taken_by : ℕ → Option ℕ → Bool → ℕ
taken_by b None true = if nat_lt LAST_BALLOT b then 0 else b
taken_by b other enough = 0

-- nothing was decided, so that a ballot was taken
abbrev pub if_open : Option (List ℕ) → ℕ → ℕ
if_open None b = b
if_open (Some value) b = 0

-- the ballot counts as the host's own once the opening is complete on enough disks, and shows nothing decided, whatever comes
-- later; else 0
abbrev pub taken : Setup → Answers → ℕ
taken s f = if_open (decided s f) (taken_by (ballot s f) (visited s Opening f) (are_enough s (is_opened f)))
