-- An attempt as agreement's machine has it: what blocks say, how far it has come, what its host knows and writes.
use Rattle.std.specs.Prelude.{ℕ, List, [], ◌∷◌, slice_index_or}
use Rattle.paxos_block.specs.Saying.{Said as PBlock}
use Rattle.paxos_block.specs.Row.{DecodedBlock}
use Rattle.paxos_block.specs.Votes.{says_in, greatest}
use Rattle.attempt.specs.Calls.{Phase, Opening, One, Two}
use Rattle.attempt.specs.Answers.{Answers, row_in}
use Rattle.attempt.specs.Setup.{Setup}
use Rattle.attempt.specs.Proposal.{top_in, ballot, own, best, proposal}
use Rattle.attempt.specs.NextCall.{some_value, says_for}
use Rattle.agreement.specs.State.{Vote, Block, away, seen, writing_one, wrote_one, read_one, writing_two, wrote_two, read_two, Opened, Asking, Telling, Mind, State}
use Rattle.agreement.specs.State.Mind.{Opening as OpeningMind, One as OneMind, Two as TwoMind}
use Rattle.agreement.specs.Event.{Write}

-- the machine of one slot: what is proposed there is an input
abbrev pub Machine : Type 0
Machine = State (List ℕ)

-- WHAT BLOCKS SAY

-- what a block says
abbrev pub block_said : PBlock → Block (List ℕ)
block_said says = record { mbal = says.mbal; bal = says.bal; inp = says.inp }

-- its vote
abbrev pub vote_said : PBlock → Vote (List ℕ)
vote_said says = record { bal = says.bal; inp = says.inp }

-- the blocks of a row, by host
abbrev pub blocks_said : List DecodedBlock → ℕ → Block (List ℕ)
blocks_said row host = block_said (says_in row host)

-- HOW FAR IT HAS COME ON A DISK

-- the stage after none, one, .., seventeen answers
abbrev pub stages : List ℕ
stages =
    away ∷ away ∷ away ∷ seen
    ∷ writing_one ∷ writing_one ∷ writing_one ∷ writing_one ∷ writing_one ∷ wrote_one ∷ read_one
    ∷ writing_two ∷ writing_two ∷ writing_two ∷ writing_two ∷ writing_two ∷ wrote_two ∷ read_two ∷ []

-- of a disk with so many answers
abbrev pub stage_at : ℕ → ℕ
stage_at answers = slice_index_or stages answers away

-- WHAT THE HOST KNOWS

-- the greatest mbal in the opening's rows
abbrev pub top : Setup → Answers → ℕ
top s f = greatest s.disks (λ d. top_in s.version (row_in Opening (f d)))

-- in the opening: that, and the own latest vote
abbrev pub opened : Setup → Answers → Opened (List ℕ)
opened s f = record { top = top s f; own = vote_said (own s f) }

-- in phase 1: its ballot, the own latest vote, and the latest of all
abbrev pub asking : Setup → Answers → Asking (List ℕ)
asking s f = record { ballot = ballot s f; own = vote_said (own s f); best = vote_said (best s f) }

-- in phase 2: its ballot, and its proposal
abbrev pub telling : Setup → Answers → Telling (List ℕ)
telling s f = record { ballot = ballot s f; value = some_value (proposal s f) }

-- in each phase
abbrev pub mind_in : Setup → Phase → Answers → Mind (List ℕ)
mind_in s Opening f = OpeningMind (opened s f)
mind_in s One f = OneMind (asking s f)
mind_in s Two f = TwoMind (telling s f)

-- WHAT IT WRITES

-- the stage meanwhile
abbrev pub writing_in : Phase → ℕ
writing_in Opening = away
writing_in One = writing_one
writing_in Two = writing_two

-- the write of a phase, on whatever disk
abbrev pub write_in : Setup → Phase → Answers → Write (List ℕ)
write_in s p f = record { stage = writing_in p; block = block_said (says_for s p f) }
