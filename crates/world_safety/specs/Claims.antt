-- What else is claimed of every run: of its ballots, of its log as it grows, of its recoveries, and of the majorities behind its answers.
use Rattle.std.specs.Prelude.{◌≡◌, ◌⊎◌, ◌<◌, ◌≤◌, ℕ, List, [], take, slice_get, Some}
use Rattle.paxos_block.specs.Row.{DecodedBlock}
use Rattle.attempt.specs.Answers.{Answered, on, row_in}
use Rattle.attempt.specs.Calls.{Opening}
use Rattle.attempt.specs.Laws.{OnMost}
use Rattle.attempt.specs.Prepared.{Proposes, IsPrepared, IsAccepted, IsMarkSeen}
use Rattle.attempt.specs.Proposal.{ballot}
use Rattle.attempt.specs.Setup.{Setup}
use Rattle.attempt.specs.Status.{Ended, Decided, status}
use Rattle.rounds.specs.Look.Status as look
use Rattle.lock_command.specs.declared.command.Command.{Command}
use Rattle.lock_command.specs.Command.{spelling}
use Rattle.lock_command.specs.declared.reply.Reply.{Reply}
use Rattle.paxos_block.specs.Shape.{Shape}
use Rattle.world.specs.Entry.{Filled, Begin}
use Rattle.world.specs.World.{World}
use Rattle.host.specs.declared.answer.HostAnswer.TheVariants.{Ack, Recovered}
use Rattle.host.specs.declared.task.Task.TheVariants.{Recover}
use Rattle.host.specs.Host.{Submitting}
use Rattle.world.specs.Chosen.{at, Hears, IsChosenAt, IsMigrated, IsLog, SaysAt, IsRecovery}
use Rattle.world_safety.specs.Goes.{IsTryingAt}
use Rattle.world.specs.Headline.{IsPrefix}
use Rattle.world.specs.Looks.{HearsLooking}
use Rattle.world_safety.specs.Marks.{AllMarksTrue}
use Rattle.world_safety.specs.Tracks.{IsChosenBefore}

-- BALLOTS

-- with the answer of entry i a value is chosen for a slot, in this ballot
pub record IsChosenIn (c : Shape) (log : List Filled) (i slot b : ℕ) (value : List ℕ) : Type 0 where
  pub is : IsChosenAt c log i slot value
  pub in_ballot : ballot is.setup (on is.heard) ≡ b

-- behind the answer of entry i a host's attempt on a slot has prepared this ballot, and this is the ballot's proposal, whether or not it has a block left to vote in
pub record IsProposedAt (c : Shape) (log : List Filled) (i slot b : ℕ) (value : List ℕ) : Type 0 where
  pub setup : Setup
  pub heard : List Answered
  pub hears : Hears c log i setup heard
  pub on_slot : setup.slot ≡ slot
  pub proposes : Proposes setup (on heard) value
  pub in_ballot : ballot setup (on heard) ≡ b

-- What is chosen in a ballot is the proposal of it, and of each greater one: before and after, by whatever host.
abbrev pub BindsGreater : Shape → List Filled → Type 0
BindsGreater c log = (i j slot b d : ℕ) (value other : List ℕ) → IsChosenIn c log i slot b value → b ≤ d → IsProposedAt c log j slot d other → other ≡ value

-- What was migrated is the proposal of each ballot.
abbrev pub BindsAll : Shape → List Filled → Type 0
BindsAll c log = (j slot d : ℕ) (value other : List ℕ) → IsMigrated log slot value → IsProposedAt c log j slot d other → other ≡ value

-- A ballot has one proposal, of one host, over all its incarnations.
pub record IsOneProposal {c : Shape} {log : List Filled} {i j slot b : ℕ} {value other : List ℕ} (first : IsProposedAt c log i slot b value) (second : IsProposedAt c log j slot b other) : Type 0 where
  pub same_host : second.hears.host ≡ first.hears.host
  pub same_value : other ≡ value

abbrev pub OneProposal : Shape → List Filled → Type 0
OneProposal c log = (i j slot b : ℕ) (value other : List ℕ) (first : IsProposedAt c log i slot b value) (second : IsProposedAt c log j slot b other) → IsOneProposal first second

-- A slot has a proposal only once each earlier slot has a chosen value.
abbrev pub ProposesInOrder : Shape → List Filled → Type 0
ProposesInOrder c log = (i slot b k : ℕ) (value : List ℕ) → IsProposedAt c log i slot b value → k < slot → (other : List ℕ) × IsChosenBefore c log i k other

-- THE LOG

-- The log so far begins the log of the whole.
abbrev pub LogGrows : Shape → List Filled → Type 0
LogGrows c log = (i : ℕ) (values longer : List (List ℕ)) → IsLog c (take i log) values → IsLog c log longer → IsPrefix values longer

-- RECOVERIES

-- Whoever says that it has recovered began a recovery, and has made device calls alone since then.
abbrev pub AllBegun : Shape → List Filled → Type 0
AllBegun c log = (j host n : ℕ) → SaysAt c log j host (Recovered n) → (i : ℕ) × IsRecovery c log i j host n

-- no attempt of the host on this slot is under way, or it has heard nothing yet
abbrev pub HasHeardNothing : World → ℕ → ℕ → Type 0
HasHeardNothing w host slot = (trying : IsTryingAt w host slot) → trying.doing.heard ≡ []

-- Where a host answers that it has recovered n commands, nothing had been chosen for slot n, nor for a later one, by any place at which the host did
-- not try slot n, or its attempt had heard nothing: so nothing before the attempt that found the slot empty made its first call, on whichever try.
abbrev pub EmptyShows : Shape → List Filled → Type 0
EmptyShows c log =
    (i j host n slot : ℕ) (value : List ℕ) → HasHeardNothing (at c log i) host n → i ≤ j → SaysAt c log j host (Recovered n) → IsChosenBefore c log i slot value → slot < n

-- A recovery of any host that answers holds whatever was chosen before it began, for any host: what it has learned is longer.
abbrev pub MissesNothing : Shape → List Filled → Type 0
MissesNothing c log =
    (i j host n slot : ℕ) (value : List ℕ) → IsRecovery c log i j host n → IsChosenBefore c log i slot value → slot < n

-- No recovery is shorter than one that had answered before it began.
abbrev pub NoneShorter : Shape → List Filled → Type 0
NoneShorter c log = (i j k l host other n m : ℕ) → IsRecovery c log i j host n → IsRecovery c log k l other m → j < k → n ≤ m

-- MAJORITIES

-- With the answer of entry i a host's attempt is prepared: on more than half of the disks the six calls that wrote its ballot, and the read of the row behind them, were answered well.
pub record IsPreparedAt (c : Shape) (log : List Filled) (i host : ℕ) : Type 0 where
  pub setup : Setup
  pub heard : List Answered
  pub hears : Hears c log i setup heard
  pub of_host : hears.host ≡ host
  pub prepared : IsPrepared setup heard

-- With the answer of entry i a host's attempt on a slot is accepted, with the command that the host was submitting: on more than half of the disks the six calls that wrote its vote for that command's spelling, and the read of the row behind them, were answered well.
pub record IsAcceptedAt (c : Shape) (log : List Filled) (i host slot : ℕ) : Type 0 where
  pub setup : Setup
  pub heard : List Answered
  pub hears : Hears c log i setup heard
  pub of_host : hears.host ≡ host
  pub on_slot : setup.slot ≡ slot
  pub command : Command
  pub submitting : hears.doing.operation ≡ Submitting command
  pub accepted : IsAccepted setup heard (spelling command)

-- With the answer of entry i a host's attempt on a slot is told what was decided: on more than half of the disks it has read the slot's row, and in one of these rows a block with this value is marked.
pub record IsToldAt (c : Shape) (log : List Filled) (i host slot : ℕ) : Type 0 where
  pub setup : Setup
  pub heard : List Answered
  pub hears : Hears c log i setup heard
  pub of_host : hears.host ≡ host
  pub on_slot : setup.slot ≡ slot
  pub value : List ℕ
  pub opened : OnMost setup (λ d. (row : List DecodedBlock) × (row_in Opening (on heard d) ≡ Some row))
  pub marked : IsMarkSeen setup (on heard) value

-- With the answer of entry i a host's attempt on a slot is told that the command which the host was submitting was decided: the marked block has that command's spelling.
pub record IsToldOwnAt (c : Shape) (log : List Filled) (i host slot : ℕ) : Type 0 where
  pub told : IsToldAt c log i host slot
  pub command : Command
  pub submitting : told.hears.doing.operation ≡ Submitting command
  pub own : told.value ≡ spelling command

-- entry i begins a recovery of a host that has learned all slots
pub record IsFullAt (c : Shape) (log : List Filled) (i host n : ℕ) : Type 0 where
  pub tries : ℕ
  pub begins : slice_get log i ≡ Some (Begin host (Recover tries))
  pub full : c.slots ≤ n

-- No acknowledgement without a majority that answered,
abbrev pub AcknowledgesByMajority : Shape → List Filled → Type 0
AcknowledgesByMajority c log = (i host slot : ℕ) (reply : Reply) → SaysAt c log i host (Ack slot reply) → IsAcceptedAt c log i host slot ⊎ IsToldOwnAt c log i host slot

-- and no recovery, but for one that is answered where it begins, as all slots were learned.
abbrev pub RecoversByMajority : Shape → List Filled → Type 0
RecoversByMajority c log = (i host n : ℕ) → SaysAt c log i host (Recovered n) → IsPreparedAt c log i host ⊎ (((slot : ℕ) × IsToldAt c log i host slot) ⊎ IsFullAt c log i host n)

-- MARKS

-- Whatever a crash before entry i may make of a host's block of a slot on a disk: if it is marked, its input was chosen before for the slot.
abbrev pub MarksChosen : Shape → List Filled → Type 0
MarksChosen c log = (i : ℕ) → AllMarksTrue c (at c log i) (IsChosenBefore c log i)

-- What an attempt takes as decided with the answer of entry i was chosen before, for its slot.
abbrev pub DecidesChosenBefore : Shape → List Filled → Type 0
DecidesChosenBefore c log = (i : ℕ) (s : Setup) (heard : List Answered) (value : List ℕ) → Hears c log i s heard → status s (on heard) ≡ Ended (Decided value) → IsChosenBefore c log i s.slot value

-- And so was what a look is told with the answer of entry i, by one marked block on one disk.
abbrev pub LooksToldChosen : Shape → List Filled → Type 0
LooksToldChosen c log =
    (i : ℕ) (s : look.Setup) (heard : List Answered) (d : ℕ) (value : List ℕ) → HearsLooking c log i s heard → look.status s (on heard) ≡ look.Ended (look.Decided d value) → IsChosenBefore c log i s.slot value
