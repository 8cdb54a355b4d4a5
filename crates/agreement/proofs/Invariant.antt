-- What holds in every state of every run, clause by clause, each with the reason why it is there.
use Rattle.std.proofs.Common.{ℕ, ◌<◌, ◌≤◌, ◌≡◌, ◌⊎◌, Bool, true, Option, Some, None}
use Rattle.agreement.specs.Majority.{IsMajority}
use Rattle.agreement.specs.State.{owner_of, Vote, Block, vote_in, Cell, seen, read_one, read_two, Opened, Asking, Telling, Mind, Proposal, State}
use Rattle.agreement.specs.State.Mind.{Idle, Opening, One, Two}
use Rattle.agreement.specs.Event.{Write, write_one, write_two}
use Rattle.agreement.specs.Chosen.{IsProposed}

-- each ballot's proposal, and what is accepted on which disk
abbrev pub Proposals : Type 0 → Type 0
Proposals Value = ℕ → Option (Proposal Value)

abbrev pub Accepted : Type 0
Accepted = ℕ → ℕ → Bool

-- VOTES AND BLOCKS

-- There is no vote yet, or it is for the proposal of its ballot: so whatever vote a host adopts, its value was proposed.
abbrev pub IsBacked : {Value : Type 0} → Proposals Value → Vote Value → Type 0
IsBacked {Value} proposed vote =
    ((vote.bal ≡ 0) × (vote.inp ≡ None)) ⊎ ((v : Value) × (vote.inp ≡ Some v) × IsProposed proposed vote.bal v)

-- ballot 0, or one of the host's
abbrev pub IsOf : ℕ → ℕ → Type 0
IsOf h ballot = (ballot ≡ 0) ⊎ (owner_of ballot ≡ h)

pub record IsVoteOf {Value : Type 0} (proposed : Proposals Value) (h : ℕ) (vote : Vote Value) : Type 0 where
  -- What a host says of a vote is true.
  pub backed : IsBacked proposed vote
  -- A host votes in ballots of its own: so another host's vote, in a ballot up to the reader's, is in a lesser one.
  pub owned : IsOf h vote.bal

pub record IsBlockOf {Value : Type 0} (proposed : Proposals Value) (h : ℕ) (x : Block Value) : Type 0 where
  -- A host votes only in a ballot that it has entered: so who reads no mbal above its ballot, reads no bal above it.
  pub low : x.bal ≤ x.mbal
  -- What stands in a block can be adopted.
  pub vote : IsVoteOf proposed h (vote_in x)

-- what a read may give in place of the confirmed block: a block of the same host that is not below it
pub record IsNext {Value : Type 0} (proposed : Proposals Value) (h : ℕ) (confirmed x : Block Value) : Type 0 where
  pub block : IsBlockOf proposed h x
  -- A host never takes back a ballot that it has entered,
  pub mbal : confirmed.mbal ≤ x.mbal
  -- nor a vote, but for a later one.
  pub bal : confirmed.bal ≤ x.bal

-- REGISTERS: what holds of each block on each disk, whatever its host does

pub record IsRegister {Value : Type 0} (proposed : Proposals Value) (accepted : Accepted) (h d : ℕ) (c : Cell Value) : Type 0 where
  -- A read may give the confirmed block,
  pub confirmed : IsBlockOf proposed h c.confirmed
  -- or the one in writing, which may be confirmed later, or vanish: either way no one is misled.
  pub writing : (x : Block Value) → c.writing ≡ Some x → IsNext proposed h c.confirmed x
  -- A vote that was accepted on the disk stands there, or a later one: so each later read there sees it.
  pub kept : (b : ℕ) → accepted b d ≡ true → owner_of b ≡ h → b ≤ c.confirmed.bal
  -- A ballot that was prepared and has a proposal stays entered: so no lesser one is accepted there any more.
  pub promised : (b : ℕ) (p : Proposal Value) → proposed b ≡ Some p → p.on d ≡ true → owner_of b ≡ h → b ≤ c.confirmed.mbal

-- STAGES: what a host in an attempt may count on, on each disk that it has come to

pub record IsSeen {Value : Type 0} (o : Opened Value) (c : Cell Value) : Type 0 where
  -- In the opening it only reads.
  pub stage : c.stage ≤ seen
  -- It knows each ballot that it entered there: so the ballot that it takes is new.
  pub mbal : c.confirmed.mbal ≤ o.top
  -- It knows its last vote there: so what it says next does not take that back.
  pub bal : c.confirmed.bal ≤ o.own.bal
  -- Nothing is in writing that could still change this.
  pub settled : c.writing ≡ None

-- of the write of a phase, from the time when it is due
pub record IsWrite {Value : Type 0} (w : Write Value) (c : Cell Value) : Type 0 where
  -- The block that is written is not below the confirmed one.
  pub mbal : c.confirmed.mbal ≤ w.block.mbal
  pub bal : c.confirmed.bal ≤ w.block.bal
  -- Nothing but that block is in writing, and only at the stage of the write.
  pub alone : (x : Block Value) → c.writing ≡ Some x → (c.stage ≡ w.stage) × (x ≡ w.block)
  -- Behind that stage it is confirmed: so it stands when the host reads, and whoever reads later sees it.
  pub wrote_mbal : w.stage < c.stage → w.block.mbal ≤ c.confirmed.mbal
  pub wrote_bal : w.stage < c.stage → w.block.bal ≤ c.confirmed.bal

pub record IsAsked {Value : Type 0} (accepted : Accepted) (d : ℕ) (a : Asking Value) (c : Cell Value) : Type 0 where
  -- In phase 1 it does not vote.
  pub stage : c.stage ≤ read_one
  pub write : IsWrite (write_one a) c
  -- Of a disk that it has read: whatever lesser ballot is accepted there, even since, is not above the last vote that it found.
  pub found : read_one ≤ c.stage → (b : ℕ) → accepted b d ≡ true → b < a.ballot → b ≤ a.best.bal

pub record IsTold {Value : Type 0} (accepted : Accepted) (d : ℕ) (t : Telling Value) (c : Cell Value) : Type 0 where
  pub write : IsWrite (write_two t) c
  -- Of a disk that it has read: its ballot is accepted there. So what it commits is chosen.
  pub told : read_two ≤ c.stage → accepted t.ballot d ≡ true

-- by what the host knows; phase 2 goes on only on the disks on which phase 1 was complete
abbrev pub IsInStage : {Value : Type 0} → Accepted → ℕ → Mind Value → Cell Value → Type 0
IsInStage accepted d Idle c = Unit {0}
IsInStage accepted d (Opening o) c = seen ≤ c.stage → IsSeen o c
IsInStage accepted d (One a) c = seen ≤ c.stage → IsAsked accepted d a c
IsInStage accepted d (Two t) c = read_one ≤ c.stage → IsTold accepted d t c

-- MINDS: what holds of each host's knowledge, on whatever disk

pub record IsOpened {Value : Type 0} (proposed : Proposals Value) (h : ℕ) (o : Opened Value) : Type 0 where
  -- What it will say of its own vote is true.
  pub own : IsVoteOf proposed h o.own
  -- A ballot above the top is above its last vote too.
  pub low : o.own.bal ≤ o.top

pub record IsAsking {Value : Type 0} (proposed : Proposals Value) (h : ℕ) (a : Asking Value) : Type 0 where
  -- Only the owner of a ballot uses it.
  pub owned : owner_of a.ballot ≡ h
  -- What it says of its own vote is true.
  pub own : IsVoteOf proposed h a.own
  -- The value that it may have to propose was proposed.
  pub best : IsBacked proposed a.best
  -- Its own vote counts among those found.
  pub from_own : a.own.bal ≤ a.best.bal
  -- The vote that it adopts is of a lesser ballot: so the ballots through which a value came down are ever lesser ones.
  pub below : a.best.bal < a.ballot
  -- It has made no proposal by this ballot, nor by a greater one: so no ballot gets a second proposal.
  pub fresh : (b : ℕ) (p : Proposal Value) → proposed b ≡ Some p → owner_of b ≡ h → b < a.ballot

pub record IsTelling {Value : Type 0} (proposed : Proposals Value) (h : ℕ) (t : Telling Value) : Type 0 where
  -- Only the owner of a ballot uses it.
  pub owned : owner_of t.ballot ≡ h
  -- It votes for its ballot's proposal.
  pub proposal : IsProposed proposed t.ballot t.value
  -- It has made no proposal by a greater ballot: so none of its own stands against its ballot's acceptance.
  pub last : (b : ℕ) (p : Proposal Value) → proposed b ≡ Some p → owner_of b ≡ h → b ≤ t.ballot

-- by what the host knows
abbrev pub IsMind : {Value : Type 0} → Proposals Value → ℕ → Mind Value → Type 0
IsMind proposed h Idle = Unit {0}
IsMind proposed h (Opening o) = IsOpened proposed h o
IsMind proposed h (One a) = IsAsking proposed h a
IsMind proposed h (Two t) = IsTelling proposed h t

-- PROPOSALS: each is safe at its ballot, whatever became of the host that made it

pub record IsSafeAt {Value : Type 0} (disks : ℕ) (proposed : Proposals Value) (accepted : Accepted) (b : ℕ) (p : Proposal Value) : Type 0 where
  -- Ballot 0 stands for no vote.
  pub positive : 0 < b
  -- It was prepared on a majority: so on a disk in common with each majority that ever accepts a ballot.
  pub majority : IsMajority disks p.on
  -- Its value is that of the ballot that it follows, if it follows one,
  pub same : (p.follows ≡ 0) ⊎ IsProposed proposed p.follows p.value
  -- which is a lesser one.
  pub below : p.follows < b
  -- On the disks of its phase 1 no ballot between that one and its own is accepted, and none will be.
  pub between : (d e : ℕ) → p.on d ≡ true → accepted e d ≡ true → e < b → e ≤ p.follows

-- THE WHOLE

pub record Holds {Value : Type 0} (disks : ℕ) (s : State Value) : Type 0 where
  pub registers : (h d : ℕ) → IsRegister s.proposed s.accepted h d (s.cell h d)
  pub stages : (h d : ℕ) → IsInStage s.accepted d (s.mind h) (s.cell h d)
  pub minds : (h : ℕ) → IsMind s.proposed h (s.mind h)
  pub proposals : (b : ℕ) (p : Proposal Value) → s.proposed b ≡ Some p → IsSafeAt disks s.proposed s.accepted b p
