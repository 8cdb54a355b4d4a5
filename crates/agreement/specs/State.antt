-- One slot of Disk Paxos: what stands on the disks, what each host knows, and what has happened so far.
use Rattle.std.specs.Prelude.{ℕ, ◌-◌, ◌%◌, ◌==◌, Bool, false, cond, Option, None}

-- there are so many hosts
abbrev pub HOSTS : ℕ
HOSTS = 16

-- the host that a ballot belongs to
abbrev pub owner_of : ℕ → ℕ
owner_of ballot = (ballot - 1) % HOSTS

-- f, but with x at k
abbrev pub put : {A : Type 0} → (ℕ → A) → ℕ → A → ℕ → A
put f k x i = cond (i == k) x (f i)

-- WHAT A HOST SAYS. A value of any type is to be chosen.

-- a vote: a ballot, and the value that a host voted for in it; ballot 0 and no value stand for none
pub record Vote (Value : Type 0) : Type 0 where
  pub bal : ℕ
  pub inp : Option Value

-- what a host says in its block on a disk: the last ballot that it has entered, and its last vote
pub record Block (Value : Type 0) : Type 0 where
  pub mbal : ℕ
  pub bal : ℕ
  pub inp : Option Value

-- the vote in a block
abbrev pub vote_in : {Value : Type 0} → Block Value → Vote Value
vote_in x = record { bal = x.bal; inp = x.inp }

-- before a host has voted, and before it has entered a ballot
abbrev pub no_vote : {Value : Type 0} → Vote Value
no_vote = record { bal = 0; inp = None }

abbrev pub blank : {Value : Type 0} → Block Value
blank = record { mbal = 0; bal = 0; inp = None }

-- HOW FAR A HOST'S ATTEMPT HAS COME ON A DISK
--
-- | stage       | number | in its present attempt the host                            |
-- |-------------|--------|------------------------------------------------------------|
-- | away        | 0      | has not come to the disk, or has given it up               |
-- | seen        | 1      | has read its own block there, in the opening               |
-- | writing_one | 2      | is writing the block of phase 1                            |
-- | wrote_one   | 3      | has written it                                             |
-- | read_one    | 4      | has then read the other hosts' blocks: phase 1 is complete |
-- | writing_two | 5      | is writing the block of phase 2                            |
-- | wrote_two   | 6      | has written it                                             |
-- | read_two    | 7      | has then read the other hosts' blocks: phase 2 is complete |

abbrev pub away : ℕ
away = 0

abbrev pub seen : ℕ
seen = 1

abbrev pub writing_one : ℕ
writing_one = 2

abbrev pub wrote_one : ℕ
wrote_one = 3

abbrev pub read_one : ℕ
read_one = 4

abbrev pub writing_two : ℕ
writing_two = 5

abbrev pub wrote_two : ℕ
wrote_two = 6

abbrev pub read_two : ℕ
read_two = 7

-- A host's block on a disk, as a register that survives torn writes: the confirmed value, and the value in writing, if
-- there is one. And the stage of the host's attempt on the disk.
pub record Cell (Value : Type 0) : Type 0 where
  pub confirmed : Block Value
  pub writing : Option (Block Value)
  pub stage : ℕ

-- WHAT A HOST KNOWS

-- in the opening: the greatest mbal in its own blocks, and the last vote in them, as far as it has read them
pub record Opened (Value : Type 0) : Type 0 where
  pub top : ℕ
  pub own : Vote Value

-- in phase 1: its ballot, its own last vote, and the last vote of any host that it has found
pub record Asking (Value : Type 0) : Type 0 where
  pub ballot : ℕ
  pub own : Vote Value
  pub best : Vote Value

-- in phase 2: its ballot, and the value that it proposes
pub record Telling (Value : Type 0) : Type 0 where
  pub ballot : ℕ
  pub value : Value

-- A host is idle (stopped, or between two attempts), or in one of the three parts of an attempt.
pub data Mind (Value : Type 0) : Type 0 where
  Idle : Mind Value
  Opening : (opened : Opened Value) → Mind Value
  One : (asking : Asking Value) → Mind Value
  Two : (telling : Telling Value) → Mind Value

-- at the beginning of an attempt a host knows nothing, whatever it knew before
abbrev pub none_opened : {Value : Type 0} → Opened Value
none_opened = record { top = 0; own = no_vote }

-- with a ballot it goes on to phase 1: so far it has found its own last vote
abbrev pub first_asking : {Value : Type 0} → Opened Value → ℕ → Asking Value
first_asking o ballot = record { ballot = ballot; own = o.own; best = o.own }

-- and then a later one
abbrev pub with_best : {Value : Type 0} → Asking Value → Vote Value → Asking Value
with_best a best = record { ballot = a.ballot; own = a.own; best = best }

-- WHAT HAS HAPPENED

-- A proposal: its value, the ballot of the vote that it took the value from (0 if from none), and the disks on which its
-- phase 1 was complete.
pub record Proposal (Value : Type 0) : Type 0 where
  pub value : Value
  pub follows : ℕ
  pub on : ℕ → Bool

-- The hosts' blocks on the disks, and the hosts' minds. Beside them what no host can look up: each ballot's proposal,
-- if it has one, and whether a ballot was accepted on a disk, which is to say that its owner voted in it there, and then
-- read there no greater mbal.
pub record State (Value : Type 0) : Type 0 where
  pub cell : ℕ → ℕ → Cell Value
  pub mind : ℕ → Mind Value
  pub proposed : ℕ → Option (Proposal Value)
  pub accepted : ℕ → ℕ → Bool

-- at the start every block is blank, every host is idle, and nothing has happened
abbrev pub start : {Value : Type 0} → State Value
start = record {
  cell = λ h d. record { confirmed = blank; writing = None; stage = away };
  mind = λ h. Idle;
  proposed = λ ballot. None;
  accepted = λ ballot d. false;
}
