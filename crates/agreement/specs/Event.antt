-- What may happen in one slot: the events, what each needs, what each leaves, and runs of them.
use Rattle.std.specs.Prelude.{ℕ, suc, ◌<◌, ◌≤◌, ◌≡◌, ◌≢◌, ◌==◌, ◌⊎◌, Bool, true, Option, Some, None, List}
use Rattle.agreement.specs.Majority.{IsMajority}
use Rattle.agreement.specs.Run.{state_by, AllMay}
use Rattle.agreement.specs.State.{HOSTS, owner_of, put, Vote, Block, vote_in, Cell, away, seen, writing_one, wrote_one, read_one, writing_two, wrote_two, read_two, Opened, Asking, Telling, Mind, none_opened, first_asking, with_best, Proposal, State, start}
use Rattle.agreement.specs.State.Mind.{Idle, Opening, One, Two}

-- THE WRITE OF A PHASE

-- the block that is written, and the stage meanwhile
pub record Write (Value : Type 0) : Type 0 where
  pub stage : ℕ
  pub block : Block Value

-- in phase 1 a host enters its ballot, and says its own last vote again
abbrev pub write_one : {Value : Type 0} → Asking Value → Write Value
write_one a = record { stage = writing_one; block = record { mbal = a.ballot; bal = a.own.bal; inp = a.own.inp } }

-- in phase 2 it votes for its proposal
abbrev pub write_two : {Value : Type 0} → Telling Value → Write Value
write_two t = record { stage = writing_two; block = record { mbal = t.ballot; bal = t.ballot; inp = Some t.value } }

-- what a host in this mind writes on each disk
abbrev pub write_of : {Value : Type 0} → Mind Value → Option (Write Value)
write_of Idle = None
write_of (Opening o) = None
write_of (One a) = Some (write_one a)
write_of (Two t) = Some (write_two t)

-- THE EVENTS

pub data Event (Value : Type 0) : Type 0 where
  -- a block settles to x: what is in writing there is confirmed, or vanishes
  Settles : (h d : ℕ) (x : Block Value) → Event Value
  -- a disk crashes: the blocks of all hosts there settle
  Crashes : (d : ℕ) (left : ℕ → Block Value) → Event Value
  -- a host stops, or ends its attempt
  Stops : (h : ℕ) → Event Value
  -- a host begins an attempt
  Starts : (h : ℕ) → Event Value
  -- a host gives up a disk for the rest of its attempt
  Drops : (h d : ℕ) → Event Value
  -- in the opening a host reads its own block on a disk
  Sees : (h d : ℕ) (old new : Opened Value) → Event Value
  -- the opening is complete, and the host takes a ballot
  Takes : (h : ℕ) (o : Opened Value) (ballot : ℕ) → Event Value
  -- a host begins to write the block of its phase on a disk
  Begins : (h d : ℕ) (w : Write Value) → Event Value
  -- that write is confirmed
  Confirms : (h d : ℕ) (w : Write Value) → Event Value
  -- in phase 1 a host reads the other hosts' blocks on a disk
  ReadsOne : (h d : ℕ) (row : ℕ → Block Value) (a : Asking Value) (best : Vote Value) → Event Value
  -- phase 1 is complete, and the host proposes a value
  Proposes : (h : ℕ) (a : Asking Value) (value : Value) → Event Value
  -- in phase 2 a host reads the other hosts' blocks on a disk
  ReadsTwo : (h d : ℕ) (row : ℕ → Block Value) (t : Telling Value) → Event Value

-- WHAT AN EVENT NEEDS

-- by a host's cells, the disks on which its attempt is at this stage
abbrev pub is_at : {Value : Type 0} → ℕ → (ℕ → Cell Value) → ℕ → Bool
is_at stage cells d = (cells d).stage == stage

-- a read gives the confirmed value, or the one in writing
abbrev pub IsReading : {Value : Type 0} → Cell Value → Block Value → Type 0
IsReading c x = (x ≡ c.confirmed) ⊎ (c.writing ≡ Some x)

-- h reads this row on d: the blocks of the other hosts, of whom none has entered a greater ballot
pub record IsRow {Value : Type 0} (s : State Value) (h d ballot : ℕ) (row : ℕ → Block Value) : Type 0 where
  pub reads : (g : ℕ) → g < HOSTS → g ≢ h → IsReading (s.cell g d) (row g)
  pub below : (g : ℕ) → g < HOSTS → g ≢ h → (row g).mbal ≤ ballot

-- the block stands in the row, as another host's
abbrev pub IsOthers : {Value : Type 0} → ℕ → (ℕ → Block Value) → Block Value → Type 0
IsOthers h row x = (g : ℕ) × (g < HOSTS) × (g ≢ h) × (x ≡ row g)

-- the new vote is the old one or one in a block that is read, and none of these is of a greater ballot
pub record IsLastVote {Value : Type 0} (IsRead : Block Value → Type 0) (old new : Vote Value) : Type 0 where
  pub kept : old.bal ≤ new.bal
  pub reached : (x : Block Value) → IsRead x → x.bal ≤ new.bal
  pub picked : (new ≡ old) ⊎ ((x : Block Value) × IsRead x × (new ≡ vote_in x))

-- A host reads its own block while nothing is in writing there, and takes it into its top and its last vote.
pub record CanSee {Value : Type 0} (c : Cell Value) (old new : Opened Value) : Type 0 where
  pub settled : c.writing ≡ None
  pub top_kept : old.top ≤ new.top
  pub top_reached : c.confirmed.mbal ≤ new.top
  pub own : IsLastVote (λ x. x ≡ c.confirmed) old.own new.own

-- h has prepared its ballot: its phase 1 is complete on a majority of the disks
pub record IsPrepared {Value : Type 0} (disks : ℕ) (s : State Value) (h : ℕ) (a : Asking Value) : Type 0 where
  pub asking : s.mind h ≡ One a
  pub majority : IsMajority disks (is_at read_one (s.cell h))

-- where the last vote has a value, that one; else any
abbrev pub MayPropose : {Value : Type 0} → Option Value → Value → Type 0
MayPropose None value = Unit {0}
MayPropose (Some found) value = value ≡ found

-- the event may happen now
abbrev pub Allowed : {Value : Type 0} → ℕ → State Value → Event Value → Type 0
Allowed disks s (Settles h d x) = IsReading (s.cell h d) x
Allowed disks s (Crashes d left) = (h : ℕ) → IsReading (s.cell h d) (left h)
Allowed disks s (Stops h) = Unit {0}
Allowed disks s (Starts h) = Unit {0}
Allowed disks s (Drops h d) = Unit {0}
Allowed disks s (Sees h d old new) = (s.mind h ≡ Opening old) × CanSee (s.cell h d) old new
Allowed disks s (Takes h o ballot) =
    (s.mind h ≡ Opening o) × (owner_of ballot ≡ h) × (o.top < ballot) × IsMajority disks (is_at seen (s.cell h))
Allowed disks s (Begins h d w) =
    (write_of (s.mind h) ≡ Some w) × (suc (s.cell h d).stage ≡ w.stage) × ((s.cell h d).writing ≡ None)
Allowed disks s (Confirms h d w) =
    (write_of (s.mind h) ≡ Some w) × ((s.cell h d).stage ≡ w.stage) × ((s.cell h d).writing ≡ Some w.block)
Allowed disks s (ReadsOne h d row a best) =
    (s.mind h ≡ One a) × ((s.cell h d).stage ≡ wrote_one) × IsRow s h d a.ballot row × IsLastVote (IsOthers h row) a.best best
Allowed disks s (Proposes h a value) = IsPrepared disks s h a × MayPropose a.best.inp value
Allowed disks s (ReadsTwo h d row t) = (s.mind h ≡ Two t) × ((s.cell h d).stage ≡ wrote_two) × IsRow s h d t.ballot row

-- WHAT AN EVENT LEAVES

-- the stage is another
abbrev pub at_stage : {Value : Type 0} → Cell Value → ℕ → Cell Value
at_stage c stage = record { confirmed = c.confirmed; writing = c.writing; stage = stage }

-- a block is being written
abbrev pub being_written : {Value : Type 0} → Cell Value → Write Value → Cell Value
being_written c w = record { confirmed = c.confirmed; writing = Some w.block; stage = w.stage }

-- a block is confirmed, and nothing is in writing
abbrev pub at_rest : {Value : Type 0} → Block Value → ℕ → Cell Value
at_rest x stage = record { confirmed = x; writing = None; stage = stage }

-- a host has another mind, and other cells
abbrev pub with_host : {Value : Type 0} → State Value → ℕ → Mind Value → (ℕ → Cell Value) → State Value
with_host s h m cells = record { cell = put s.cell h cells; mind = put s.mind h m; proposed = s.proposed; accepted = s.accepted }

-- a host has another cell on one disk
abbrev pub with_cell : {Value : Type 0} → State Value → ℕ → ℕ → Cell Value → State Value
with_cell s h d c = record { cell = put s.cell h (put (s.cell h) d c); mind = s.mind; proposed = s.proposed; accepted = s.accepted }

-- the attempt is on no disk
abbrev pub all_away : {Value : Type 0} → (ℕ → Cell Value) → ℕ → Cell Value
all_away cells d = at_stage (cells d) away

-- the proposal that a prepared host makes
abbrev pub proposal_of : {Value : Type 0} → Asking Value → Value → (ℕ → Cell Value) → Proposal Value
proposal_of a value cells = record { value = value; follows = a.best.bal; on = is_at read_one cells }

-- the state after the event
abbrev pub after : {Value : Type 0} → State Value → Event Value → State Value
after s (Settles h d x) = with_cell s h d (at_rest x (s.cell h d).stage)
after s (Crashes d left) = record {
  cell = λ h. put (s.cell h) d (at_rest (left h) (s.cell h d).stage);
  mind = s.mind;
  proposed = s.proposed;
  accepted = s.accepted;
}
after s (Stops h) = with_host s h Idle (all_away (s.cell h))
after s (Starts h) = with_host s h (Opening none_opened) (all_away (s.cell h))
after s (Drops h d) = with_cell s h d (at_stage (s.cell h d) away)
after s (Sees h d old new) = with_host s h (Opening new) (put (s.cell h) d (at_stage (s.cell h d) seen))
after s (Takes h o ballot) = with_host s h (One (first_asking o ballot)) (s.cell h)
after s (Begins h d w) = with_cell s h d (being_written (s.cell h d) w)
after s (Confirms h d w) = with_cell s h d (at_rest w.block (suc w.stage))
after s (ReadsOne h d row a best) = with_host s h (One (with_best a best)) (put (s.cell h) d (at_stage (s.cell h d) read_one))
after s (Proposes h a value) = record {
  cell = s.cell;
  mind = put s.mind h (Two (record { ballot = a.ballot; value = value }));
  proposed = put s.proposed a.ballot (Some (proposal_of a value (s.cell h)));
  accepted = s.accepted;
}
after s (ReadsTwo h d row t) = record {
  cell = put s.cell h (put (s.cell h) d (at_stage (s.cell h d) read_two));
  mind = s.mind;
  proposed = s.proposed;
  accepted = put s.accepted t.ballot (put (s.accepted t.ballot) d true);
}

-- RUNS

-- the state after some events
abbrev pub run : {Value : Type 0} → State Value → List (Event Value) → State Value
run s events = state_by after s events

-- each of the events is allowed where it stands
abbrev pub AllAllowed : {Value : Type 0} → ℕ → State Value → List (Event Value) → Type 0
AllAllowed disks s events = AllMay after (Allowed disks) s events

-- the events are a run: from the start, each is allowed where it stands
abbrev pub IsRun : {Value : Type 0} → ℕ → List (Event Value) → Type 0
IsRun disks events = AllAllowed disks start events

-- The state after a run. Two places of one run are the states after `early` and after `early ++ late`.
abbrev pub state_after : {Value : Type 0} → List (Event Value) → State Value
state_after events = run start events
