-- What an answer is in the machine: a few events of the attempt, and what they leave.
use Rattle.std.specs.Prelude.{◌≡◌, ◌≢◌, ◌≤◌, ℕ, List, ◌∷◌, [], ◌++◌, length, Some, None}
use Rattle.std.specs.List.{All}
use Rattle.torn_block.specs.declared.write_steps.WriteCall.TheVariants.{CloseGate, SyncOpened}
use Rattle.attempt.specs.Calls.{Kind, Putting}
use Rattle.attempt.specs.Answers.{Heard, Done, Answered, Answers, on}
use Rattle.attempt.specs.Setup.{Setup}
use Rattle.attempt.specs.Proposal.{ballot}
use Rattle.attempt.specs.NextCall.{says_for}
use Rattle.attempt.specs.Chosen.{Chooses}
use Rattle.attempt.specs.Prepared.{Proposes}
use Rattle.agreement.specs.State.{Block, Cell}
use Rattle.agreement.specs.Event.{Event, IsRun, state_after}
use Rattle.agreement.specs.Event.Event.{Sees, Takes, Begins, Confirms, ReadsOne, Proposes as MakesProposal, ReadsTwo}
use Rattle.agreement.specs.Chosen.{PutsIn, IsProposing, IsCommitted}
use Rattle.attempt_safety.specs.Machine.{Machine, block_said}
use Rattle.attempt_safety.specs.Follows.{Follows}
use Rattle.attempt_safety.specs.Registers.{IsNext}

-- WHOSE THE EVENTS ARE

-- the host reads or writes, or takes its ballot or proposes
abbrev pub IsOfHost : ℕ → Event (List ℕ) → Type 0
IsOfHost host (Sees h d old new) = h ≡ host
IsOfHost host (Takes h o b) = h ≡ host
IsOfHost host (Begins h d w) = h ≡ host
IsOfHost host (Confirms h d w) = h ≡ host
IsOfHost host (ReadsOne h d row a best) = h ≡ host
IsOfHost host (MakesProposal h a value) = h ≡ host
IsOfHost host (ReadsTwo h d row t) = h ≡ host
IsOfHost host other = ⊥

-- and what it puts in is the attempt's input, which the attempt then proposes
pub record IsOfAttempt (s : Setup) (g : Answers) (e : Event (List ℕ)) : Type 0 where
  pub host : IsOfHost s.host e
  pub input : (value : List ℕ) → PutsIn e value → s.input ≡ Some value
  pub proposes : (value : List ℕ) → PutsIn e value → Proposes s g value

-- WHAT BECOMES OF THE BLOCKS

-- nothing: what is confirmed and what is in writing is as before
pub record IsSameBlock (old new : Cell (List ℕ)) : Type 0 where
  pub confirmed : new.confirmed ≡ old.confirmed
  pub writing : new.writing ≡ old.writing

-- the value is in writing
pub record IsBegun (x : Block (List ℕ)) (old new : Cell (List ℕ)) : Type 0 where
  pub confirmed : new.confirmed ≡ old.confirmed
  pub writing : new.writing ≡ Some x

-- the value is confirmed
pub record IsConfirmed (x : Block (List ℕ)) (new : Cell (List ℕ)) : Type 0 where
  pub confirmed : new.confirmed ≡ x
  pub writing : new.writing ≡ None

-- The host's own block on the disk that answers: with the first call of a write, whatever its answer, the write has
-- begun; with the success of the sixth it is confirmed; no other answer changes the block.
abbrev pub OwnBlock : Setup → Answers → Kind → Heard → Cell (List ℕ) → Cell (List ℕ) → Type 0
OwnBlock s f (Putting p CloseGate) x old new = IsBegun (block_said (says_for s p f)) old new
OwnBlock s f (Putting p SyncOpened) Done old new = IsConfirmed (block_said (says_for s p f)) new
OwnBlock s f kind x old new = IsSameBlock old new

-- other hosts, and the host's blocks on other disks, are as before
pub record LeavesOthers (h d : ℕ) (old new : Machine) : Type 0 where
  pub minds : (g : ℕ) → g ≢ h → new.mind g ≡ old.mind g
  pub cells : (g e : ℕ) → g ≢ h → new.cell g e ≡ old.cell g e
  pub blocks : (e : ℕ) → e ≢ d → IsSameBlock (old.cell h e) (new.cell h e)

-- WHAT AN ANSWER LEADS TO

-- with an answer the machine has come from old to new
pub record Arrives (s : Setup) (heard : List Answered) (x : Answered) (old new : Machine) : Type 0 where
  -- it follows the attempt with the answer
  pub follows : Follows s (heard ++ x ∷ []) new
  -- what the attempt proposes with the answer its host proposes, also where it has no block left to vote in
  pub proposing : (value : List ℕ) → Proposes s (on (heard ++ x ∷ [])) value
      → IsProposing new s.host (ballot s (on (heard ++ x ∷ []))) value
  -- what is chosen with the answer is committed, however the attempt ends
  pub commits : (value : List ℕ) → Chooses s (on (heard ++ x ∷ [])) value
      → IsCommitted s.disks new s.host (ballot s (on (heard ++ x ∷ []))) value
  pub others : LeavesOthers s.host x.disk old new
  pub block : (kind : Kind) → IsNext (on heard x.disk) kind
      → OwnBlock s (on heard) kind x.heard (old.cell s.host x.disk) (new.cell s.host x.disk)

-- behind a run of the machine, the answer is at most two events: its own, and the end of a phase
pub record Leads (s : Setup) (early : List (Event (List ℕ))) (heard : List Answered) (x : Answered) : Type 0 where
  pub events : List (Event (List ℕ))
  pub few : length events ≤ 2
  pub own : All (IsOfAttempt s (on (heard ++ x ∷ []))) events
  -- each is allowed where it stands
  pub is_run : IsRun s.disks (early ++ events)
  pub arrives : Arrives s heard x (state_after early) (state_after (early ++ events))
