-- Many slots: each host learns them in order, and proposes only in the slot behind those that it has learned.
use Rattle.std.specs.Prelude.{ℕ, ◌≡◌, ◌==◌, cond, List, [], ◌∷◌, ◌++◌, length}
use Rattle.agreement.specs.Run.{state_by, AllMay}
use Rattle.agreement.specs.State.{Block, State, put, start}
use Rattle.agreement.specs.Event.{Event, Allowed, after}
use Rattle.agreement.specs.Event.Event.{Crashes, Stops, Proposes}
use Rattle.agreement.specs.Chosen.{IsChosenBy}

-- a state for each slot, and the values that each host has learned, from slot 0 on
pub record Slots (Value : Type 0) : Type 0 where
  pub slot : ℕ → State Value
  pub learned : ℕ → List Value

pub data Move (Value : Type 0) : Type 0 where
  -- an event of one slot
  At : (k : ℕ) (e : Event Value) → Move Value
  -- a disk crashes, and so settles its blocks of every slot
  Crash : (d : ℕ) (left : ℕ → ℕ → Block Value) → Move Value
  -- a host learns the value that is chosen in the slot: it has committed it, or was told
  Learn : (h k ballot : ℕ) (v : Value) → Move Value
  -- a host stops, and forgets all that it has learned
  Restart : (h : ℕ) → Move Value

-- a host proposes only in the slot behind those that it has learned
abbrev pub IsNextSlot : {Value : Type 0} → Slots Value → ℕ → Event Value → Type 0
IsNextSlot c k (Proposes h a value) = k ≡ length (c.learned h)
IsNextSlot c k other = Unit {0}

-- the move may be made now
abbrev pub MayMove : {Value : Type 0} → ℕ → Slots Value → Move Value → Type 0
MayMove disks c (At k e) = Allowed disks (c.slot k) e × IsNextSlot c k e
MayMove disks c (Crash d left) = (k : ℕ) → Allowed disks (c.slot k) (Crashes d (left k))
MayMove disks c (Learn h k ballot v) = (k ≡ length (c.learned h)) × IsChosenBy disks (c.slot k) ballot v
MayMove disks c (Restart h) = Unit {0}

-- the slots after the move
abbrev pub moved : {Value : Type 0} → Slots Value → Move Value → Slots Value
moved c (At k e) = record { slot = put c.slot k (after (c.slot k) e); learned = c.learned }
moved c (Crash d left) = record { slot = λ k. after (c.slot k) (Crashes d (left k)); learned = c.learned }
moved c (Learn h k ballot v) = record { slot = c.slot; learned = put c.learned h (c.learned h ++ v ∷ []) }
moved c (Restart h) = record { slot = λ k. after (c.slot k) (Stops h); learned = put c.learned h [] }

-- at the start nothing is learned
abbrev pub none_learned : {Value : Type 0} → Slots Value
none_learned = record { slot = λ k. start; learned = λ h. [] }

-- the slots after some moves
abbrev pub moves : {Value : Type 0} → Slots Value → List (Move Value) → Slots Value
moves c ms = state_by moved c ms

-- each of the moves is allowed where it stands
abbrev pub AllMayMove : {Value : Type 0} → ℕ → Slots Value → List (Move Value) → Type 0
AllMayMove disks c ms = AllMay moved (MayMove disks) c ms

-- the moves are a history: from the start, each is allowed where it stands
abbrev pub IsHistory : {Value : Type 0} → ℕ → List (Move Value) → Type 0
IsHistory disks ms = AllMayMove disks none_learned ms

-- The slots after a history. Two places of one history are those after `early` and after `early ++ late`.
abbrev pub slots_after : {Value : Type 0} → List (Move Value) → Slots Value
slots_after ms = moves none_learned ms

-- WHAT ONE SLOT SEES OF IT

-- what a move is in slot k: one event, or none
abbrev pub events_at : {Value : Type 0} → ℕ → Move Value → List (Event Value)
events_at k (At j e) = cond (k == j) (e ∷ []) []
events_at k (Crash d left) = Crashes d (left k) ∷ []
events_at k (Learn h j ballot v) = []
events_at k (Restart h) = Stops h ∷ []

-- and what a history is there
abbrev pub events_of_slot : {Value : Type 0} → ℕ → List (Move Value) → List (Event Value)
events_of_slot k [] = []
events_of_slot k (m ∷ ms) = events_at k m ++ events_of_slot k ms
