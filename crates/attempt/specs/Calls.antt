-- Of the headline. The device calls of an attempt on one disk, in their order, and the phase that each is of.
use Rattle.std.specs.Prelude.{◌++◌, ℕ, List, [], ◌∷◌, map}
use Rattle.torn_block.specs.declared.write_steps.WriteCall.{WriteCall}
use Rattle.torn_block.specs.declared.write_steps.WriteCall.TheVariants.{CloseGate, SyncClosed, PutBody, SyncBody, OpenGate, SyncOpened}

-- the opening, in which rows are read; phase 1, in which a ballot is promised; phase 2, in which it is voted for
pub data Phase : Type 0 where
  Opening : Phase
  One : Phase
  Two : Phase

-- a call of the write of phase 1 or 2 is one of six
pub data Kind : Type 0 where
  Attaching : Kind
  Syncing : Kind
  Reading : Kind
  Putting : (phase : Phase) → (call : WriteCall) → Kind

abbrev pub six_calls : List WriteCall
six_calls = CloseGate ∷ SyncClosed ∷ PutBody ∷ SyncBody ∷ OpenGate ∷ SyncOpened ∷ []

-- attach, sync, read; write and read; write and read
abbrev pub seventeen : List Kind
seventeen = (Attaching ∷ Syncing ∷ Reading ∷ []) ++ map (Putting One) six_calls ++ (Reading ∷ []) ++ map (Putting Two) six_calls ++ (Reading ∷ [])

-- so many of a disk's calls come before a phase
abbrev pub start : Phase → ℕ
start Opening = 0
start One = 3
start Two = 10

-- and so many have been made when it is over there: the last of them reads the row
abbrev pub goal : Phase → ℕ
goal Opening = 3
goal One = 10
goal Two = 17
