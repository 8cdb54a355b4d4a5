-- What the bytes of a disk owe: that an answer is one which the registers of the blocks allow.
use Rattle.std.specs.Prelude.{◌≡◌, ◌≢◌, ◌+◌, ◌<◌, ℕ, List, length, slice_get, Some, None, IsSome}
use Rattle.torn_block.specs.declared.layout.TheConstants.{HOSTS}
use Rattle.torn_block.specs.declared.write_steps.WriteCall.TheVariants.{SyncOpened}
use Rattle.paxos_block.specs.Row.{DecodedBlock}
use Rattle.attempt.specs.Calls.{Phase, Opening, Kind, Putting, seventeen, goal}
use Rattle.attempt.specs.Answers.{Heard, Done, Told}
use Rattle.agreement.specs.Event.{IsReading}
use Rattle.attempt_safety.specs.Machine.{Machine, blocks_said}

-- behind a disk's answers this one of the seventeen calls is next
abbrev pub IsNext : List Heard → Kind → Type 0
IsNext a kind = slice_get seventeen (length a) ≡ Some kind

-- behind a disk's answers this one is the row, a sound one, with which a phase is over there
abbrev pub IsRowOf : Phase → List Heard → Heard → List DecodedBlock → Type 0
IsRowOf p a x row = (length a + 1 ≡ goal p) × (x ≡ Told (Some row))

-- a host's attempt with these answers of a disk hears x of it
pub record RegistersAllow (host d : ℕ) (a : List Heard) (x : Heard) (m : Machine) : Type 0 where
  -- a row shows of each other host a block that its register may give
  pub others : (row : List DecodedBlock) → x ≡ Told (Some row) → (g : ℕ) → g < HOSTS → g ≢ host → IsReading (m.cell g d) (blocks_said row g)
  -- the opening reads the own block while nothing is in writing there,
  pub own_rests : (row : List DecodedBlock) → IsRowOf Opening a x row → (m.cell host d).writing ≡ None
  -- and so its confirmed value
  pub own_read : (row : List DecodedBlock) → IsRowOf Opening a x row → blocks_said row host ≡ (m.cell host d).confirmed
  -- when a write's sixth call succeeds, a value is still in writing, as since the first
  pub still_writing : (p : Phase) → IsNext a (Putting p SyncOpened) → x ≡ Done → IsSome (m.cell host d).writing
