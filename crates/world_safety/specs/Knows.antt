-- What an attempt knows of its own block on a disk, as long as the disk has not crashed since it was attached.
use Rattle.std.specs.Prelude.{◌≡◌, ◌≤◌, ℕ, true, List, length, Some}
use Rattle.disk.specs.Disk.{DiskState}
use Rattle.disk.specs.Crash.{MayLeave}
use Rattle.torn_block.specs.Layout.{cluster_version}
use Rattle.torn_block.specs.declared.layout.TheConstants.{BLOCK_LENGTH, BODY_LENGTH}
use Rattle.torn_block.specs.declared.write_steps.WriteCall.{WriteCall}
use Rattle.torn_block.specs.declared.write_steps.WriteCall.TheVariants.{CloseGate, SyncClosed, PutBody, SyncBody, OpenGate, SyncOpened}
use Rattle.torn_block.specs.Place.{block_in}
use Rattle.torn_block.specs.Register.{IsAtRest}
use Rattle.torn_block.specs.Stage.{Write128, old_value, new_value, IsDue}
use Rattle.paxos_block.specs.Saying.{Said as PBlock}
use Rattle.paxos_block.specs.Places.{VoteOf, place_of, IsWriteOf}
use Rattle.paxos_block.specs.Row.{seen_in}
use Rattle.attempt.specs.Calls.{Phase, Kind, Attaching, Syncing, Reading, Putting}
use Rattle.attempt.specs.Answers.{Heard, Answers, all_good, boot_of, last_row, seen_block}
use Rattle.attempt.specs.Setup.{Setup}
use Rattle.attempt.specs.NextCall.{says_for, write_on}
use Rattle.agreement.specs.State.{Cell}
use Rattle.attempt_safety.specs.Registers.{IsNext}
use Rattle.world_safety.specs.Blocks.{said}

-- where the attempt's own block stands
abbrev pub own_place : Setup → ℕ
own_place s = place_of cluster_version (VoteOf s.slot s.host)

-- a write that the host may make
pub record CanWrite (host : ℕ) (says : PBlock) (w : Write128) : Type 0 where
  pub is_write : IsWriteOf host says w
  pub long : length w.block ≡ BLOCK_LENGTH
  pub full : length w.body ≡ BODY_LENGTH

-- A call of the write is due, but for its first: the value is in writing.
pub record IsWriting (host : ℕ) (says : PBlock) (w : Write128) (call : WriteCall) (disk : DiskState) (cell : Cell (List ℕ)) : Type 0 where
  pub due : IsDue call w disk
  pub can : CanWrite host says w
  pub confirmed : cell.confirmed ≡ said (old_value w)
  pub writing : cell.writing ≡ Some (said (new_value w))

-- so of the write of a phase
abbrev pub Writes : Setup → Phase → ℕ → Answers → WriteCall → DiskState → Cell (List ℕ) → Type 0
Writes s p d f call disk cell = IsWriting s.host (says_for s p f) (write_on s p d f) call disk cell

-- What the attempt knows by the call that is next: a row that it will read is of a block at rest; a write that it will begin is over the block
-- as it was read last; and a write goes on where it stopped.
abbrev pub KnowsFor : Kind → DiskState → Setup → Answers → ℕ → Cell (List ℕ) → Type 0
KnowsFor Attaching disk s f d cell = Unit {0}
KnowsFor Syncing disk s f d cell = Unit {0}
KnowsFor Reading disk s f d cell = IsAtRest cluster_version (own_place s) disk
KnowsFor (Putting p CloseGate) disk s f d cell =
    (bytes : List ℕ) → MayLeave disk bytes →
    seen_in cluster_version (block_in cluster_version (own_place s) bytes) ≡ seen_block (last_row (f d)) s.host
KnowsFor (Putting p SyncClosed) disk s f d cell = Writes s p d f SyncClosed disk cell
KnowsFor (Putting p PutBody) disk s f d cell = Writes s p d f PutBody disk cell
KnowsFor (Putting p SyncBody) disk s f d cell = Writes s p d f SyncBody disk cell
KnowsFor (Putting p OpenGate) disk s f d cell = Writes s p d f OpenGate disk cell
KnowsFor (Putting p SyncOpened) disk s f d cell = Writes s p d f SyncOpened disk cell

-- the disk answered well, and has not crashed since
pub record IsCurrent (disk : DiskState) (a : List Heard) : Type 0 where
  pub good : all_good a ≡ true
  pub boot : boot_of a ≡ disk.boot

pub record Knows (disk : DiskState) (s : Setup) (f : Answers) (d : ℕ) (cell : Cell (List ℕ)) : Type 0 where
  pub boot : boot_of (f d) ≤ disk.boot
  pub next : IsCurrent disk (f d) → (kind : Kind) → IsNext (f d) kind → KnowsFor kind disk s f d cell
