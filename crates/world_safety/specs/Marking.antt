-- What a marking knows of the host's own block on a disk, as long as the disk has not crashed since it was attached.
use Rattle.std.specs.Prelude.{◌≡◌, ◌<◌, ◌≤◌, ℕ, true, List, length, slice_get, Some}
use Rattle.disk.specs.Crash.{MayLeave}
use Rattle.disk.specs.Disk.{DiskState}
use Rattle.torn_block.specs.Layout.{cluster_version}
use Rattle.torn_block.specs.declared.write_steps.WriteCall.{WriteCall}
use Rattle.torn_block.specs.declared.write_steps.WriteCall.TheVariants.{CloseGate, SyncClosed, PutBody, SyncBody, OpenGate, SyncOpened}
use Rattle.torn_block.specs.Place.{block_in}
use Rattle.torn_block.specs.Register.{IsAtRest}
use Rattle.torn_block.specs.Stage.{old_value, IsDue}
use Rattle.paxos_block.specs.Places.{VoteOf, place_of}
use Rattle.paxos_block.specs.Row.{says_of, seen_in}
use Rattle.attempt.specs.Calls.{Kind, Attaching, Syncing, Reading, Putting}
use Rattle.attempt.specs.Answers.{Heard, Booted, on, all_good, boot_of}
use Rattle.attempt.specs.Votes.{TellsVotes}
use Rattle.attempt_safety.specs.Registers.{IsNext}
use Rattle.rounds.specs.Marking.Status as mark
use Rattle.rounds.specs.Marking.Status.{own_block, with_mark, write_on}
use Rattle.paxos_block.specs.Shape.{Shape}
use Rattle.host.specs.Host.{Memory, Marking, marking_of}
use Rattle.world.specs.World.{World}
use Rattle.world_safety.specs.Knows.{CanWrite, IsCurrent}

-- where the block stands that is marked
abbrev pub marked_place : mark.Setup → ℕ
marked_place s = place_of cluster_version (VoteOf s.slot s.host)

-- a call of the write is due, but for its first
pub record IsMarking (s : mark.Setup) (a : List Heard) (call : WriteCall) (disk : DiskState) : Type 0 where
  pub due : IsDue call (write_on s a) disk
  pub can : CanWrite s.host (with_mark (own_block s a).says) (write_on s a)
  pub old : says_of cluster_version (old_value (write_on s a)) ≡ (own_block s a).says

-- By the call that is next: a row that it will read is of a block at rest; a write that it will begin is over the block as it was read; and a
-- write goes on where it stopped.
abbrev pub KnowsMarkFor : Kind → DiskState → mark.Setup → List Heard → Type 0
KnowsMarkFor Attaching disk s a = Unit {0}
KnowsMarkFor Syncing disk s a = Unit {0}
KnowsMarkFor Reading disk s a = IsAtRest cluster_version (marked_place s) disk
KnowsMarkFor (Putting p CloseGate) disk s a =
    (bytes : List ℕ) → MayLeave disk bytes → seen_in cluster_version (block_in cluster_version (marked_place s) bytes) ≡ own_block s a
KnowsMarkFor (Putting p SyncClosed) disk s a = IsMarking s a SyncClosed disk
KnowsMarkFor (Putting p PutBody) disk s a = IsMarking s a PutBody disk
KnowsMarkFor (Putting p SyncBody) disk s a = IsMarking s a SyncBody disk
KnowsMarkFor (Putting p OpenGate) disk s a = IsMarking s a OpenGate disk
KnowsMarkFor (Putting p SyncOpened) disk s a = IsMarking s a SyncOpened disk

pub record KnowsMark (disk : DiskState) (s : mark.Setup) (a : List Heard) : Type 0 where
  pub boot : boot_of a ≤ disk.boot
  pub booted : all_good a ≡ true → 1 ≤ length a → (boot : ℕ) × (slice_get a 0 ≡ Some (Booted boot))
  pub next : IsCurrent disk a → (kind : Kind) → IsNext a kind → KnowsMarkFor kind disk s a

-- A host marks a slot that it has learned, and knows its own blocks there.
pub record IsMarkingSlot (c : Shape) (w : World) (h : ℕ) (m : Memory) (t : Marking) : Type 0 where
  pub learned : t.slot < length m.learned
  pub fits : t.slot < c.slots
  pub knows : (d : ℕ) → KnowsMark (w.disk d) (marking_of c h m t.slot) (on t.heard d)
  pub votes : (d : ℕ) → TellsVotes cluster_version (on t.heard d)
