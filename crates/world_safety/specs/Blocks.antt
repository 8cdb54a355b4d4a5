-- When a host's block on a disk stands for the cell that the machine of a slot has for it.
use Rattle.std.specs.Prelude.{ℕ, List}
use Rattle.disk.specs.Crash.{MayLeave}
use Rattle.disk.specs.Disk.{DiskState}
use Rattle.torn_block.specs.Layout.{cluster_version}
use Rattle.torn_block.specs.Block.{value_of}
use Rattle.torn_block.specs.Place.{block_in}
use Rattle.torn_block.specs.Register.{Value}
use Rattle.paxos_block.specs.Places.{VoteOf, place_of, IsSoundAt}
use Rattle.paxos_block.specs.Row.{says_of}
use Rattle.agreement.specs.State.{Block, Cell}
use Rattle.agreement.specs.Event.{IsReading}
use Rattle.attempt_safety.specs.Machine.{block_said}

-- what a value says, but for a mark
abbrev pub said : Value → Block (List ℕ)
said value = block_said (says_of cluster_version value)

-- The block is sound, and says what the cell may give: now, and after a crash now.
pub record Stands (disk : DiskState) (slot host : ℕ) (cell : Cell (List ℕ)) : Type 0 where
  pub reads : (bytes : List ℕ) → MayLeave disk bytes →
      IsReading cell (said (value_of cluster_version (block_in cluster_version (place_of cluster_version (VoteOf slot host)) bytes)))
  pub sound : IsSoundAt cluster_version host (place_of cluster_version (VoteOf slot host)) disk
