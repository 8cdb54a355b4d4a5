-- What a core has under way in an epoch, and what it has to be given for that.
use Rattle.std.specs.Prelude.{◌≡◌, ◌<◌, ◌≤◌, ℕ, List, length, Option, Some, None}
use Rattle.disk.specs.Disk.{Answer, Told}
use Rattle.torn_block.specs.Layout.{cluster_version}
use Rattle.torn_block.specs.declared.layout.TheConstants.{ROW_LENGTH}
use Rattle.attempt.specs.Answers.{Answered, on}
use Rattle.attempt.specs.Votes.{IsLong, TellsVotes}
use Rattle.paxos_block.specs.Shape.{Shape}
use Rattle.lock_command.specs.Command.{spelling}
use Rattle.lock_command.specs.Reading.{decoded}
use Rattle.host.specs.declared.answer.HostAnswer.{HostAnswer}
use Rattle.host.specs.declared.answer.HostAnswer.TheVariants.{Ack}
use Rattle.host.specs.declared.task.Task.{Task}
use Rattle.host.specs.declared.task.Task.TheVariants.{Submit, Recover, Mark}
use Rattle.host.specs.Host.{Doing, Attempts, Looks, Beats, Marks, Memory, input_of}
use Rattle.host.specs.Kept.{Kept, LeadsTo}

-- there is an answer, and a slot that is told in it is learned
abbrev pub IsAnswer : Shape → (learned : ℕ) → Option HostAnswer → Type 0
IsAnswer c learned None = ⊥
IsAnswer c learned (Some (Ack slot reply)) = (slot < learned) × (slot < c.slots)
IsAnswer c learned (Some other) = Unit {0}

-- each row that was heard shows votes, as those do that are read whole from a disk
abbrev pub TellVotes : List Answered → Type 0
TellVotes heard = (d : ℕ) → TellsVotes cluster_version (on heard d)

-- What is under way is of a slot of the log, and heard whole rows; what is over has an answer.
abbrev pub IsAt : Shape → Memory → Option Doing → Type 0
IsAt c m None = IsAnswer c (length m.learned) m.said
IsAt c m (Some (Attempts t)) = (length m.learned < c.slots) × TellVotes t.heard × IsLong cluster_version (input_of t.operation)
IsAt c m (Some (Looks t)) = length m.learned < c.slots
IsAt c m (Some (Beats heard)) = Unit {0}
IsAt c m (Some (Marks t)) = (t.slot < c.slots) × TellVotes t.heard

-- a row that is told is a whole one
abbrev pub IsWhole : Answer → Type 0
IsWhole (Told bytes) = length bytes ≡ ROW_LENGTH
IsWhole other = Unit {0}

-- Something is known of the core that leads to what it keeps.
pub record IsKnown (k : Kept) : Type 0 where
  pub shape : Shape
  pub host : ℕ
  pub memory : Memory
  pub leads : LeadsTo shape host memory k

-- And what it has under way is of a slot, or it has answered.
pub record IsWorking (k : Kept) : Type 0 where
  pub shape : Shape
  pub host : ℕ
  pub memory : Memory
  pub leads : LeadsTo shape host memory k
  pub here : IsAt shape memory memory.doing

-- a command that is submitted is what its spelling reads as
abbrev pub IsSpelled : Task → Type 0
IsSpelled (Submit command tries) = decoded (spelling command) ≡ Some command
IsSpelled other = Unit {0}

-- A task has something to do: a slot that is not learned, or for a marking one that is.
abbrev pub HasRoom : Task → (learned slots : ℕ) → Type 0
HasRoom (Mark slot) learned slots = (slot < learned) × (slot < slots)
HasRoom other learned slots = learned < slots

-- it may be outrun at least once, if it may be outrun
abbrev pub GivesTries : Task → Type 0
GivesTries (Submit command tries) = 1 ≤ tries
GivesTries (Recover tries) = 1 ≤ tries
GivesTries other = Unit {0}
