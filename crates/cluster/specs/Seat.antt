-- A host's seat, as its own list of entries, and when what it keeps is what follows from that.
use Rattle.std.specs.Prelude.{◌≡◌, ◌<◌, ℕ, length, Option, Some, None}
use Rattle.disk.specs.Disk.{Call, Attach}
use Rattle.lock_command.specs.declared.command.Command.{Command}
use Rattle.paxos_block.specs.Shape.{Shape}
use Rattle.host.specs.Host.{Host, Stopped, Running, Memory, Operation, Submitting, Recovering, Doing, Attempts, next_of}
use Rattle.host.specs.Kept.{Kept, LeadsTo}
use Rattle.host.specs.declared.task.Task.{Task}
use Rattle.host.specs.declared.task.Task.TheVariants.{Submit}
use Rattle.world.specs.Entry.{host_after}
use Rattle.cluster_tie.specs.Parts.{Own, entries}

-- the host that its entries make of a stopped one
abbrev pub host_in : Shape → Own → Host
host_in c own = host_after c own.number Stopped (entries own.entries)

abbrev pub due_or : Option (ℕ × Call) → ℕ × Call
due_or None = (0, Attach)
due_or (Some due) = due

-- the disk and the call that are due, where an operation is under way
abbrev pub due_in : Shape → Own → ℕ × Call
due_in c own = due_or (next_of c own.number (host_in c own))

-- the next call is on this disk
abbrev pub IsDueOn : Shape → Own → ℕ → Type 0
IsDueOn c own k = next_of c own.number (host_in c own) ≡ Some (k, (due_in c own).1)

-- the command that a seat keeps while it carries a task out
abbrev pub submitted_by : Task → Option Command
submitted_by (Submit command tries) = Some command
submitted_by other = None

-- the command that is being submitted is kept
abbrev pub IsKeptFor : Operation → Option Command → Type 0
IsKeptFor (Submitting command) submitting = submitting ≡ Some command
IsKeptFor Recovering submitting = submitting ≡ None

-- so it is while an attempt is under way, which is on a slot
abbrev pub IsKeptIn : Shape → Memory → Doing → Option Command → Type 0
IsKeptIn c m (Attempts t) submitting = (length m.learned < c.slots) × IsKeptFor t.operation submitting
IsKeptIn c m other submitting = Unit {0}

-- and nothing is told while a task is
abbrev pub IsDoing : Shape → Memory → Option Doing → Option Command → Type 0
IsDoing c m None submitting = Unit {0}
IsDoing c m (Some doing) submitting = (m.said ≡ None) × IsKeptIn c m doing submitting

-- the host runs, and this is what it keeps
pub record IsRunning (c : Shape) (own : Own) (core : Kept) (submitting : Option Command) : Type 0 where
  pub memory : Memory
  pub is : host_in c own ≡ Running memory
  pub leads : LeadsTo c own.number memory core
  pub doing : IsDoing c memory memory.doing submitting
