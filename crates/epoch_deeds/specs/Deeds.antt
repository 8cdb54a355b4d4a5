-- What a host does in all epochs since its start, and what its core in each of them is by that.
use Rattle.std.specs.Prelude.{◌==◌, ℕ, List, [], ◌∷◌, if◌then◌else◌}
use Rattle.disk.specs.Disk.{Call, Answer}
use Rattle.standings.specs.Past.{Made, Past}
use Rattle.paxos_block.specs.Shape.{Shape}
use Rattle.host.specs.declared.task.Task.{Task}
use Rattle.host.specs.Host.{Host, Stopped, Running, fresh, starts, hears_from}

pub data Deed : Type 0 where
  -- it makes a call on a disk, which is answered
  Calls : (disk : ℕ) → (made : Made) → Deed
  -- it makes one for the call that its core in an epoch has due there, and by that the core hears this
  CallsIn : (epoch disk : ℕ) → (made : Made) → (call : Call) → (heard : Answer) → Deed
  -- in an epoch a core starts, which knows nothing
  Starts : (epoch : ℕ) → Deed
  -- it is given a task
  Begins : (epoch : ℕ) → (task : Task) → Deed
  -- it is stopped
  Stops : (epoch : ℕ) → Deed

abbrev pub Deeds : Type 0
Deeds = List Deed

-- its device calls on a disk
abbrev pub past_on : ℕ → Deeds → Past
past_on d [] = []
past_on d (Calls disk made ∷ deeds) = if disk == d then made ∷ past_on d deeds else past_on d deeds
past_on d (CallsIn epoch disk made call heard ∷ deeds) = if disk == d then made ∷ past_on d deeds else past_on d deeds
past_on d (other ∷ deeds) = past_on d deeds

-- A CORE

abbrev pub begun : Shape → Host → Task → Host
begun c Stopped task = Stopped
begun c (Running m) task = Running (starts c m task)

abbrev pub hearing : Shape → ℕ → Host → ℕ → Answer → Host
hearing c h Stopped d answer = Stopped
hearing c h (Running m) d answer = Running (hears_from c h m m.doing d answer)

-- what a deed makes of the core of an epoch
abbrev pub core_step : Shape → (h e : ℕ) → Host → Deed → Host
core_step c h e core (Calls disk made) = core
core_step c h e core (CallsIn epoch d made call heard) = if epoch == e then hearing c h core d heard else core
core_step c h e core (Starts epoch) = if epoch == e then Running fresh else core
core_step c h e core (Begins epoch task) = if epoch == e then begun c core task else core
core_step c h e core (Stops epoch) = if epoch == e then Stopped else core

abbrev pub core_after : Shape → (h e : ℕ) → Host → Deeds → Host
core_after c h e core [] = core
core_after c h e core (deed ∷ deeds) = core_after c h e (core_step c h e core deed) deeds

-- the core of an epoch, by all that its host did
abbrev pub core_in : Shape → (h e : ℕ) → Deeds → Host
core_in c h e deeds = core_after c h e Stopped deeds
