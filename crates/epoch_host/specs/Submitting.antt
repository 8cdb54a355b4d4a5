-- What a core submits in an epoch: first what carries the table over, slot by slot, and behind that only what clients ask for.
use Rattle.std.specs.Prelude.{◌≡◌, ◌≤◌, ℕ, true, List, length, slice_get, Contains, Option, Some, None}
use Rattle.lock_command.specs.declared.command.Command.{Command}
use Rattle.lock_command.specs.Command.{spelling, is_submittable}
use Rattle.host.specs.declared.task.Task.{Task}
use Rattle.host.specs.declared.task.Task.TheVariants.{Submit}
use Rattle.host.specs.Host.{Operation, Submitting, Recovering, Doing, Attempts, Looks as LooksOn, Marks as MarksSlot}
use Rattle.epoch_host.specs.declared.over.Over.{Over}
use Rattle.epoch_host.specs.declared.over.Over.TheVariants.{Unknown, Known}
use Rattle.epoch_host.specs.declared.stay.Work.{Work}
use Rattle.epoch_host.specs.declared.stay.Work.TheVariants.{Goes, Carries, Marks, Looks}

-- A command for which a client may ask stands only behind all that carries the table over.
abbrev pub HasClients : List Command → Type 0
HasClients learned = (earlier : Command) × Contains learned earlier × (is_submittable earlier ≡ true)

-- all that carries the table over is among these
abbrev pub Stands : Over → List Command → Type 0
Stands Unknown learned = HasClients learned
Stands (Known values before) learned = length values.items ≤ length learned

-- so a client's command may be submitted
abbrev pub IsClients : Over → List Command → Operation → Type 0
IsClients over learned Recovering = Unit {0}
IsClients over learned (Submitting command) = Stands over learned × (is_submittable command ≡ true)

-- or it is the command that is due in this slot
abbrev pub IsDueIn : Over → ℕ → Operation → Type 0
IsDueIn (Known values before) slot (Submitting command) = slice_get values.items slot ≡ Some (spelling command)
IsDueIn over slot operation = ⊥

-- The core that carries a part of the table over submits it in its slot; the one that marks it submits nothing, nor does one that only looks; and any other submits what clients ask for, if it submits anything.
abbrev pub SubmitsFor : Over → Work → (learned : List Command) → Option Doing → Type 0
SubmitsFor over Goes learned (Some (Attempts t)) = IsClients over learned t.operation
SubmitsFor over Goes learned other = Unit {0}
SubmitsFor over (Carries slot) learned None = Unit {0}
SubmitsFor over (Carries slot) learned (Some (Attempts t)) = (slot ≡ length learned) × IsDueIn over slot t.operation
SubmitsFor over (Carries slot) learned (Some other) = ⊥
SubmitsFor over Marks learned None = Unit {0}
SubmitsFor over Marks learned (Some (MarksSlot t)) = Unit {0}
SubmitsFor over Marks learned (Some other) = ⊥
SubmitsFor over Looks learned None = Unit {0}
SubmitsFor over Looks learned (Some (LooksOn t)) = Unit {0}
SubmitsFor over Looks learned (Some other) = ⊥

-- it has not gone on to another slot with what was due in one
abbrev pub StaysAt : Work → (learned : ℕ) → Type 0
StaysAt (Carries slot) learned = learned ≤ slot
StaysAt other learned = Unit {0}

-- a command that is submitted as a task is the host's own, and a client may ask for it
abbrev pub IsAsked : (host : ℕ) → Task → Type 0
IsAsked h (Submit command tries) = (command.host ≡ h) × (is_submittable command ≡ true)
IsAsked h other = Unit {0}

-- a task may be begun
abbrev pub MayCarryOut : Over → List Command → Task → Type 0
MayCarryOut over learned (Submit command tries) = Stands over learned × (is_submittable command ≡ true)
MayCarryOut over learned other = Unit {0}
