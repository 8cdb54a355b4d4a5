-- Of one epoch: who submits by what its host knows there.
use Rattle.std.specs.Prelude.{◌≡◌, ◌⊎◌, ℕ, true, List, length, slice_get, Some}
use Rattle.lock_command.specs.declared.command.Command.{Command}
use Rattle.lock_command.specs.Command.{is_submittable}
use Rattle.paxos_block.specs.Shape.{Shape}
use Rattle.host.specs.Host.{Submitting, Attempt, Attempts, Memory, Running}
use Rattle.world.specs.Entry.{Filled}
use Rattle.world.specs.Chosen.{at}
use Rattle.endless.specs.Epochs.{IsCallAt}
use Rattle.endless.specs.Headline.{IsDue}
use Rattle.epoch_deeds.specs.Knowing.{HasClients}

-- by what it knows a host submits what is due, or a command for which a client may ask, behind one of these
abbrev pub SubmitsByKnowing : List Command → (learned : List Command) → Command → Type 0
SubmitsByKnowing over learned command = IsDue (slice_get over (length learned)) command ⊎ (HasClients learned × (is_submittable command ≡ true))

-- whoever makes a call and submits does so
abbrev pub AllSubmitByKnowing : Shape → List Filled → List Command → Type 0
AllSubmitByKnowing c log over =
    (i h : ℕ) (memory : Memory) (doing : Attempt) (command : Command) → IsCallAt log i h → (at c log i).host h ≡ Running memory → memory.doing ≡ Some (Attempts doing) → doing.operation ≡ Submitting command →
    SubmitsByKnowing over memory.learned command
