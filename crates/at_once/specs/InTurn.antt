-- Two hosts that work in turn over the same simulated disks.
use Rattle.std.specs.Prelude.{◌≡◌, ◌≢◌, ◌<◌, ℕ, List, slice_get, Some, Result, IfOk}
use Rattle.disk.specs.Disk.{Call, Answer}
use Rattle.disk.specs.Simulated.{SimState, outcome}
use Rattle.torn_block.specs.declared.layout.TheConstants.{HOSTS}
use Rattle.lock_command.specs.declared.command.Command.{Command}
use Rattle.lock_command.specs.declared.reply.Reply.{Reply}
use Rattle.paxos_block.specs.Shape.{Shape}
use Rattle.attempt.specs.declared.refusal.Refusal.{Refusal}
use Rattle.host.specs.Host.{Operation, Submitting, fresh}
use Rattle.host.specs.Kept.{Kept, LeadsTo}
use Rattle.world.specs.World.{MayBeGiven}
use Rattle.dlm_images.specs.declared.disk_host.Acknowledgement.{Acknowledgement}
use Rattle.dlm_images.specs.Operations.{Standing, HasOperated, IsAcknowledged}
use Rattle.at_once.specs.Deeds.{task_of}
use Rattle.at_once.specs.Images.{HoldsNothing}

-- what a simulated disk gives
abbrev pub Gives : SimState → Call → Answer → SimState → Type 0
Gives old call answer new = (new, answer) ≡ outcome old call

-- Host h started over these disks, and did this operation, which left that.
pub record IsTurn (c : Shape) (h : ℕ) (operation : Operation) (tries : ℕ) (disks : List SimState) (new : Standing SimState) : Type 0 where
  pub below : h < HOSTS
  pub old : Kept
  pub leads : LeadsTo c h fresh old
  pub may : MayBeGiven c h (task_of operation tries)
  pub did : HasOperated Gives operation tries (record { core = old; disks = disks }) new

-- at a slot both acknowledge the same command
abbrev pub NoTwoAtOneSlot : Kept → Kept → Type 0
NoTwoAtOneSlot first second = (one other : Command) (slot : ℕ) (reply answer : Reply) →
    IsAcknowledged one slot reply first.prefix → IsAcknowledged other slot answer second.prefix → one ≡ other

-- Of two hosts that work in turn over images that held nothing at first no two commands are acknowledged at one slot.
abbrev pub TurnsAgree : Type 0
TurnsAgree = (c : Shape) (g h : ℕ) (first second : Operation) (tries more : ℕ) (disks : List SimState) (left new : Standing SimState) → g ≢ h →
    ((k : ℕ) (d : SimState) → slice_get disks k ≡ Some d → HoldsNothing c.slots d.disk) →
    IsTurn c g first tries disks left → IsTurn c h second more left.disks new → NoTwoAtOneSlot left.core new.core

-- The command's host started over these disks and submitted it, which ended so and left those.
pub record HasSubmitted (c : Shape) (command : Command) (tries : ℕ) (disks : List SimState) (done : Result Acknowledgement Refusal) (left : List SimState) : Type 0 where
  pub new : Standing SimState
  pub turn : IsTurn c command.host (Submitting command) tries disks new
  pub leaves : left ≡ new.disks
  pub acknowledged : IfOk done (λ a. IsAcknowledged command a.slot a.reply new.core.prefix)
