-- What operations add to a host's own list, and what they answer.
use Rattle.std.specs.Prelude.{◌≡◌, ◌⊎◌, ◌+◌, ℕ, true, false, List, [], ◌∷◌, ◌++◌, length, Option, Some, None}
use Rattle.lock_command.specs.declared.command.Command.{Command}
use Rattle.paxos_block.specs.Shape.{Shape}
use Rattle.host.specs.declared.answer.HostAnswer.{HostAnswer}
use Rattle.host.specs.declared.answer.HostAnswer.TheVariants as said
use Rattle.host.specs.declared.task.Task.{Task}
use Rattle.host.specs.declared.task.Task.TheVariants.{Submit, Recover, Look, Beat, Mark}
use Rattle.host.specs.Host.{Operation, Submitting, Recovering, Doing, Attempts, Looks, Beats, Marks, Memory, Running, idles, said_of, learned_of}
use Rattle.world.specs.Entry.{Filled, Start, Stop}
use Rattle.cluster_tie.specs.Parts.{Own, own_of, adds}
use Rattle.cluster.specs.Cluster.{GoesOn}
use Rattle.cluster.specs.Receipts.{receipts_of}
use Rattle.cluster.specs.Seat.{host_in}
use Rattle.cluster.specs.declared.fault.HostFault.{HostFault}
use Rattle.cluster.specs.declared.fault.HostFault.TheVariants.{Refused, NoMemory, JournalFull, SeatTaken, SeatsMissing, OpenCall}
use Rattle.cluster.specs.declared.operate.Resumed.{Resumed}
use Rattle.cluster.specs.declared.operate.Resumed.TheVariants.{Submitted, Recovered, Looked, Beaten, Marked}
use Rattle.cluster.specs.declared.receipt.Receipt.{Receipt}

-- ANSWERS

-- the receipt is the last of these
abbrev pub IsLast : Receipt → List Receipt → Type 0
IsLast receipt all = (before : List Receipt) × (all ≡ before ++ receipt ∷ [])

-- The host is idle, and what it said last is this answer: an acknowledgement with the last receipt of the list, how many commands it has learned
-- after a recovery or a look, which host a beat suggests, or on how many disks its block of a slot is marked.
abbrev pub HasAnswered : Shape → Resumed → Own → Type 0
HasAnswered c (Submitted receipt) own =
    (idles (host_in c own) ≡ true) × (said_of (host_in c own) ≡ Some (said.Ack receipt.slot receipt.reply)) × IsLast receipt (receipts_of c own)
HasAnswered c (Recovered n) own =
    (idles (host_in c own) ≡ true) × (said_of (host_in c own) ≡ Some (said.Recovered n)) × (n ≡ length (learned_of (host_in c own)))
HasAnswered c (Looked n) own =
    (idles (host_in c own) ≡ true) × (said_of (host_in c own) ≡ Some (said.Looked n)) × (n ≡ length (learned_of (host_in c own)))
HasAnswered c (Beaten host) own = (idles (host_in c own) ≡ true) × (said_of (host_in c own) ≡ Some (said.Beaten host))
HasAnswered c (Marked count) own = (idles (host_in c own) ≡ true) × (said_of (host_in c own) ≡ Some (said.Marked count))

-- what the host has said where it gave this
abbrev pub said_by : Resumed → Option HostAnswer
said_by (Submitted receipt) = Some (said.Ack receipt.slot receipt.reply)
said_by (Recovered n) = Some (said.Recovered n)
said_by (Looked n) = Some (said.Looked n)
said_by (Beaten host) = Some (said.Beaten host)
said_by (Marked count) = Some (said.Marked count)

-- WHAT WAS ADDED

-- an operation's own entry, and steps alone behind it
abbrev pub Operates : Shape → Filled → Own → Own → Type 0
Operates c e old new = (place : ℕ) × GoesOn c (adds old place e) new

-- Steps alone were added: the last one refused the operation, or the next one could not be made.
abbrev pub Stops : Shape → HostFault → Own → Own → Type 0
Stops c (Refused refusal) old new =
    GoesOn c old new × (idles (host_in c new) ≡ true) × (said_of (host_in c new) ≡ Some (said.Refused refusal))
Stops c NoMemory old new = GoesOn c old new × (idles (host_in c new) ≡ false)
Stops c JournalFull old new = GoesOn c old new × (idles (host_in c new) ≡ false)
Stops c OpenCall old new = GoesOn c old new × (idles (host_in c new) ≡ false)
Stops c SeatTaken old new = ⊥
Stops c SeatsMissing old new = ⊥

-- nothing was begun
abbrev pub IsUnbegun : HostFault → Own → Own → Type 0
IsUnbegun (Refused refusal) old new = ⊥
IsUnbegun NoMemory old new = new ≡ old
IsUnbegun JournalFull old new = new ≡ old
IsUnbegun OpenCall old new = ⊥
IsUnbegun SeatTaken old new = ⊥
IsUnbegun SeatsMissing old new = ⊥

-- nothing was begun; or the operation was, by this entry, and stopped
abbrev pub Fails : Shape → Filled → HostFault → Own → Own → Type 0
Fails c e fault old new = IsUnbegun fault old new ⊎ ((place : ℕ) × Stops c fault (adds old place e) new)

-- the host has started, and has done nothing yet
pub record IsStarted (host : ℕ) (own : Own) : Type 0 where
  pub place : ℕ
  pub is : own ≡ own_of host ((place, Start host) ∷ [])

-- the host stopped and started again
abbrev pub Restarts : Own → Own → Type 0
Restarts old new = (place : ℕ) × (new ≡ adds (adds old place (Stop old.number)) (place + 1) (Start old.number))

-- WHILE A TASK IS UNDER WAY

-- an operation with so many tries, as a task
abbrev pub task_for : Operation → ℕ → Task
task_for (Submitting command) tries = Submit command tries
task_for Recovering tries = Recover tries

-- what is under way, as a task
abbrev pub task_in : Doing → ℕ → Task
task_in (Attempts t) tries = task_for t.operation tries
task_in (Looks t) tries = Look
task_in (Beats heard) tries = Beat
task_in (Marks t) tries = Mark t.slot

-- the host may answer the task so
abbrev pub IsAnswer : Task → List Command → Option HostAnswer → Type 0
IsAnswer task learned None = ⊥
IsAnswer task learned (Some (said.Refused refusal)) = Unit {0}
IsAnswer (Submit command tries) learned (Some (said.Ack slot reply)) = Unit {0}
IsAnswer (Recover tries) learned (Some (said.Recovered n)) = n ≡ length learned
IsAnswer Look learned (Some (said.Looked n)) = n ≡ length learned
IsAnswer Beat learned (Some (said.Beaten host)) = Unit {0}
IsAnswer (Mark slot) learned (Some (said.Marked count)) = Unit {0}
IsAnswer task learned other = ⊥

-- the task is under way, which may have begun with more tries, or it was answered
abbrev pub IsCarried : Task → Memory → Option Doing → Type 0
IsCarried task m None = IsAnswer task m.learned m.said
IsCarried task m (Some doing) = (tries : ℕ) × (task ≡ task_in doing tries) × (m.said ≡ None)

-- a submission that was acknowledged has the last receipt
abbrev pub HasReceipt : Shape → Own → Task → Option HostAnswer → Type 0
HasReceipt c own (Submit command tries) (Some (said.Ack slot reply)) =
    (place : ℕ) × IsLast (record { host = own.number; command = command; slot = slot; reply = reply; place = place }) (receipts_of c own)
HasReceipt c own task said = Unit {0}

-- so it is of the host that its own list leads to
pub record Carries (c : Shape) (task : Task) (own : Own) : Type 0 where
  pub memory : Memory
  pub is : host_in c own ≡ Running memory
  pub doing : IsCarried task memory memory.doing
  pub receipt : HasReceipt c own task memory.said

-- whichever task it is
abbrev pub CarriesOne : Shape → Own → Type 0
CarriesOne c own = (task : Task) × Carries c task own

-- the task that is over was refused so
abbrev pub IsRefusedBy : Shape → HostFault → Own → Type 0
IsRefusedBy c (Refused refusal) own = said_of (host_in c own) ≡ Some (said.Refused refusal)
IsRefusedBy c NoMemory own = ⊥
IsRefusedBy c JournalFull own = ⊥
IsRefusedBy c OpenCall own = ⊥
IsRefusedBy c SeatTaken own = ⊥
IsRefusedBy c SeatsMissing own = ⊥
