-- Of the headline. What is chosen for a slot, the log of a list of entries, and what hosts acknowledge and recover.
use Rattle.std.specs.Prelude.{◌≡◌, ◌⊎◌, ◌+◌, ◌<◌, ◌≤◌, ℕ, true, List, [], ◌∷◌, length, map, take, slice_get, Some}
use Rattle.disk.specs.Disk.{Call, Answer}
use Rattle.attempt.specs.Answers.{Answered, on, heard_as}
use Rattle.attempt.specs.Setup.{Setup}
use Rattle.attempt.specs.Chosen.{Chooses}
use Rattle.lock_command.specs.declared.command.Command.{Command}
use Rattle.lock_command.specs.Command.{spelling}
use Rattle.lock_command.specs.declared.reply.Reply.{Reply}
use Rattle.paxos_block.specs.Shape.{Shape}
use Rattle.host.specs.declared.answer.HostAnswer.{HostAnswer}
use Rattle.host.specs.declared.answer.HostAnswer.TheVariants.{Ack, Recovered}
use Rattle.host.specs.declared.task.Task.TheVariants.{Submit, Recover}
use Rattle.host.specs.Host.{Submitting, Attempt, Attempts, Memory, Running, setup_of, with_heard, said_of}
use Rattle.world.specs.Entry.{Filled, Begin, Called, Migrated, is_of}
use Rattle.world.specs.World.{World, world}

-- the world before entry i
abbrev pub at : Shape → List Filled → ℕ → World
at c log i = world c (take i log)

-- CHOSEN

-- At entry i a host's attempt hears an answer, and has heard these then.
pub record Hears (c : Shape) (log : List Filled) (i : ℕ) (s : Setup) (heard : List Answered) : Type 0 where
  pub host : ℕ
  pub disk : ℕ
  pub call : Call
  pub answer : Answer
  pub left : List ℕ
  pub entry : slice_get log i ≡ Some (Called host disk call answer left)
  pub memory : Memory
  pub running : (at c log i).host host ≡ Running memory
  pub doing : Attempt
  pub does : memory.doing ≡ Some (Attempts doing)
  pub is_setup : s ≡ setup_of c host memory doing.operation
  pub is_heard : heard ≡ (with_heard doing (record { disk = disk; heard = heard_as answer })).heard

-- The answer of entry i is one with which a value is chosen for a slot.
pub record IsChosenAt (c : Shape) (log : List Filled) (i slot : ℕ) (value : List ℕ) : Type 0 where
  pub setup : Setup
  pub heard : List Answered
  pub hears : Hears c log i setup heard
  pub on_slot : setup.slot ≡ slot
  pub chooses : Chooses setup (on heard) value

-- the commands that the disks of a list begin with, as a migration left them
abbrev pub migrated : List Filled → List Command
migrated [] = []
migrated (Migrated disks log ∷ es) = log
migrated (other ∷ es) = []

-- the value is the spelling of the migrated command of this slot
abbrev pub IsMigrated : List Filled → ℕ → List ℕ → Type 0
IsMigrated log slot value = slice_get (map spelling (migrated log)) slot ≡ Some value

-- A value is chosen for a slot by an answer, or it was migrated there.
abbrev pub IsChosen : Shape → List Filled → ℕ → List ℕ → Type 0
IsChosen c log slot value = ((i : ℕ) × IsChosenAt c log i slot value) ⊎ IsMigrated log slot value

-- THE LOG

-- Entry s is chosen for slot s, and there are as many as slots are chosen without a gap.
pub record IsLog (c : Shape) (log : List Filled) (values : List (List ℕ)) : Type 0 where
  pub chosen : (s : ℕ) (value : List ℕ) → slice_get values s ≡ Some value → IsChosen c log s value
  pub whole : (value : List ℕ) → IsChosen c log (length values) value → ⊥

-- the entry submits the command, or migrates it
abbrev pub Submits : Filled → Command → Type 0
Submits (Begin host (Submit given tries)) command = given ≡ command
Submits (Migrated disks log) command = (slot : ℕ) × (slice_get log slot ≡ Some command)
Submits other command = ⊥

-- a command of this spelling was submitted before entry i
pub record IsSubmittedBefore (log : List Filled) (i : ℕ) (value : List ℕ) : Type 0 where
  pub place : ℕ
  pub entry : Filled
  pub command : Command
  pub before : place < i
  pub is : slice_get log place ≡ Some entry
  pub submits : Submits entry command
  pub spelled : value ≡ spelling command

-- WHAT HOSTS SAY

-- entry i is of the host, and makes it say this
pub record SaysAt (c : Shape) (log : List Filled) (i host : ℕ) (said : HostAnswer) : Type 0 where
  pub entry : Filled
  pub is : slice_get log i ≡ Some entry
  pub of_host : is_of host entry ≡ true
  pub says : said_of ((at c log (i + 1)).host host) ≡ Some said

-- At entry i the host acknowledges the command that it was submitting, with a slot and a reply.
pub record IsAcknowledgedAt (c : Shape) (log : List Filled) (i host slot : ℕ) (command : Command) (reply : Reply) : Type 0 where
  pub says : SaysAt c log i host (Ack slot reply)
  pub memory : Memory
  pub running : (at c log i).host host ≡ Running memory
  pub doing : Attempt
  pub does : memory.doing ≡ Some (Attempts doing)
  pub submitting : doing.operation ≡ Submitting command

-- the entry is a device call of the host
pub record IsCallOf (host : ℕ) (e : Filled) : Type 0 where
  pub disk : ℕ
  pub call : Call
  pub answer : Answer
  pub left : List ℕ
  pub is : e ≡ Called host disk call answer left

-- A recovery of the host begins at entry i and answers at entry j; in between the host makes device calls alone.
pub record IsRecovery (c : Shape) (log : List Filled) (i j host n : ℕ) : Type 0 where
  pub tries : ℕ
  pub begins : slice_get log i ≡ Some (Begin host (Recover tries))
  pub order : i ≤ j
  pub calls : (k : ℕ) (e : Filled) → i < k → k ≤ j → slice_get log k ≡ Some e → is_of host e ≡ true → IsCallOf host e
  pub says : SaysAt c log j host (Recovered n)
