-- What stands at each place of a list of entries.
use Rattle.std.specs.Prelude.{◌≡◌, ◌⊎◌, ◌<◌, ℕ, List, length, slice_get, Option, Some}
use Rattle.attempt.specs.Answers.{on}
use Rattle.lock_command.specs.declared.command.Command.{Command}
use Rattle.lock_command.specs.Command.{spelling}
use Rattle.paxos_block.specs.Shape.{Shape}
use Rattle.host.specs.declared.answer.HostAnswer.{HostAnswer}
use Rattle.host.specs.declared.answer.HostAnswer.TheVariants.{Recovered, Looked}
use Rattle.host.specs.declared.task.Task.TheVariants.{Submit}
use Rattle.host.specs.Host.{Operation, Submitting, Doing, Attempts, Looks, Memory, Host, Stopped, Running}
use Rattle.world.specs.Entry.{Filled, Begin}
use Rattle.world.specs.World.{ReadsBack}
use Rattle.world.specs.Chosen.{IsChosenAt, IsMigrated}
use Rattle.world_safety.specs.Marks.{TellsTrueMarks}

-- the value was chosen for the slot by an answer before place i
pub record IsAnsweredBefore (c : Shape) (log : List Filled) (i slot : ℕ) (value : List ℕ) : Type 0 where
  pub place : ℕ
  pub before : place < i
  pub is : IsChosenAt c log place slot value

-- the value was chosen for the slot before place i: by an answer, or it was migrated there
abbrev pub IsChosenBefore : Shape → List Filled → ℕ → ℕ → List ℕ → Type 0
IsChosenBefore c log i slot value = IsAnsweredBefore c log i slot value ⊎ ((0 < i) × IsMigrated log slot value)

-- each command that was learned is one that reads back, and was chosen before for its slot
abbrev pub AreChosen : Shape → List Filled → ℕ → List Command → Type 0
AreChosen c log i learned =
    (k : ℕ) (command : Command) → slice_get learned k ≡ Some command → ReadsBack command × IsChosenBefore c log i k (spelling command)

-- the command was submitted through the host before, and reads back
pub record IsSubmittedBy (log : List Filled) (i h : ℕ) (command : Command) : Type 0 where
  pub place : ℕ
  pub tries : ℕ
  pub before : place < i
  pub entry : slice_get log place ≡ Some (Begin h (Submit command tries))
  pub reads : ReadsBack command

-- so is the one that an operation submits
abbrev pub IsBegun : List Filled → ℕ → ℕ → Operation → Type 0
IsBegun log i h operation = (command : Command) → operation ≡ Submitting command → IsSubmittedBy log i h command

-- whoever says how many commands it has recovered, or learned by looking, counts all that it has learned
abbrev pub Counts : Option HostAnswer → ℕ → Type 0
Counts (Some (Recovered n)) learned = n ≡ learned
Counts (Some (Looked n)) learned = n ≡ learned
Counts other learned = Unit {0}

-- What an attempt does was begun; and what marked blocks told an attempt or a look was chosen before.
abbrev pub IsTrueDoing : Shape → List Filled → (i h slot : ℕ) → Option Doing → Type 0
IsTrueDoing c log i h slot (Some (Attempts t)) = IsBegun log i h t.operation × ((d : ℕ) → TellsTrueMarks (IsChosenBefore c log i slot) (on t.heard d))
IsTrueDoing c log i h slot (Some (Looks t)) = (d : ℕ) → TellsTrueMarks (IsChosenBefore c log i slot) (on t.heard d)
IsTrueDoing c log i h slot other = Unit {0}

-- What a running host knows is true.
pub record IsTrue (c : Shape) (log : List Filled) (i h : ℕ) (m : Memory) : Type 0 where
  pub learned : AreChosen c log i m.learned
  pub counts : Counts m.said (length m.learned)
  pub doing : IsTrueDoing c log i h (length m.learned) m.doing

abbrev pub IsTrueOf : Shape → List Filled → ℕ → ℕ → Host → Type 0
IsTrueOf c log i h Stopped = Unit {0}
IsTrueOf c log i h (Running m) = IsTrue c log i h m
