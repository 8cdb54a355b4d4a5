-- Of the headline. One log, whatever happens, and nothing that was acknowledged is lost.
use Rattle.std.specs.Prelude.{◌≡◌, ◌+◌, ◌<◌, ◌≤◌, ◌⊎◌, ℕ, List, length, take, map, slice_get, Some}
use Rattle.lock_command.specs.declared.command.Command.{Command}
use Rattle.lock_command.specs.Command.{spelling}
use Rattle.lock_command.specs.declared.reply.Reply.{Reply}
use Rattle.lock_table.specs.Apply.{Plain, table_after}
use Rattle.paxos_block.specs.Shape.{Shape}
use Rattle.host.specs.declared.answer.HostAnswer.TheVariants.{Ack, Recovered, Looked}
use Rattle.host.specs.Host.{learned_of, reply_after}
use Rattle.world.specs.Entry.{Filled}
use Rattle.world.specs.World.{CanMigrate, IsRun}
use Rattle.world.specs.Happens.{Event, run, run_after}
use Rattle.world.specs.Chosen.{at, IsChosenAt, migrated, IsChosen, IsLog, IsSubmittedBefore, SaysAt, IsAcknowledgedAt, IsRecovery}

-- the second list begins with the first
abbrev pub IsPrefix : {A : Type 0} → List A → List A → Type 0
IsPrefix short long = short ≡ take (length short) long

-- the commands that a host has learned before entry i, and its lock table then
abbrev pub prefix_at : Shape → List Filled → ℕ → ℕ → List Command
prefix_at c log i host = learned_of ((at c log i).host host)

abbrev pub table_at : Shape → List Filled → ℕ → ℕ → Plain
table_at c log i host = table_after (prefix_at c log i host)

-- a command was acknowledged before a recovery of any host began
pub record IsAcknowledgedBefore (c : Shape) (log : List Filled) (i slot : ℕ) (command : Command) : Type 0 where
  pub place : ℕ
  pub host : ℕ
  pub reply : Reply
  pub before : place < i
  pub is : IsAcknowledgedAt c log place host slot command reply

-- These commands are the log of the list, and all that hosts choose, learn and say goes by them.
pub record IsSafe (c : Shape) (log : List Filled) (commands : List Command) : Type 0 where
  -- they are its log
  pub is_log : IsLog c log (map spelling commands)
  -- what is chosen for a slot is the command there
  pub one : (slot : ℕ) (value : List ℕ) → IsChosen c log slot value → slice_get (map spelling commands) slot ≡ Some value
  -- the commands that were migrated begin it
  pub begun : IsPrefix (migrated log) commands
  -- what an answer chooses was submitted before
  pub submitted : (i slot : ℕ) (value : List ℕ) → IsChosenAt c log i slot value → IsSubmittedBefore log i value
  -- at every place each host has learned a beginning of the log
  pub prefix : (i host : ℕ) → IsPrefix (prefix_at c log i host) commands
  -- every reply is to a command that the host was submitting,
  pub placed : (i host slot : ℕ) (reply : Reply) → SaysAt c log i host (Ack slot reply) → (command : Command) × IsAcknowledgedAt c log i host slot command reply
  -- which stands in the log at the slot,
  pub acknowledged : (i host slot : ℕ) (command : Command) (reply : Reply) → IsAcknowledgedAt c log i host slot command reply → slice_get commands slot ≡ Some command
  -- and it is the lock table's after the commands before that
  pub reply : (i host slot : ℕ) (command : Command) (reply : Reply) → IsAcknowledgedAt c log i host slot command reply → reply ≡ reply_after (take slot commands) command
  -- a recovery has learned as many commands of the log as it says,
  pub recovered : (i host n : ℕ) → SaysAt c log i host (Recovered n) → (n ≤ length commands) × (prefix_at c log (i + 1) host ≡ take n commands)
  -- and gives the lock table after these
  pub table : (i host n : ℕ) → SaysAt c log i host (Recovered n) → table_at c log (i + 1) host ≡ table_after (take n commands)
  -- each command that was acknowledged before the recovery began is among them
  pub holds : (i j host n slot : ℕ) (command : Command) → IsRecovery c log i j host n → IsAcknowledgedBefore c log i slot command → slot < n
  -- and so is each command that was migrated
  pub keeps : (i host n : ℕ) → SaysAt c log i host (Recovered n) → length (migrated log) ≤ n
  -- a look has learned as many commands of the log as it says, though more may have been acknowledged before
  pub looked : (i host n : ℕ) → SaysAt c log i host (Looked n) → (n ≤ length commands) × (prefix_at c log (i + 1) host ≡ take n commands)

-- a list has no second log
abbrev pub HasNoSecondLog : Shape → List Filled → Type 0
HasNoSecondLog c log = (first second : List (List ℕ)) → IsLog c log first → IsLog c log second → first ≡ second

-- of two hosts' prefixes, at any two places of a list, one begins the other
abbrev pub OneBeginsOther : Shape → List Filled → Type 0
OneBeginsOther c log =
    (i j host other : ℕ) → IsPrefix (prefix_at c log i host) (prefix_at c log j other) ⊎ IsPrefix (prefix_at c log j other) (prefix_at c log i host)

-- A list has a log, by which all goes; it has no other; and of two prefixes one begins the other.
pub record HasOneLog (c : Shape) (log : List Filled) : Type 0 where
  pub commands : List Command
  pub is_safe : IsSafe c log commands
  pub no_other : HasNoSecondLog c log
  pub prefixes : OneBeginsOther c log

-- EVERY RUN

-- So it is with every run, however it came about,
abbrev pub Headline : Type 0
Headline = (c : Shape) (log : List Filled) → IsRun c log → HasOneLog c log

-- with the run that any list of events makes,
abbrev pub HeadlineOfEvents : Type 0
HeadlineOfEvents = (c : Shape) (events : List Event) → HasOneLog c (run c events)

-- and so with the run that they make after a migration.
abbrev pub HeadlineOfMigrated : Type 0
HeadlineOfMigrated = (c : Shape) (log : List Command) (events : List Event) → CanMigrate c log → HasOneLog c (run_after c log events)
