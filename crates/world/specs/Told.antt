-- What lines tell of a log, by the events that they come of: an answer goes by it, and no recovery misses what was acknowledged before it began.
use Rattle.std.specs.Prelude.{◌≡◌, ◌⊎◌, ◌<◌, ◌≤◌, ℕ, true, List, length, map, take, Contains, slice_get, Option, Some, None}
use Rattle.lock_command.specs.declared.command.Command.{Command}
use Rattle.lock_command.specs.Command.{spelling}
use Rattle.lock_command.specs.declared.reply.Reply.{Reply}
use Rattle.lock_table.specs.Apply.{Plain, table_after}
use Rattle.lock_table.specs.Picture.{IsPictureOf, Shown}
use Rattle.host.specs.declared.answer.HostAnswer.{HostAnswer}
use Rattle.host.specs.declared.answer.HostAnswer.TheVariants.{Ack, Recovered, Looked, Beaten, Marked, Refused}
use Rattle.host.specs.declared.task.Task.TheVariants.{Submit}
use Rattle.host.specs.Host.{Operation, Submitting, Attempt, Attempts, Memory, Host, Running, idles, learned_of, reply_after}
use Rattle.world.specs.Happens.{Event, Begin, Line}
use Rattle.world.specs.Opening.{Opening, world_after}

-- BEFORE AN EVENT

-- the host before event i, and the commands that it has learned by then
abbrev pub host_before : Opening → List Event → ℕ → ℕ → Host
host_before o events i h = (world_after o (take i events)).host h

abbrev pub prefix_before : Opening → List Event → ℕ → ℕ → List Command
prefix_before o events i h = learned_of (host_before o events i h)

-- an event before event i submits a command of this spelling
pub record IsSubmittedBefore (events : List Event) (i : ℕ) (value : List ℕ) : Type 0 where
  pub place : ℕ
  pub host : ℕ
  pub command : Command
  pub tries : ℕ
  pub before : place < i
  pub event : slice_get events place ≡ Some (Begin host (Submit command tries))
  pub spelled : value ≡ spelling command

-- a command of this spelling was moved
abbrev pub IsMoved : Opening → List ℕ → Type 0
IsMoved o value = (slot : ℕ) × (slice_get (map spelling o.moved) slot ≡ Some value)

-- it was, or an event before event i submits one
abbrev pub IsGivenBefore : Opening → List Event → ℕ → List ℕ → Type 0
IsGivenBefore o events i value = IsMoved o value ⊎ IsSubmittedBefore events i value

-- the host carries this operation out
pub record CarriesOut (host : Host) (operation : Operation) : Type 0 where
  pub memory : Memory
  pub doing : Attempt
  pub running : host ≡ Running memory
  pub does : memory.doing ≡ Some (Attempts doing)
  pub is : doing.operation ≡ operation

-- WHAT A LINE TELLS

-- The command that the host was submitting stands in the log at the slot, and the reply is the lock table's, after the commands before that.
pub record IsAcknowledged (o : Opening) (events : List Event) (log : List Command) (x : Line) (slot : ℕ) (reply : Reply) : Type 0 where
  pub command : Command
  pub submitting : CarriesOut (host_before o events x.place x.host) (Submitting command)
  pub in_log : slice_get log slot ≡ Some command
  pub replied : reply ≡ reply_after (take slot log) command

-- there is a picture, and it is one of this table
abbrev pub ShowsTable : Option Shown → Plain → Type 0
ShowsTable None table = ⊥
ShowsTable (Some picture) table = IsPictureOf picture table

-- The picture is of the lock table after the first n commands of the log: that of a recovery, and that of a look.
pub record IsRecovered (log : List Command) (picture : Option Shown) (n : ℕ) : Type 0 where
  pub within : n ≤ length log
  pub table : ShowsTable picture (table_after (take n log))

-- what is said, beside this picture or none, goes by the log
abbrev pub goes_by : Opening → List Event → List Command → Line → Option Shown → HostAnswer → Type 0
goes_by o events log x picture (Ack slot reply) = IsAcknowledged o events log x slot reply
goes_by o events log x picture (Recovered n) = IsRecovered log picture n
goes_by o events log x picture (Looked n) = IsRecovered log picture n
goes_by o events log x picture (Beaten host) = Unit {0}
goes_by o events log x picture (Marked count) = Unit {0}
goes_by o events log x picture (Refused refusal) = Unit {0}

-- WHAT IS MISSED

-- Before event i the host of the line was idle: what it says there began with that event, or later.
pub record BeganSince (o : Opening) (events : List Event) (i : ℕ) (x : Line) : Type 0 where
  pub order : i ≤ x.place
  pub idle : idles (host_before o events i x.host) ≡ true

-- A recovery that began with event i, or later, holds whatever was acknowledged before event i, by any host.
abbrev pub MissesNothing : Opening → List Event → List Line → Type 0
MissesNothing o events lines =
    (x y : Line) (i n slot : ℕ) (reply : Reply) → Contains lines x → x.said ≡ Recovered n → BeganSince o events i x
    → Contains lines y → y.said ≡ Ack slot reply → y.place < i → slot < n

-- Every recovery has learned as many commands as were moved, or more.
abbrev pub KeepsMoved : Opening → List Line → Type 0
KeepsMoved o lines = (x : Line) (n : ℕ) → Contains lines x → x.said ≡ Recovered n → length o.moved ≤ n
