-- Of the headline of logs without end. One log of all epochs, whatever happens, and nothing that was acknowledged is lost.
use Rattle.std.specs.Prelude.{◌≡◌, ◌⊎◌, ◌+◌, ◌-◌, ◌<◌, ◌≤◌, ℕ, zero, suc, true, List, [], ◌++◌, length, map, take, drop, slice_get, Option, None, Some}
use Rattle.lock_command.specs.declared.command.Command.{Command}
use Rattle.lock_command.specs.Command.{spelling, is_submittable}
use Rattle.lock_command.specs.declared.reply.Reply.{Reply}
use Rattle.lock_command.specs.declared.record.TheConstants.{LOCKS}
use Rattle.lock_table.specs.declared.clients.TheConstants.{CLIENTS}
use Rattle.lock_table.specs.Apply.{table_after}
use Rattle.lock_table.specs.Carrying.{carried_over}
use Rattle.lock_table.specs.Picture.{Shown, IsPictureOf}
use Rattle.paxos_block.specs.Shape.{Shape}
use Rattle.host.specs.declared.answer.HostAnswer.{HostAnswer}
use Rattle.host.specs.declared.answer.HostAnswer.TheVariants.{Ack, Recovered, Looked}
use Rattle.host.specs.declared.task.Task.TheVariants.{Submit}
use Rattle.host.specs.Host.{Submitting, Attempt, Attempts, Memory, Running, reply_after}
use Rattle.world.specs.Entry.{Filled, Begin}
use Rattle.world.specs.World.{IsRun}
use Rattle.world.specs.Chosen.{at, migrated, IsChosenAt, IsChosen, IsSubmittedBefore, SaysAt, IsAcknowledgedAt, IsRecovery}
use Rattle.world.specs.Headline.{IsPrefix, prefix_at}
use Rattle.endless.specs.Epochs.{IsCallAt, IsAsAfter}
use Rattle.endless.specs.Lived.{Lived, In, part, now, RunsIn, IsWholeBy}

-- WHAT HOSTS SAY

-- what is done at place i of all is done in this epoch
abbrev pub IsIn : List Lived → ℕ → ℕ → Type 0
IsIn lived i e = (entry : Filled) × (slice_get lived i ≡ Some (In e entry))

-- what a host has learned of an epoch before place i of all
abbrev pub learned_in : Shape → List Lived → (i e h : ℕ) → List Command
learned_in c lived i e h = prefix_at c (part e lived) (now e i lived) h

-- what a host does at place i of all, in an epoch, makes it say this
pub record SaysIn (c : Shape) (lived : List Lived) (i e h : ℕ) (said : HostAnswer) : Type 0 where
  pub here : IsIn lived i e
  pub is : SaysAt c (part e lived) (now e i lived) h said

-- At place i of all a host acknowledges the command that it was submitting in an epoch, with a slot of that epoch and a reply.
pub record IsAcknowledgedIn (c : Shape) (lived : List Lived) (i e h slot : ℕ) (command : Command) (reply : Reply) : Type 0 where
  pub here : IsIn lived i e
  pub is : IsAcknowledgedAt c (part e lived) (now e i lived) h slot command reply

-- some host did so in this epoch before place i of all
pub record IsAcknowledgedEarlier (c : Shape) (lived : List Lived) (i e slot : ℕ) (command : Command) : Type 0 where
  pub place : ℕ
  pub host : ℕ
  pub reply : Reply
  pub before : place < i
  pub is : IsAcknowledgedIn c lived place e host slot command reply

-- A recovery of a host in an epoch begins at place i of all and answers at place j.
pub record IsRecoveryIn (c : Shape) (lived : List Lived) (i j e h n : ℕ) : Type 0 where
  pub begins : IsIn lived i e
  pub ends : IsIn lived j e
  pub is : IsRecovery c (part e lived) (now e i lived) (now e j lived) h n

-- WHAT HOSTS KEEP TO

-- these commands carry over into the epoch the table that the one before it left, as some host shows that has learned that one whole
abbrev pub CarriesInto : Shape → List Lived → ℕ → List Command → Type 0
CarriesInto c lived zero over = over ≡ []
CarriesInto c lived (suc e) over =
    (i : ℕ) × (h : ℕ) × (shown : Shown) × (length (learned_in c lived i e h) ≡ c.slots) × IsPictureOf shown (table_after (learned_in c lived i e h)) × (over ≡ carried_over shown)

-- in a slot is due what carries the table over there, and behind that any command for which a client may ask
abbrev pub IsDue : Option Command → Command → Type 0
IsDue (Some wanted) command = command ≡ wanted
IsDue None command = is_submittable command ≡ true

-- Whoever makes a call and submits, submits what is due in the slot behind those that it has learned.
abbrev pub SubmitsWhatIsDue : Shape → List Filled → List Command → Type 0
SubmitsWhatIsDue c log over =
    (i h : ℕ) (memory : Memory) (doing : Attempt) (command : Command) → IsCallAt log i h → (at c log i).host h ≡ Running memory → memory.doing ≡ Some (Attempts doing) → doing.operation ≡ Submitting command →
    IsDue (slice_get over (length memory.learned)) command

-- Hosts come to each epoch when the one before is whole, and carry its table over first.
pub record KeepsToEpochs (c : Shape) (lived : List Lived) : Type 0 where
  -- nobody is in an epoch before somebody has learned the one before it whole
  pub in_turn : (i e h : ℕ) (memory : Memory) → RunsIn c lived i (suc e) h memory → IsWholeBy c lived e i
  -- what carries a table over is submitted first, and has room
  pub carries : (e : ℕ) (over : List Command) → CarriesInto c lived e over → SubmitsWhatIsDue c (part e lived) over
  pub fits : (e : ℕ) (over : List Command) → CarriesInto c lived e over → length over ≤ c.slots

-- THE ONE LOG

-- An epoch begins with what carries the table over. Behind that it goes on as the one log does behind so many commands.
pub record Stretch : Type 0 where
  pub over : List Command
  pub behind : ℕ

-- so many commands of the one log stand before a slot of the epoch
abbrev pub place_of : Stretch → ℕ → ℕ
place_of s slot = s.behind + (slot - length s.over)

-- what may be learned of the epoch, slot by slot
abbrev pub log_of : List Command → Stretch → List Command
log_of commands s = s.over ++ drop s.behind commands

-- What was learned of an epoch begins with what carries the table over, and goes on as the one log does. Once all that is learned, it shows what the one log leaves up to there, and
-- each further command is given the reply that it would be given there.
pub record GoesByLog (commands : List Command) (s : Stretch) (learned : List Command) : Type 0 where
  pub upto : place_of s (length learned) ≤ length commands
  pub begins : IsPrefix learned (log_of commands s)
  pub as_after : length s.over ≤ length learned → IsAsAfter learned (take (place_of s (length learned)) commands)

-- A command of the one log stands in a slot of an epoch, behind what carries the table over. It was submitted in that epoch, and chosen for that slot.
pub record ComesFrom (c : Shape) (lived : List Lived) (last : ℕ) (stretch : ℕ → Stretch) (n : ℕ) (command : Command) : Type 0 where
  pub epoch : ℕ
  pub slot : ℕ
  pub upto : epoch ≤ last
  pub behind : length (stretch epoch).over ≤ slot
  pub there : place_of (stretch epoch) slot ≡ n
  pub chosen : IsChosen c (part epoch lived) slot (spelling command)
  pub place : ℕ
  pub host : ℕ
  pub tries : ℕ
  pub submitted : slice_get (part epoch lived) place ≡ Some (Begin host (Submit command tries))

-- the command stands in the one log where the slot of its epoch does, and the reply is the lock table's there
pub record StandsIn (commands : List Command) (s : Stretch) (slot : ℕ) (command : Command) (reply : Reply) : Type 0 where
  pub behind : length s.over ≤ slot
  pub there : slice_get commands (place_of s slot) ≡ Some command
  pub replied : reply ≡ reply_after (take (place_of s slot) commands) command

-- What is done in all epochs has one log of clients' commands, by which all goes that hosts choose, learn and say, in whatever epoch.
pub record HasOneLogWithoutEnd (c : Shape) (lived : List Lived) : Type 0 where
  pub commands : List Command
  pub stretch : ℕ → Stretch
  -- there is a last epoch, and nobody is in a later one
  pub last : ℕ
  pub none : (i e h : ℕ) (memory : Memory) → RunsIn c lived i e h memory → e ≤ last
  -- the first epoch begins it; each other one begins with what carries over the table that the one before left, and goes on where that one ended
  pub first : stretch zero ≡ record { over = []; behind = 0 }
  pub over : (e : ℕ) → e < last → CarriesInto c lived (suc e) (stretch (suc e)).over
  pub next : (e : ℕ) → e < last → (stretch (suc e)).behind ≡ place_of (stretch e) c.slots
  -- the commands that were migrated begin it
  pub begun : IsPrefix (migrated (part zero lived)) commands
  -- each further command of it is one for which a client may ask, and was submitted and chosen in some epoch
  pub asked : (n : ℕ) (command : Command) → length (migrated (part zero lived)) ≤ n → slice_get commands n ≡ Some command → is_submittable command ≡ true
  pub submitted : (n : ℕ) (command : Command) → length (migrated (part zero lived)) ≤ n → slice_get commands n ≡ Some command → ComesFrom c lived last stretch n command
  -- what an answer chooses in an epoch was submitted there before
  pub before : (e i slot : ℕ) (value : List ℕ) → IsChosenAt c (part e lived) i slot value → IsSubmittedBefore (part e lived) i value
  -- what is chosen for a slot of an epoch is what carries the table over there, or the command of the one log
  pub one : (e slot : ℕ) (value : List ℕ) → IsChosen c (part e lived) slot value → slice_get (map spelling (log_of commands (stretch e))) slot ≡ Some value
  -- whatever a host has learned of an epoch goes by it,
  pub learned : (i e h : ℕ) → e ≤ last → GoesByLog commands (stretch e) (learned_in c lived i e h)
  -- and of what two hosts have learned of an epoch one begins the other
  pub prefixes : (i j e g h : ℕ) → IsPrefix (learned_in c lived i e g) (learned_in c lived j e h) ⊎ IsPrefix (learned_in c lived j e h) (learned_in c lived i e g)
  -- every reply is to a command that the host was submitting,
  pub placed : (i e h slot : ℕ) (reply : Reply) → SaysIn c lived i e h (Ack slot reply) → (command : Command) × IsAcknowledgedIn c lived i e h slot command reply
  -- and a client's command that is acknowledged stands there, and the reply is the one that it is given there
  pub acknowledged : (i e h slot : ℕ) (command : Command) (reply : Reply) → IsAcknowledgedIn c lived i e h slot command reply → is_submittable command ≡ true → StandsIn commands (stretch e) slot command reply
  -- a recovery has learned as many commands of the epoch as it says, and by these gives the table after a beginning of the one log
  pub recovered : (i e h n : ℕ) → SaysIn c lived i e h (Recovered n) → (length (learned_in c lived (suc i) e h) ≡ n) × GoesByLog commands (stretch e) (learned_in c lived (suc i) e h)
  -- unless the epoch was whole, each client's command that was acknowledged before the recovery began, in whatever epoch, is in that beginning
  pub holds : (i j e f h n slot : ℕ) (command : Command) → IsRecoveryIn c lived i j e h n → n < c.slots → IsAcknowledgedEarlier c lived i f slot command → is_submittable command ≡ true →
      place_of (stretch f) slot < place_of (stretch e) n
  -- and so is each command that was migrated
  pub keeps : (i e h n : ℕ) → SaysIn c lived i e h (Recovered n) → length (migrated (part zero lived)) ≤ place_of (stretch e) n
  -- a look has learned as many commands of the epoch as it says, though more may have been acknowledged before
  pub looked : (i e h n : ℕ) → SaysIn c lived i e h (Looked n) → (length (learned_in c lived (suc i) e h) ≡ n) × GoesByLog commands (stretch e) (learned_in c lived (suc i) e h)

-- So it is where each epoch is a run, each but the first one that begins on zeros, and hosts keep to the epochs.
abbrev pub EndlessHeadline : Type 0
EndlessHeadline =
    (c : Shape) (lived : List Lived) → ((e : ℕ) → IsRun c (part e lived)) → ((e : ℕ) → migrated (part (suc e) lived) ≡ []) → KeepsToEpochs c lived → HasOneLogWithoutEnd c lived

-- There is no second such log.
abbrev pub EndlessLogsAreOne : Type 0
EndlessLogsAreOne =
    (c : Shape) (lived : List Lived) → ((e : ℕ) → IsRun c (part e lived)) → ((e : ℕ) → migrated (part (suc e) lived) ≡ []) → (one other : HasOneLogWithoutEnd c lived) → one.commands ≡ other.commands

-- What carries a table over has room where there is a slot for each lock and each client.
abbrev pub LongEpochsHaveRoom : Type 0
LongEpochsHaveRoom = (c : Shape) (lived : List Lived) (e : ℕ) (over : List Command) → LOCKS + CLIENTS ≤ c.slots → CarriesInto c lived e over → length over ≤ c.slots
