-- How a task of a host ends, by what the host did: what a core of it said last, in places of all epochs.
use Rattle.std.specs.Prelude.{◌≡◌, ◌≢◌, ◌⊎◌, ◌+◌, ◌*◌, ◌<◌, ◌≤◌, ℕ, true, List, [], ◌∷◌, ◌++◌, length, Option, Some, None, IsSome}
use Rattle.paxos_block.specs.Shape.{Shape}
use Rattle.attempt.specs.declared.refusal.Refusal.{Refusal}
use Rattle.attempt.specs.declared.refusal.Refusal.TheVariants.{Outrun, NoMajority, LogFull, NotLearned, BallotsSpent}
use Rattle.lock_command.specs.declared.command.Command.{Command}
use Rattle.lock_command.specs.declared.reply.Reply.{Reply}
use Rattle.lock_table.specs.Apply.{table_after}
use Rattle.lock_table.specs.Picture.{Shown, IsPictureOf}
use Rattle.host.specs.declared.answer.HostAnswer.{HostAnswer}
use Rattle.host.specs.declared.answer.HostAnswer.TheVariants as core
use Rattle.host.specs.declared.task.Task.{Task}
use Rattle.host.specs.declared.task.Task.TheVariants as task
use Rattle.host.specs.Host.{Memory, Stopped, Running, reply_after}
use Rattle.epoch_deeds.specs.Deeds.{Deeds, core_in}
use Rattle.epoch_deeds.specs.Knowing.{Carries, HasClients}
use Rattle.epoch_host.specs.declared.answer.EpochAnswer.{EpochAnswer}
use Rattle.epoch_host.specs.declared.answer.EpochAnswer.TheVariants.{Ack, Recovered, Looked, Beaten, Marked, Refused}
use Rattle.epoch_host.specs.declared.task.EpochTask.{EpochTask}
use Rattle.epoch_host.specs.declared.task.EpochTask.TheVariants.{Submit, Recover, Look, Beat, Mark}
use Rattle.epoch_host.specs.declared.stay.Stay.{Stay}
use Rattle.epoch_host.specs.declared.walk.Walk.{Walk}
use Rattle.epoch_host.specs.declared.walk.Whereabouts.TheVariants.{In}
use Rattle.epoch_host.specs.Leading.{LeadsTo}
use Rattle.epoch_host.specs.Staying.{shows_table_for}
use Rattle.epoch_host.specs.Submitting.{Stands}

-- PLACES

-- the place of a slot of an epoch among all slots of all epochs
abbrev pub place_in : Shape → (e slot : ℕ) → ℕ
place_in c e slot = e * c.slots + slot

-- the task of an epoch's core, as it is for all epochs
abbrev pub in_epochs : Shape → (e : ℕ) → Task → EpochTask
in_epochs c e (task.Submit command tries) = Submit command tries
in_epochs c e (task.Recover tries) = Recover tries
in_epochs c e task.Look = Look
in_epochs c e task.Beat = Beat
in_epochs c e (task.Mark slot) = Mark (place_in c e slot)

-- and its answer
abbrev pub in_places : Shape → (e : ℕ) → HostAnswer → EpochAnswer
in_places c e (core.Ack slot reply) = Ack (place_in c e slot) reply
in_places c e (core.Recovered length) = Recovered (place_in c e length)
in_places c e (core.Looked length) = Looked (place_in c e length)
in_places c e (core.Beaten host) = Beaten host
in_places c e (core.Marked count) = Marked count
in_places c e (core.Refused refusal) = Refused refusal

-- a task is a marking
abbrev pub IsMark : EpochTask → Type 0
IsMark (Mark place) = Unit {0}
IsMark other = ⊥

-- it marks no slot of this epoch
abbrev pub IsElsewhere : Shape → (e : ℕ) → EpochTask → Type 0
IsElsewhere c e (Mark place) = (slot : ℕ) → slot < c.slots → place ≢ place_in c e slot
IsElsewhere c e other = ⊥

-- WHAT A CORE SAYS

-- By what it did, the host's core in an epoch runs, and said this last.
pub record Says (c : Shape) (h : ℕ) (deeds : Deeds) (e : ℕ) (memory : Memory) (said : HostAnswer) : Type 0 where
  pub runs : core_in c h e deeds ≡ Running memory
  pub is : memory.said ≡ Some said

-- All that carries the table over into an epoch is among what was learned there: as many commands are learned, or a client's command is, which stands only behind all of it.
abbrev pub HasTable : Shape → (h e : ℕ) → Deeds → (learned : List Command) → Type 0
HasTable c h e deeds learned = ((over : List Command) × Carries c h e deeds over × (length over ≤ length learned)) ⊎ HasClients learned

-- Some of it is not. Or it is not known what carries the table over, and no client's command is learned.
abbrev pub LacksTable : Shape → (h e : ℕ) → Deeds → (learned : List Command) → Type 0
LacksTable c h e deeds learned = ((over : List Command) × Carries c h e deeds over × (length learned < length over)) ⊎ (HasClients learned → ⊥)

-- The core of an epoch learned the command last, in the slot that is at this place, and the lock table replies so there.
pub record Acknowledges (c : Shape) (h : ℕ) (deeds : Deeds) (command : Command) (place : ℕ) (reply : Reply) : Type 0 where
  pub epoch : ℕ
  pub slot : ℕ
  pub memory : Memory
  pub says : Says c h deeds epoch memory (core.Ack slot reply)
  pub there : place ≡ place_in c epoch slot
  pub before : List Command
  pub last : memory.learned ≡ before ++ command ∷ []
  pub at : slot ≡ length before
  pub replied : reply ≡ reply_after before command
  pub whole : HasTable c h epoch deeds before

-- The core of an epoch ended a recovery, which was not of a whole epoch, or a look. All places below this one are learned, and the table is there.
pub record Learns (c : Shape) (h : ℕ) (deeds : Deeds) (said : ℕ → HostAnswer) (upto : ℕ) : Type 0 where
  pub epoch : ℕ
  pub memory : Memory
  pub says : Says c h deeds epoch memory (said (length memory.learned))
  pub there : upto ≡ place_in c epoch (length memory.learned)
  pub below : said ≡ core.Recovered → length memory.learned < c.slots
  pub whole : HasTable c h epoch deeds memory.learned

-- The core of an epoch marked so many blocks of the slot that is at this place, which it had learned.
pub record HasMarked (c : Shape) (h : ℕ) (deeds : Deeds) (place count : ℕ) : Type 0 where
  pub epoch : ℕ
  pub slot : ℕ
  pub memory : Memory
  pub says : Says c h deeds epoch memory (core.Marked count)
  pub there : place ≡ place_in c epoch slot
  pub learned : slot < length memory.learned

-- REFUSALS

-- the core of an epoch said this last
abbrev pub SaidSo : Shape → (h : ℕ) → Deeds → HostAnswer → Type 0
SaidSo c h deeds said = (e : ℕ) × (memory : Memory) × Says c h deeds e memory said

-- No core that runs has learned the slot that is to be marked. Of a look: none has learned its epoch whole, or it lacks what tells the table.
abbrev pub IsUnlearned : Shape → (h : ℕ) → Deeds → EpochTask → Type 0
IsUnlearned c h deeds (Mark place) =
    (e slot : ℕ) (memory : Memory) → core_in c h e deeds ≡ Running memory → place ≡ place_in c e slot → length memory.learned ≤ slot
IsUnlearned c h deeds Look =
    (e : ℕ) (memory : Memory) → core_in c h e deeds ≡ Running memory → (length memory.learned < c.slots) ⊎ LacksTable c h e deeds memory.learned
IsUnlearned c h deeds other = ⊥

-- A host refuses a task by itself where the slot to be marked is not learned, or marks do not tell who only looks what the table is. So it does where a search found no majority, where the task moved as often as it may, and where an epoch has no
-- room for more than the table or is the last one: of these three the deeds say no more. A host that only looks has no ballot, and refuses what is no look.
abbrev pub RefusesByItself : Shape → (h : ℕ) → Deeds → EpochTask → Refusal → Type 0
RefusesByItself c h deeds task NotLearned = IsUnlearned c h deeds task
RefusesByItself c h deeds task NoMajority = Unit {0}
RefusesByItself c h deeds task Outrun = Unit {0}
RefusesByItself c h deeds task LogFull = Unit {0}
RefusesByItself c h deeds task BallotsSpent = (task ≡ Look) → ⊥
RefusesByItself c h deeds task other = ⊥

-- HOW A TASK ENDS

-- A task ended so. Whatever it is, it may be refused.
abbrev pub HasEnded : Shape → (h : ℕ) → Deeds → EpochTask → EpochAnswer → Type 0
HasEnded c h deeds task (Refused refusal) = SaidSo c h deeds (core.Refused refusal) ⊎ RefusesByItself c h deeds task refusal
HasEnded c h deeds (Submit command tries) (Ack place reply) = Acknowledges c h deeds command place reply
HasEnded c h deeds (Recover tries) (Recovered upto) = Learns c h deeds core.Recovered upto
HasEnded c h deeds Look (Looked upto) = Learns c h deeds core.Looked upto
HasEnded c h deeds Beat (Beaten host) = SaidSo c h deeds (core.Beaten host)
HasEnded c h deeds (Mark place) (Marked count) = HasMarked c h deeds place count
HasEnded c h deeds task other = ⊥

-- if the task ended, then so
abbrev pub EndsSo : Shape → (h : ℕ) → Deeds → Option EpochTask → Option EpochAnswer → Type 0
EndsSo c h deeds task None = Unit {0}
EndsSo c h deeds None (Some answer) = Unit {0}
EndsSo c h deeds (Some task) (Some answer) = HasEnded c h deeds task answer

-- by whatever deeds lead to this host
abbrev pub Ends : Option EpochTask → Walk → Type 0
Ends task w = (c : Shape) (h : ℕ) (deeds : Deeds) → LeadsTo c h deeds w → EndsSo c h deeds task w.said

-- The host shows the table of the epoch where it is, and it is there.
pub record IsThere (w : Walk) : Type 0 where
  pub stay : Stay
  pub is : w.is ≡ In stay
  pub works : shows_table_for stay.errand ≡ true
  pub whole : Stands stay.over stay.core.prefix

-- so it is where it has told how much is learned
abbrev pub TableIsThere : Walk → Option EpochAnswer → Type 0
TableIsThere w (Some (Recovered upto)) = IsThere w
TableIsThere w (Some (Looked upto)) = IsThere w
TableIsThere w other = Unit {0}

-- a task was done
abbrev pub IsDone : Option EpochAnswer → Type 0
IsDone None = ⊥
IsDone (Some (Refused refusal)) = ⊥
IsDone (Some other) = Unit {0}

-- by these deeds, no core that runs has said anything since it was given something to do
abbrev pub AreSilentBy : Shape → (h : ℕ) → Deeds → Type 0
AreSilentBy c h deeds = (e : ℕ) (memory : Memory) → core_in c h e deeds ≡ Running memory → memory.said ≡ None

-- nor has any of them anything under way
abbrev pub AreIdleBy : Shape → (h : ℕ) → Deeds → Type 0
AreIdleBy c h deeds = (e : ℕ) (memory : Memory) → core_in c h e deeds ≡ Running memory → memory.doing ≡ None

-- both by whatever deeds lead to a host
abbrev pub AreSilent : Walk → Type 0
AreSilent w = (c : Shape) (h : ℕ) (deeds : Deeds) → LeadsTo c h deeds w → AreSilentBy c h deeds

abbrev pub AreIdle : Walk → Type 0
AreIdle w = (c : Shape) (h : ℕ) (deeds : Deeds) → LeadsTo c h deeds w → AreIdleBy c h deeds

-- The task goes on, or it has ended with an answer. It was done only where this is so.
pub record TaskGoesOn (WhereDone : Type 0) (task : Option EpochTask) (w : Walk) : Type 0 where
  pub keeps : (w.task ≡ None) ⊎ (w.task ≡ task)
  pub told : w.task ≡ None → IsSome w.said
  pub ends : Ends task w
  pub there : TableIsThere w w.said
  pub done : IsDone w.said → WhereDone

-- where memory was refused it is given up, without an answer
abbrev pub IsGivenUp : Walk → Type 0
IsGivenUp w = (w.task ≡ None) × (w.said ≡ None)

-- a host may refuse its task by itself, whatever deeds lead to it
abbrev pub Refuses : Option EpochTask → Refusal → Walk → Type 0
Refuses under_way refusal w =
    (task : EpochTask) → under_way ≡ Some task → (c : Shape) (h : ℕ) (deeds : Deeds) → LeadsTo c h deeds w → RefusesByItself c h deeds task refusal

-- WHAT A HOST KNOWS

-- In one epoch alone a core runs, which has learned these commands. The table is there, and all places below this one are learned.
pub record HasLearnedUpto (c : Shape) (h : ℕ) (deeds : Deeds) (upto : ℕ) (learned : List Command) : Type 0 where
  pub epoch : ℕ
  pub memory : Memory
  pub runs : core_in c h epoch deeds ≡ Running memory
  pub alone : (e : ℕ) → e ≢ epoch → core_in c h e deeds ≡ Stopped
  pub is : learned ≡ memory.learned
  pub there : upto ≡ place_in c epoch (length learned)
  pub whole : HasTable c h epoch deeds learned

-- This is the lock table after all places below this one.
abbrev pub IsTableOf : Shape → (h : ℕ) → Deeds → (upto : ℕ) → Shown → Type 0
IsTableOf c h deeds upto shown = (learned : List Command) × HasLearnedUpto c h deeds upto learned × IsPictureOf shown (table_after learned)

-- the epoch where a core runs; in no other one does
abbrev pub IsWhereItIs : Shape → (h : ℕ) → Deeds → Option ℕ → Type 0
IsWhereItIs c h deeds None = (e : ℕ) → core_in c h e deeds ≡ Stopped
IsWhereItIs c h deeds (Some epoch) = ((memory : Memory) × (core_in c h epoch deeds ≡ Running memory)) × ((e : ℕ) → e ≢ epoch → core_in c h e deeds ≡ Stopped)
