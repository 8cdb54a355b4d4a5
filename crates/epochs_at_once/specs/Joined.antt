-- One log without an end of what hosts over the same disks tell, each of which did its own part of what was done at once.
use Rattle.std.specs.Prelude.{◌≡◌, ◌+◌, ◌<◌, ◌≤◌, ◌^◌, ◌++◌, ℕ, suc, true, List, length, take, slice_get, Some}
use Rattle.lock_command.specs.declared.command.Command.{Command}
use Rattle.lock_command.specs.Command.{is_submittable}
use Rattle.lock_command.specs.declared.reply.Reply.{Reply}
use Rattle.lock_command.specs.declared.record.TheConstants.{LOCKS}
use Rattle.lock_table.specs.declared.clients.TheConstants.{CLIENTS}
use Rattle.lock_table.specs.Apply.{table_after}
use Rattle.lock_table.specs.Picture.{Shown, IsPictureOf}
use Rattle.paxos_block.specs.Shape.{Shape}
use Rattle.host.specs.declared.task.Task.TheVariants as core
use Rattle.host.specs.Host.{reply_after}
use Rattle.epoch_deeds.specs.Deeds.{Deeds, Begins}
use Rattle.epoch_host.specs.declared.answer.EpochAnswer.{EpochAnswer}
use Rattle.epoch_host.specs.declared.answer.EpochAnswer.TheVariants.{Ack, Recovered, Looked}
use Rattle.epoch_host.specs.declared.task.EpochTask.{EpochTask}
use Rattle.epoch_host.specs.declared.task.EpochTask.TheVariants.{Submit, Recover, Look}
use Rattle.epoch_host.specs.declared.walk.Walk.{Walk}
use Rattle.epoch_host.specs.Ending.{AreIdleBy, AreSilentBy, HasEnded, IsTableOf}
use Rattle.epoch_runs.specs.World.{Entry, Does}
use Rattle.epochs_at_once.specs.AtOnce.{of_host, deeds_since, IsAtOnce, IsOverLosses}
use Rattle.epochs_at_once.specs.Tasks.{done_by, HasGoneOn}

-- WHAT HOSTS TELL

-- what a host did since its last start, by place i of the order
abbrev pub deeds_by : List Entry → (i h : ℕ) → Deeds
deeds_by entries i h = deeds_since (of_host h (take i entries))

-- by that a task of it has ended so
abbrev pub Tells : Shape → List Entry → (i h : ℕ) → EpochTask → EpochAnswer → Type 0
Tells c entries i h task said = HasEnded c h (deeds_by entries i h) task said

-- by that it shows this lock table, of all that is below a place
abbrev pub ShowsTable : Shape → List Entry → (i h upto : ℕ) → Shown → Type 0
ShowsTable c entries i h upto table = IsTableOf c h (deeds_by entries i h) upto table

-- At place i the host had nothing under way, so its recovery began there or later. By place j it has told that all places below this one are learned; in between it was silent once, so
-- it had not told that before.
pub record HasRecovered (c : Shape) (entries : List Entry) (i j h tries upto : ℕ) : Type 0 where
  pub idle : AreIdleBy c h (deeds_by entries i h)
  pub between : ℕ
  pub since : i ≤ between
  pub until : between ≤ j
  pub silent : AreSilentBy c h (deeds_by entries between h)
  pub tells : Tells c entries j h (Recover tries) (Recovered upto)

-- All that the host did between these places was a task: a recovery, which told that all places below this one are learned.
pub record IsRecoveryBetween (c : Shape) (entries : List Entry) (i j h tries upto : ℕ) : Type 0 where
  pub order : i ≤ j
  pub host : Walk
  pub more : Deeds
  pub is : of_host h (take j entries) ≡ of_host h (take i entries) ++ done_by h more
  pub task : HasGoneOn c h (Recover tries) (Some (Recovered upto)) host (of_host h (take i entries)) more

-- So such a recovery began no earlier than that, also where its host had been open before.
abbrev pub TasksRecover : Type 0
TasksRecover = (c : Shape) (entries : List Entry) (i j h tries upto : ℕ) → IsRecoveryBetween c entries i j h tries upto → HasRecovered c entries i j h tries upto

-- ONE LOG

-- A host was given the command to submit in some epoch, and it is one for which a client may ask.
pub record IsSubmitted (entries : List Entry) (command : Command) : Type 0 where
  pub place : ℕ
  pub host : ℕ
  pub epoch : ℕ
  pub tries : ℕ
  pub is : slice_get entries place ≡ Some (Does host (Begins epoch (core.Submit command tries)))
  pub asked : is_submittable command ≡ true

-- All that hosts tell, in whatever epoch, goes by one log of clients' commands.
pub record HasOneLog (c : Shape) (entries : List Entry) : Type 0 where
  pub commands : List Command
  -- each was submitted
  pub submitted : (n : ℕ) (command : Command) → slice_get commands n ≡ Some command → IsSubmitted entries command
  -- so many of them stand before a place; before a later place stand no fewer
  pub before : ℕ → ℕ
  pub rises : (place later : ℕ) → place ≤ later → before place ≤ before later
  -- a client's command that is acknowledged at a place stands there, and its reply is the lock table's after the commands before it
  pub acknowledged : (i h tries place : ℕ) (command : Command) (reply : Reply) → Tells c entries i h (Submit command tries) (Ack place reply) → is_submittable command ≡ true →
      (slice_get commands (before place) ≡ Some command) × (reply ≡ reply_after (take (before place) commands) command)
  -- it is one of those that stand before the next place, so no other acknowledged place has it
  pub counted : (i h tries place : ℕ) (command : Command) (reply : Reply) → Tells c entries i h (Submit command tries) (Ack place reply) → is_submittable command ≡ true → before (suc place) ≡ suc (before place)
  -- the lock table that a host shows is that after a beginning of the log: after the commands before its place
  pub shown : (i h upto : ℕ) (table : Shown) → ShowsTable c entries i h upto table → (before upto ≤ length commands) × IsPictureOf table (table_after (take (before upto) commands))
  -- where a recovery told a place, or a look, it is the place of that table
  pub recovered : (i h tries upto other : ℕ) (table : Shown) → Tells c entries i h (Recover tries) (Recovered upto) → ShowsTable c entries i h other table → other ≡ upto
  pub looked : (i h upto other : ℕ) (table : Shown) → Tells c entries i h Look (Looked upto) → ShowsTable c entries i h other table → other ≡ upto
  -- a client's command that was acknowledged before a recovery began, by whatever host in whatever epoch, stands before its place
  pub holds : (k i j g h given tries place upto : ℕ) (command : Command) (reply : Reply) → k ≤ i → Tells c entries k g (Submit command given) (Ack place reply) → is_submittable command ≡ true →
      HasRecovered c entries i j h tries upto → before place < before upto

-- So it is with what is done at once, where an epoch has a slot for each lock and each client.
abbrev pub HostsHaveOneLog : Type 0
HostsHaveOneLog = (c : Shape) (entries : List Entry) → LOCKS + CLIENTS ≤ c.slots → IsAtOnce c entries → HasOneLog c entries

-- And over losses of power, if not too much is done.
abbrev pub HostsHaveOneLogOverLosses : Type 0
HostsHaveOneLogOverLosses =
    (c : Shape) (entries : List Entry) → LOCKS + CLIENTS ≤ c.slots → IsOverLosses c entries → length entries < 2 ^ 62 → HasOneLog c entries
