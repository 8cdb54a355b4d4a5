-- What recovers after the events of a script over a log without an end is right. So no variant of a script is wrong.
use Rattle.std.specs.Prelude.{◌≡◌, ◌+◌, ◌≤◌, ℕ, suc, List, length, take, All, Contains, slice_get, Option, None, Some, IsTrue}
use Rattle.lock_command.specs.declared.command.Command.{Command}
use Rattle.lock_command.specs.declared.record.TheConstants.{LOCKS}
use Rattle.lock_table.specs.declared.clients.TheConstants.{CLIENTS}
use Rattle.lock_table.specs.Apply.{table_after}
use Rattle.lock_table.specs.Picture.{IsPictureOf}
use Rattle.paxos_block.specs.Shape.{Shape}
use Rattle.host.specs.Host.{reply_after}
use Rattle.lock_script.specs.declared.event.Event.{Event}
use Rattle.lock_script.specs.declared.event.Event.TheVariants.{Submit}
use Rattle.epoch_script.specs.declared.any_script.EpochScript.{EpochScript}
use Rattle.epoch_host.specs.declared.answer.EpochAnswer.{EpochAnswer}
use Rattle.epoch_host.specs.declared.answer.EpochAnswer.TheVariants.{Ack}
use Rattle.epoch_simulator.specs.Kept.{Kept}
use Rattle.epoch_player.specs.declared.happening.Said.{Said}
use Rattle.epoch_sweep.specs.declared.ending.Recovery.{Recovery}
use Rattle.epoch_sweep.specs.declared.tally.End.{End}
use Rattle.epoch_sweep.specs.declared.tally.Sweep.{Sweep}
use Rattle.epoch_sweep.specs.Counting.{IsSwept}
use Rattle.epoch_sweep.specs.Judging.{IsRight}
use Rattle.epoch_sweep.specs.Sweeping.{Happen, Recovers, IsFirst, HasSwept}

-- RECOVERIES

-- Since the beginning these events happened, and this was said with them. Then one host recovered, and after it another one, or the same again.
pub record RecoverThen (c : Shape) (told : List Said) (first last : Option Recovery) : Type 0 where
  pub events : List Event
  pub hosts : ℕ × ℕ
  pub old : Kept
  pub now : Kept
  pub between : Kept
  pub new : Kept
  pub begins : IsFirst c old
  pub happen : Happen c events old now told
  pub one : Recovers c hosts.0 now between first
  pub other : Recovers c hosts.1 between new last

-- Each recovery that answered has all that was acknowledged before, and two that told one place showed one table. An epoch has room for what carries a table over.
abbrev pub RecoveriesAreRight : Type 0
RecoveriesAreRight =
    (c : Shape) (told : List Said) (first last : Option Recovery) → LOCKS + CLIENTS ≤ c.slots → RecoverThen c told first last → IsRight told first last

-- ONE LOG

-- One of these events gave this host the command to submit.
pub record IsGiven (events : List Event) (h : ℕ) (command : Command) : Type 0 where
  pub tries : ℕ
  pub among : Contains events (Submit command tries)
  pub own : command.host ≡ h

-- An acknowledgement is of such a command. That stands in the log after so many others, and is one of those before the next place. The reply is the lock table's after those before it.
abbrev pub answer_is_logged : List Event → (commands : List Command) → (before : ℕ → ℕ) → (h : ℕ) → EpochAnswer → Type 0
answer_is_logged events commands before h (Ack place reply) =
    (command : Command) × IsGiven events h command
    × (slice_get commands (before place) ≡ Some command) × (before (suc place) ≡ suc (before place)) × (reply ≡ reply_after (take (before place) commands) command)
answer_is_logged events commands before h other = Unit {0}

abbrev pub IsLogged : List Event → (commands : List Command) → (before : ℕ → ℕ) → Said → Type 0
IsLogged events commands before said = answer_is_logged events commands before said.host said.answer

-- a recovery shows the lock table after the commands before its place
abbrev pub ShowsLog : (commands : List Command) → (before : ℕ → ℕ) → Option Recovery → Type 0
ShowsLog commands before None = Unit {0}
ShowsLog commands before (Some recovery) = (before recovery.upto ≤ length commands) × IsPictureOf recovery.table (table_after (take (before recovery.upto) commands))

-- There is one log of commands. So many of them stand before each place, and no fewer before a later one. All acknowledgements go by it, and so do the tables of both recoveries.
pub record GoByOneLog (events : List Event) (told : List Said) (first last : Option Recovery) : Type 0 where
  pub commands : List Command
  pub before : ℕ → ℕ
  pub rises : (place later : ℕ) → place ≤ later → before place ≤ before later
  pub acknowledged : All (IsLogged events commands before) told
  pub one : ShowsLog commands before first
  pub other : ShowsLog commands before last

-- So it is with what hosts told.
abbrev pub RecoveriesGoByOneLog : Type 0
RecoveriesGoByOneLog =
    (c : Shape) (told : List Said) (first last : Option Recovery) → LOCKS + CLIENTS ≤ c.slots → (then : RecoverThen c told first last) → GoByOneLog then.events told first last

-- SWEEPS

-- However the variants of a script end, each of them ends right.
abbrev pub NoVariantIsWrong : Type 0
NoVariantIsWrong = (c : Shape) (events : List Event) (ends : List End) → LOCKS + CLIENTS ≤ c.slots → HasSwept c events ends → All (λ end. IsTrue end.right) ends

-- So a sweep of a script counts none that is wrong, and names none.
abbrev pub SweepsFindNothing : Type 0
SweepsFindNothing = (script : EpochScript) (swept : Sweep) → LOCKS + CLIENTS ≤ script.config.slots → IsSwept script swept → (swept.wrong ≡ 0) × (swept.first ≡ None)
