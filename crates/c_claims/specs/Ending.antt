-- What C is told over a host of a log that ends.
use Rattle.std.specs.Prelude.{◌≡◌, ◌⊎◌, ℕ, ℤ, Bool, true, false, List, [], Option, Some, Result, Ok, Err, IsErrAnd}
use Rattle.lock_command.specs.Command.{Fits}
use Rattle.lock_command.specs.declared.command.Command.{Command}
use Rattle.lock_command.specs.declared.reply.Reply.{Reply}
use Rattle.lock_table.specs.Apply.{table_after}
use Rattle.lock_table.specs.Picture.{IsPictureOf, Shown}
use Rattle.host.specs.declared.answer.HostAnswer.{HostAnswer}
use Rattle.host.specs.declared.answer.HostAnswer.TheVariants.{Ack, Refused}
use Rattle.host.specs.declared.task.Task.TheVariants.{Submit}
use Rattle.host.specs.Kept.{Kept, is_idle}
use Rattle.session.specs.declared.claim.Claim.{Claim}
use Rattle.session.specs.declared.learned.Learned.{Learned}
use Rattle.session.specs.declared.outcome.Failure.{Failure}
use Rattle.session.specs.declared.outcome.Failure.TheVariants.{Broken, NoMemory}
use Rattle.c_host.specs.declared.open_host.OpenHost.{OpenHost}
use Rattle.c_host.specs.declared.view.LockView.{LockView}
use Rattle.c_host.specs.Numbers.{busy, no_memory, nothing_due, operation_number}
use Rattle.c_host.specs.Steps.{Begins, HasBegun}
use Rattle.c_claims.specs.declared.cleanups.CleanupNumbers.{CleanupNumbers}
use Rattle.c_claims.specs.declared.event.Event.{Event}
use Rattle.c_claims.specs.Asking.{IsToSubmit, NoneToSubmit}
use Rattle.c_claims.specs.Cleanups.{BeginsNoPurge, NextLeft, NextPurge, PurgesBy}
use Rattle.c_claims.specs.Events.{IsEvent}
use Rattle.c_claims.specs.Failures.{IsFailureOf}
use Rattle.c_claims.specs.Hearing.{MovesBy, MovesUnread}

-- WHAT IT KNOWS

-- the host's lock table
abbrev pub IsTableOf : OpenHost → Shown → Type 0
IsTableOf host table = IsPictureOf table (table_after host.core.prefix)

-- memory was refused for it
abbrev pub LacksTable : ℤ → Type 0
LacksTable status = status ≡ no_memory

-- The host has learned this.
pub record IsLearnedBy (host : OpenHost) (l : Learned) : Type 0 where
  pub first : l.first ≡ 0
  pub before : l.before.now ≡ []
  pub log : l.log.now ≡ host.core.prefix
  pub slots : l.slots ≡ Some host.config.slots
  pub table : IsTableOf host l.table.now

-- what the host says of a command that was submitted, or why it says nothing of one
abbrev pub IsSaid : Option HostAnswer → Result Reply Failure → Type 0
IsSaid (Some (Ack slot reply)) said = said ≡ Ok reply
IsSaid (Some (Refused refusal)) said = IsErrAnd said (IsFailureOf (operation_number refusal))
IsSaid other said = said ≡ Err Broken

-- WHAT A CLAIM HEARS

-- The claim hears this by what the host has learned, and C says whether a process that is gone holds the name; or memory was refused for the table.
abbrev pub MovesOver : OpenHost → Bool → Event → Claim → Claim → Type 0
MovesOver host told event old new =
    ((l : Learned) × IsLearnedBy host l × (l.left_over ≡ told) × MovesBy event l old new)
    ⊎ MovesUnread event NoMemory old new

-- The claim hears what C says by this number and status.
pub record Hears (number : ℕ) (status : ℤ) (told : Bool) (host : OpenHost) (old new : Claim) : Type 0 where
  pub said : Result Reply Failure
  pub says : IsSaid host.core.said said
  pub event : Event
  pub is : IsEvent number status said event
  pub moves : MovesOver host told event old new

-- WHAT IS SUBMITTED

-- A command is submitted of which this is so. It may be outrun once.
pub record SubmitsOne (Is : Command → Type 0) (old new : Kept) : Type 0 where
  pub command : Command
  pub is : Is command
  pub begins : Begins (Submit command 1) old new

-- The command is submitted that is to be; or the host is as it was, since an operation is under way, or since no such command is due.
abbrev pub SubmitsOrder : Claim → OpenHost → OpenHost → ℤ → Type 0
SubmitsOrder c old new status =
    HasBegun (SubmitsOne (λ command. Fits command × IsToSubmit c old.core.learner.host command)) old new status
    ⊎ ((status ≡ busy) × (is_idle old.core ≡ false) × (new ≡ old))
    ⊎ ((status ≡ nothing_due) × (is_idle old.core ≡ true) × NoneToSubmit c old.core.learner.host × (new ≡ old))

-- The purge is submitted; or the host is as it was, since an operation is under way, or for another reason that is told.
abbrev pub SubmitsPurge : CleanupNumbers → OpenHost → OpenHost → ℤ → Type 0
SubmitsPurge n old new status =
    HasBegun (SubmitsOne (PurgesBy (IsTableOf old) n)) old new status
    ⊎ ((status ≡ busy) × (is_idle old.core ≡ false) × (new ≡ old))
    ⊎ ((is_idle old.core ≡ true) × BeginsNoPurge (IsTableOf old) LacksTable n old.core.learner.host status × (new ≡ old))

-- CLEANUPS

abbrev pub TellsNextLeft : CleanupNumbers → (ours : List ℕ) → OpenHost → (old new : LockView) → ℤ → Type 0
TellsNextLeft n ours host old new status = NextLeft (IsTableOf host) LacksTable n ours old new status

abbrev pub TellsNextPurge : CleanupNumbers → OpenHost → (lock : ℕ) → ℤ → Type 0
TellsNextPurge n host lock status = NextPurge (IsTableOf host) LacksTable n lock status
