-- What C is told over a host of a log without an end.
use Rattle.std.specs.Prelude.{◌≡◌, ◌⊎◌, ◌-◌, ℕ, ℤ, Bool, List, length, Option, Some, None, IsSome, Result, Ok, Err, IsErrAnd}
use Rattle.lock_command.specs.Command.{Fits}
use Rattle.lock_command.specs.declared.command.Command.{Command}
use Rattle.lock_command.specs.declared.reply.Reply.{Reply}
use Rattle.lock_table.specs.Apply.{table_after}
use Rattle.lock_table.specs.Picture.{IsPictureOf, Shown}
use Rattle.epoch_host.specs.declared.answer.EpochAnswer.{EpochAnswer}
use Rattle.epoch_host.specs.declared.answer.EpochAnswer.TheVariants.{Ack, Refused}
use Rattle.epoch_host.specs.declared.task.EpochTask.{EpochTask}
use Rattle.epoch_host.specs.declared.task.EpochTask.TheVariants.{Submit}
use Rattle.epoch_host.specs.declared.walk.Walk.{Walk}
use Rattle.epoch_host.specs.Ending.{IsThere}
use Rattle.epoch_host.specs.Knowing.{before_of, length_of, prefix_of}
use Rattle.session.specs.declared.claim.Claim.{Claim}
use Rattle.session.specs.declared.learned.Learned.{Learned}
use Rattle.session.specs.declared.outcome.Failure.{Failure}
use Rattle.session.specs.declared.outcome.Failure.TheVariants.{Broken, NoMemory}
use Rattle.c_host.specs.declared.view.LockView.{LockView}
use Rattle.c_host.specs.Numbers.{busy, nothing_due, operation_number}
use Rattle.c_epochs.specs.declared.fault.ShowFault.{ShowFault}
use Rattle.c_epochs.specs.declared.fault.ShowFault.TheVariants as lack
use Rattle.c_epochs.specs.declared.open_epochs.OpenEpochs.{OpenEpochs}
use Rattle.c_epochs.specs.Numbers.{show_number}
use Rattle.c_epochs.specs.Steps.{HasBegun}
use Rattle.c_claims.specs.declared.cleanups.CleanupNumbers.{CleanupNumbers}
use Rattle.c_claims.specs.declared.event.Event.{Event}
use Rattle.c_claims.specs.Asking.{IsToSubmit, NoneToSubmit}
use Rattle.c_claims.specs.Cleanups.{BeginsNoPurge, NextLeft, NextPurge, PurgesBy}
use Rattle.c_claims.specs.Events.{IsEvent}
use Rattle.c_claims.specs.Failures.{IsFailureOf}
use Rattle.c_claims.specs.Hearing.{MovesBy, MovesUnread}

-- WHAT IT KNOWS

-- the host's lock table, which is there
abbrev pub IsTableOf : OpenEpochs → Shown → Type 0
IsTableOf host table = IsThere host.host × IsPictureOf table (table_after (prefix_of host.host))

-- why it cannot be read: it is not there; or it is, and memory was refused for it
abbrev pub MayLack : OpenEpochs → ShowFault → Type 0
MayLack host lack.NoTable = IsThere host.host → ⊥
MayLack host lack.NoSuchLock = ⊥
MayLack host lack.NoMemory = IsThere host.host

-- as which failure a claim hears that
abbrev pub unread_as : ShowFault → Failure
unread_as lack.NoTable = Broken
unread_as lack.NoSuchLock = Broken
unread_as lack.NoMemory = NoMemory

-- C is told that
abbrev pub LacksTable : OpenEpochs → ℤ → Type 0
LacksTable host status = (fault : ShowFault) × (status ≡ show_number fault) × MayLack host fault

-- the place of the first command that is known: of the epoch before the one where the host is, or where none of that are, of this one
abbrev pub first_known : Walk → ℕ
first_known w = (length_of w - length (prefix_of w)) - length (before_of w)

-- The host has learned this, and the table is there.
pub record IsLearnedBy (host : OpenEpochs) (l : Learned) : Type 0 where
  pub first : l.first ≡ first_known host.host
  pub before : l.before.now ≡ before_of host.host
  pub log : l.log.now ≡ prefix_of host.host
  pub slots : l.slots ≡ None
  pub table : IsTableOf host l.table.now

-- what the host says of a command that was submitted, or why it says nothing of one
abbrev pub IsSaid : Option EpochAnswer → Result Reply Failure → Type 0
IsSaid (Some (Ack place reply)) said = said ≡ Ok reply
IsSaid (Some (Refused refusal)) said = IsErrAnd said (IsFailureOf (operation_number refusal))
IsSaid other said = said ≡ Err Broken

-- WHAT A CLAIM HEARS

-- The claim hears this by what the host has learned, and C says whether a process that is gone holds the name; or without its table, which cannot be read.
abbrev pub MovesOver : OpenEpochs → Bool → Event → Claim → Claim → Type 0
MovesOver host told event old new =
    ((l : Learned) × IsLearnedBy host l × (l.left_over ≡ told) × MovesBy event l old new)
    ⊎ ((fault : ShowFault) × MayLack host fault × MovesUnread event (unread_as fault) old new)

-- The claim hears what C says by this number and status.
pub record Hears (number : ℕ) (status : ℤ) (told : Bool) (host : OpenEpochs) (old new : Claim) : Type 0 where
  pub said : Result Reply Failure
  pub says : IsSaid host.host.said said
  pub event : Event
  pub is : IsEvent number status said event
  pub moves : MovesOver host told event old new

-- WHAT IS SUBMITTED

-- the task submits a command of which this is so, which may be outrun once
abbrev pub SubmitsOne : (Is : (host : ℕ) → Command → Type 0) → (host : ℕ) → EpochTask → Type 0
SubmitsOne Is host (Submit command tries) = Is host command × (tries ≡ 1)
SubmitsOne Is host other = ⊥

-- The command is submitted that is to be; or the host is as it was, since a task is under way, or since no such command is due.
abbrev pub SubmitsOrder : Claim → OpenEpochs → OpenEpochs → ℤ → Type 0
SubmitsOrder c old new status =
    HasBegun (SubmitsOne (λ host command. Fits command × IsToSubmit c host command)) old new status
    ⊎ ((status ≡ busy) × IsSome old.host.task × (new ≡ old))
    ⊎ ((status ≡ nothing_due) × (old.host.task ≡ None) × NoneToSubmit c old.host.host × (new ≡ old))

-- The purge is submitted; or the host is as it was, since a task is under way, or for another reason that is told.
abbrev pub SubmitsPurge : CleanupNumbers → OpenEpochs → OpenEpochs → ℤ → Type 0
SubmitsPurge n old new status =
    HasBegun (SubmitsOne (λ host. PurgesBy (IsTableOf old) n)) old new status
    ⊎ ((status ≡ busy) × IsSome old.host.task × (new ≡ old))
    ⊎ ((old.host.task ≡ None) × BeginsNoPurge (IsTableOf old) (LacksTable old) n old.host.host status × (new ≡ old))

-- CLEANUPS

abbrev pub TellsNextLeft : CleanupNumbers → (ours : List ℕ) → OpenEpochs → (old new : LockView) → ℤ → Type 0
TellsNextLeft n ours host old new status = NextLeft (IsTableOf host) (LacksTable host) n ours old new status

abbrev pub TellsNextPurge : CleanupNumbers → OpenEpochs → (lock : ℕ) → ℤ → Type 0
TellsNextPurge n host lock status = NextPurge (IsTableOf host) (LacksTable host) n lock status
