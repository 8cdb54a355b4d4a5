-- What a call does with a host over all epochs, and what C is told of that.
use Rattle.std.specs.Prelude.{◌≡◌, ◌⊎◌, ℕ, ℤ, true, false, List, [], ◌∷◌, Option, Some, None, IsSome}
use Rattle.disk.specs.Disk.{Call, Answer, Attach, Booted}
use Rattle.lock_command.specs.Command.{Fits}
use Rattle.epoch_host.specs.declared.task.EpochTask.{EpochTask}
use Rattle.epoch_host.specs.declared.task.EpochTask.TheVariants.{Submit, Recover, Look, Mark}
use Rattle.epoch_host.specs.declared.walk.Walk.{Walk}
use Rattle.epoch_host.specs.Ending.{AreIdle, AreSilent, IsGivenUp, TaskGoesOn}
use Rattle.epoch_host.specs.Leading.{WalksBy, WalksOn}
use Rattle.epoch_host.specs.Walking.{IsSame, call_due}
use Rattle.dlm_images.specs.Operations.{Gave, Made}
use Rattle.epoch_images.specs.Working.{HasWorked, IsMadeOr}
use Rattle.c_host.specs.declared.call.DueCall.{DueCall}
use Rattle.c_host.specs.declared.call.ToldAnswer.{ToldAnswer}
use Rattle.c_host.specs.declared.request.Request.{Request}
use Rattle.c_host.specs.Numbers.{bad_argument, busy, done, no_memory, nothing_due}
use Rattle.c_host.specs.Requests.{IsAsked}
use Rattle.c_host.specs.Steps.{AreTries, TellsNoCall}
use Rattle.c_epochs.specs.Calls.{TellsDueOn, answer_on, is_away}
use Rattle.c_epochs.specs.declared.open_epochs.OpenEpochs.{OpenEpochs}

-- the folder is the same, and the host, and whether it only looks
pub record IsSameFolder (old new : OpenEpochs) : Type 0 where
  pub config : new.config ≡ old.config
  pub cluster : new.cluster ≡ old.cluster
  pub firsts : new.firsts ≡ old.firsts
  pub host : IsSame old.host new.host
  pub looks : new.host.only_looks ≡ old.host.only_looks

-- HOW A TASK STANDS

-- The task goes on, or it ended with an answer, by whatever deeds lead to the host. Or memory was refused, and it is given up.
abbrev pub Stands : (WhereDone : Type 0) → Option EpochTask → Walk → Type 0
Stands WhereDone task w = TaskGoesOn WhereDone task w ⊎ IsGivenUp w

-- which of the two it is: done, where it goes on or ended with an answer
abbrev pub TellsStand : Walk → ℤ → Type 0
TellsStand w status = ((status ≡ done) × (w.task ≡ None → IsSome w.said)) ⊎ ((status ≡ no_memory) × IsGivenUp w)

-- A TASK BEGINS

-- A host of which no core does anything began the task. What led to it leads, with deeds that make no call, to the new one.
pub record Begins (task : EpochTask) (old new : Walk) : Type 0 where
  pub leads : WalksOn old new
  pub rests : AreIdle old
  pub stands : Stands ⊥ (Some task) new

-- An idle host began what was asked. It is under way, or has ended; or memory was refused, and it is given up.
pub record HasBegun (Asks : (host : ℕ) → EpochTask → Type 0) (old new : OpenEpochs) (status : ℤ) : Type 0 where
  pub idle : old.host.task ≡ None
  pub task : EpochTask
  pub asked : Asks old.host.host task
  pub begins : Begins task old.host new.host
  pub told : TellsStand new.host status
  pub same : IsSameFolder old new

-- Nothing was begun, and the host is as it was: a task is under way; or none is, and nothing was asked that may be.
pub record IsRefused (Asks : (host : ℕ) → EpochTask → Type 0) (old new : OpenEpochs) (status : ℤ) : Type 0 where
  pub same : new ≡ old
  pub told :
      ((status ≡ busy) × IsSome old.host.task)
      ⊎ ((status ≡ bad_argument) × (old.host.task ≡ None) × ((task : EpochTask) → Asks old.host.host task → ⊥))

abbrev pub BeginsOr : ((host : ℕ) → EpochTask → Type 0) → OpenEpochs → OpenEpochs → ℤ → Type 0
BeginsOr Asks old new status = HasBegun Asks old new status ⊎ IsRefused Asks old new status

-- a submission of the command that is asked of this host, with so many tries
abbrev pub AsksSubmission : Request → List ℕ → ℕ → (host : ℕ) → EpochTask → Type 0
AsksSubmission r name tries h (Submit command given) = Fits command × IsAsked r name h command × AreTries tries × (given ≡ tries)
AsksSubmission r name tries h other = ⊥

abbrev pub AsksRecovery : ℕ → (host : ℕ) → EpochTask → Type 0
AsksRecovery tries h (Recover given) = AreTries tries × (given ≡ tries)
AsksRecovery tries h other = ⊥

abbrev pub AsksLook : (host : ℕ) → EpochTask → Type 0
AsksLook h Look = Unit {0}
AsksLook h other = ⊥

abbrev pub AsksMark : ℕ → (host : ℕ) → EpochTask → Type 0
AsksMark place h (Mark given) = given ≡ place
AsksMark place h other = ⊥

abbrev pub Submits : Request → List ℕ → ℕ → OpenEpochs → OpenEpochs → ℤ → Type 0
Submits r name tries = BeginsOr (AsksSubmission r name tries)

abbrev pub Recovers : ℕ → OpenEpochs → OpenEpochs → ℤ → Type 0
Recovers tries = BeginsOr (AsksRecovery tries)

abbrev pub Looks : OpenEpochs → OpenEpochs → ℤ → Type 0
Looks = BeginsOr AsksLook

abbrev pub Marks : ℕ → OpenEpochs → OpenEpochs → ℤ → Type 0
Marks place = BeginsOr (AsksMark place)

-- ITS CALLS

-- the call that is due, and this answer to it
abbrev pub made_of : Walk → Answer → Made
made_of old answer = record { disk = (call_due old).0; call = (call_due old).1; answer = answer }

-- It was the call that was due, and the host has heard the answer, and nothing else. That may be done now what no core had said before.
pub record IsHeard (old : Walk) (x : Made) (new : Walk) : Type 0 where
  pub busy : IsSome old.task
  pub due : (x.disk ≡ (call_due old).0) × (x.call ≡ (call_due old).1)
  pub leads : WalksBy old new (call_due old) x.answer
  pub stands : Stands (AreSilent old) old.task new

-- an attach is due, of a disk that takes part in the epoch
abbrev pub IsAttachDue : OpenEpochs → Type 0
IsAttachDue kept = IsSome kept.host.task × ((call_due kept.host).1 ≡ Attach) × (is_away kept.firsts kept.host ≡ false)

-- The host heard that the disk to be attached answered with this boot number, and nothing else.
pub record HasAttached (boot : ℕ) (old new : OpenEpochs) (status : ℤ) : Type 0 where
  pub due : IsAttachDue old
  pub heard : IsHeard old.host (made_of old.host (Booted boot)) new.host
  pub told : TellsStand new.host status
  pub same : IsSameFolder old new

-- so it is where an attach is due; else the host is as it was
abbrev pub Attaches : ℕ → OpenEpochs → OpenEpochs → Type 0
Attaches boot old new = HasAttached boot old new done ⊎ ((IsAttachDue old → ⊥) × (new ≡ old))

-- C is told the call that is due, or that none is.
abbrev pub TellsNext : OpenEpochs → DueCall → (before after : List ℕ) → ℤ → Type 0
TellsNext kept call before after status =
    (IsSome kept.host.task × TellsDueOn kept.firsts kept.host call before after status)
    ⊎ ((kept.host.task ≡ None) × (status ≡ nothing_due) × TellsNoCall call before after)

-- The same, after an attach that was due.
pub record CallsOn (boot : ℕ) (old new : OpenEpochs) (call : DueCall) (before after : List ℕ) (status : ℤ) : Type 0 where
  pub attaches : Attaches boot old new
  pub tells : TellsNext new call before after status

-- By that memory was refused, and C is told no call.
pub record StopsAtAttach (boot : ℕ) (old new : OpenEpochs) (call : DueCall) (before after : List ℕ) (status : ℤ) : Type 0 where
  pub attached : HasAttached boot old new status
  pub refused : status ≡ no_memory
  pub tells : TellsNoCall call before after

abbrev pub CallsNext : ℕ → OpenEpochs → OpenEpochs → DueCall → (before after : List ℕ) → ℤ → Type 0
CallsNext boot old new call before after status = CallsOn boot old new call before after status ⊎ StopsAtAttach boot old new call before after status

-- The host heard the answer that C told, and nothing else.
pub record HasHeardTold (told : ToldAnswer) (row : List ℕ) (old new : OpenEpochs) (status : ℤ) : Type 0 where
  pub answer : Answer
  pub is : answer_on old.firsts old.host told row ≡ Some answer
  pub heard : IsHeard old.host (made_of old.host answer) new.host
  pub stands : TellsStand new.host status
  pub same : IsSameFolder old new

-- The host heard nothing, and is as it was: no call is due; or one is, and C told no answer to it.
pub record HearsNothing (told : ToldAnswer) (row : List ℕ) (old new : OpenEpochs) (status : ℤ) : Type 0 where
  pub same : new ≡ old
  pub why :
      ((status ≡ nothing_due) × (old.host.task ≡ None))
      ⊎ ((status ≡ bad_argument) × IsSome old.host.task × (answer_on old.firsts old.host told row ≡ None))

abbrev pub Hears : ToldAnswer → List ℕ → OpenEpochs → OpenEpochs → ℤ → Type 0
Hears told row old new status = HasHeardTold told row old new status ⊎ HearsNothing told row old new status

-- It heard the answer, and C is told the next call.
pub record HeardGoesOn (told : ToldAnswer) (row : List ℕ) (old new : OpenEpochs) (call : DueCall) (before after : List ℕ) (status : ℤ) : Type 0 where
  pub between : OpenEpochs
  pub heard : HasHeardTold told row old between done
  pub next : CallsNext told.boot between new call before after status

-- It heard nothing; or it heard the answer, and memory was refused. C is told no call.
pub record GoesNoFurther (told : ToldAnswer) (row : List ℕ) (old new : OpenEpochs) (call : DueCall) (before after : List ℕ) (status : ℤ) : Type 0 where
  pub hears : Hears told row old new status
  pub not_done : status ≡ done → ⊥
  pub tells : TellsNoCall call before after

abbrev pub GoesOn : ToldAnswer → List ℕ → OpenEpochs → OpenEpochs → DueCall → (before after : List ℕ) → ℤ → Type 0
GoesOn told row old new call before after status =
    HeardGoesOn told row old new call before after status ⊎ GoesNoFurther told row old new call before after status

-- ALL OF THEM

-- From old to new the host heard these answers, one after another, and these are the calls that were made for that: all of them, but for those of an epoch in which their disk takes no part yet.
abbrev pub AreHeard : (firsts : List ℕ) → Walk → (heard made : List Made) → Walk → Type 0
AreHeard firsts old [] made new = (made ≡ []) × (new ≡ old)
AreHeard firsts old (x ∷ heard) made new = (between : Walk) × IsHeard old x between × IsMadeOr (is_away firsts old ≡ true) x made (λ rest. AreHeard firsts between heard rest new)

-- A task that began, whose calls were heard until it had ended, and whose disks gave what was heard, is what a host over disks works.
abbrev pub CallsWork : {D : Type 0} → (D → Call → Answer → D → Type 0) → Type 0
CallsWork {D = D} gives =
    (task : EpochTask) (old begun new : Walk) (heard made : List Made) (firsts : List ℕ) (disks left : List D) → Begins task old begun → AreHeard firsts begun heard made new → Gave gives disks made left
    → new.task ≡ None
    → HasWorked gives task new.said (record { host = old; disks = disks; firsts = firsts }) (record { host = new; disks = left; firsts = firsts })
