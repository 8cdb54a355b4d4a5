-- What a call does with the host, and what C is told of that.
use Rattle.std.specs.Prelude.{◌≡◌, ◌≤◌, ◌<◌, ◌^◌, ◌⊎◌, ℕ, ℤ, true, false, List, [], ◌∷◌, Some, None}
use Rattle.disk.specs.Disk.{Call, Answer, Attach, Booted}
use Rattle.paxos_block.specs.Shape.{Shape}
use Rattle.lock_command.specs.declared.command.Command.{Command}
use Rattle.lock_command.specs.Command.{Fits}
use Rattle.host.specs.Host.{Memory, starts}
use Rattle.host.specs.Kept.{Kept, LeadsTo, is_idle, due_call}
use Rattle.host.specs.declared.task.Task.{Task}
use Rattle.host.specs.declared.task.Task.TheVariants.{Submit, Recover, Look, Mark}
use Rattle.dlm_images.specs.Operations.{Made, IsDue, Gave, HasCarriedOut, after_call}
use Rattle.c_host.specs.declared.call.DueCall.{DueCall}
use Rattle.c_host.specs.declared.call.ToldAnswer.{ToldAnswer}
use Rattle.c_host.specs.declared.request.Request.{Request}
use Rattle.c_host.specs.declared.open_host.OpenHost.{OpenHost}
use Rattle.c_host.specs.Calls.{TellsDue, IsTooLong, no_call, answer_in}
use Rattle.c_host.specs.Numbers.{done, bad_argument, busy, nothing_due, no_room}
use Rattle.c_host.specs.Requests.{IsAsked}

-- the folder is the same
pub record IsSameFolder (old new : OpenHost) : Type 0 where
  pub config : new.config ≡ old.config
  pub cluster : new.cluster ≡ old.cluster

-- A TASK BEGINS

-- whatever led to the old host, with this task begun it leads to the new one
abbrev pub Begins : Task → Kept → Kept → Type 0
Begins task old new = (c : Shape) (h : ℕ) (m : Memory) → LeadsTo c h m old → LeadsTo c h (starts c m task) new

-- An idle host began what was asked.
pub record HasBegun (Asked : Kept → Kept → Type 0) (old new : OpenHost) (status : ℤ) : Type 0 where
  pub told : status ≡ done
  pub idle : is_idle old.core ≡ true
  pub begins : Asked old.core new.core
  pub same : IsSameFolder old new

-- Nothing was begun, and the host is as it was: something is under way; or nothing is, and nothing was asked that may be.
pub record IsRefused (Wrong : Kept → Type 0) (old new : OpenHost) (status : ℤ) : Type 0 where
  pub same : new ≡ old
  pub told : ((status ≡ busy) × (is_idle old.core ≡ false)) ⊎ ((status ≡ bad_argument) × (is_idle old.core ≡ true) × Wrong old.core)

abbrev pub BeginsOr : (Kept → Kept → Type 0) → (Kept → Type 0) → OpenHost → OpenHost → ℤ → Type 0
BeginsOr Asked Wrong old new status = HasBegun Asked old new status ⊎ IsRefused Wrong old new status

-- so many tries may be given
abbrev pub AreTries : ℕ → Type 0
AreTries tries = (1 ≤ tries) × (tries < 2 ^ 8)

-- The command that is asked of this host is submitted.
pub record SubmitsAsked (r : Request) (name : List ℕ) (tries : ℕ) (old new : Kept) : Type 0 where
  pub command : Command
  pub fits : Fits command
  pub asked : IsAsked r name old.learner.host command
  pub tried : AreTries tries
  pub begins : Begins (Submit command tries) old new

-- no command is asked, or not so many tries may be given
abbrev pub AsksNothing : Request → List ℕ → ℕ → Kept → Type 0
AsksNothing r name tries old = (command : Command) → Fits command → IsAsked r name old.learner.host command → AreTries tries → ⊥

abbrev pub Submits : Request → List ℕ → ℕ → OpenHost → OpenHost → ℤ → Type 0
Submits r name tries = BeginsOr (SubmitsAsked r name tries) (AsksNothing r name tries)

abbrev pub Recovers : ℕ → OpenHost → OpenHost → ℤ → Type 0
Recovers tries = BeginsOr (λ old new. AreTries tries × Begins (Recover tries) old new) (λ old. AreTries tries → ⊥)

abbrev pub Looks : OpenHost → OpenHost → ℤ → Type 0
Looks = BeginsOr (Begins Look) (λ old. ⊥)

abbrev pub Marks : ℕ → OpenHost → OpenHost → ℤ → Type 0
Marks slot = BeginsOr (Begins (Mark slot)) (λ old. slot < 2 ^ 16 → ⊥)

-- ITS CALLS

-- the call that is due, and this answer to it
abbrev pub made_of : Kept → Answer → Made
made_of old answer = record { disk = (due_call old).0; call = (due_call old).1; answer = answer }

-- It was the call that was due, its answer is of its kind, and the host has heard it, and nothing else.
pub record IsHeard (old : Kept) (x : Made) (new : Kept) : Type 0 where
  pub due : (c : Shape) (h : ℕ) (m : Memory) → LeadsTo c h m old → IsDue c h m x
  pub leads : (c : Shape) (h : ℕ) (m : Memory) → LeadsTo c h m old → LeadsTo c h (after_call c h m x) new

-- an attach is due
abbrev pub IsAttachDue : Kept → Type 0
IsAttachDue k = (is_idle k ≡ false) × ((due_call k).1 ≡ Attach)

-- The host heard that the disk to be attached answered with this boot number, and nothing else.
pub record HasAttached (boot : ℕ) (old new : OpenHost) : Type 0 where
  pub due : IsAttachDue old.core
  pub heard : IsHeard old.core (made_of old.core (Booted boot)) new.core
  pub same : IsSameFolder old new

-- so it is where an attach is due; else the host is as it was
abbrev pub Attaches : ℕ → OpenHost → OpenHost → Type 0
Attaches boot old new = HasAttached boot old new ⊎ ((IsAttachDue old.core → ⊥) × (new ≡ old))

-- no call is told, and nothing to be written
abbrev pub TellsNoCall : DueCall → (before after : List ℕ) → Type 0
TellsNoCall call before after = (call ≡ no_call) × (after ≡ before)

-- C is told this call, unless it writes more bytes than there is room for: then no call
abbrev pub TellsCallDue : ℕ × Call → DueCall → (before after : List ℕ) → ℤ → Type 0
TellsCallDue due call before after status =
    ((status ≡ done) × TellsDue call before after due) ⊎ ((status ≡ no_room) × IsTooLong due.1 × TellsNoCall call before after)

-- C is told the call that is due, or that none is.
abbrev pub TellsNext : OpenHost → DueCall → (before after : List ℕ) → ℤ → Type 0
TellsNext host call before after status =
    ((is_idle host.core ≡ false) × TellsCallDue (due_call host.core) call before after status)
    ⊎ ((is_idle host.core ≡ true) × (status ≡ nothing_due) × TellsNoCall call before after)

-- The same, after an attach that was due.
pub record CallsNext (boot : ℕ) (old new : OpenHost) (call : DueCall) (before after : List ℕ) (status : ℤ) : Type 0 where
  pub attaches : Attaches boot old new
  pub tells : TellsNext new call before after status

-- The host heard the answer that C told, and nothing else.
pub record HasHeardTold (told : ToldAnswer) (row : List ℕ) (old new : OpenHost) : Type 0 where
  pub busy : is_idle old.core ≡ false
  pub answer : Answer
  pub is : answer_in (due_call old.core).1 told row ≡ Some answer
  pub heard : IsHeard old.core (made_of old.core answer) new.core
  pub same : IsSameFolder old new

-- The host heard nothing, and is as it was: no call is due; or one is, and C told no answer to it.
pub record HearsNothing (told : ToldAnswer) (row : List ℕ) (old new : OpenHost) (status : ℤ) : Type 0 where
  pub same : new ≡ old
  pub why :
      ((status ≡ nothing_due) × (is_idle old.core ≡ true))
      ⊎ ((status ≡ bad_argument) × (is_idle old.core ≡ false) × (answer_in (due_call old.core).1 told row ≡ None))

-- It heard the answer, and C is told the next call.
pub record HeardGoesOn (told : ToldAnswer) (row : List ℕ) (old new : OpenHost) (call : DueCall) (before after : List ℕ) (status : ℤ) : Type 0 where
  pub between : OpenHost
  pub heard : HasHeardTold told row old between
  pub next : CallsNext told.boot between new call before after status

-- where it heard nothing, C is told no call
abbrev pub GoesOn : ToldAnswer → List ℕ → OpenHost → OpenHost → DueCall → (before after : List ℕ) → ℤ → Type 0
GoesOn told row old new call before after status =
    HeardGoesOn told row old new call before after status ⊎ (HearsNothing told row old new status × TellsNoCall call before after)

-- ALL OF THEM

-- from old to new the host heard these calls, one after another
abbrev pub AreHeard : Kept → List Made → Kept → Type 0
AreHeard old [] new = new ≡ old
AreHeard old (x ∷ xs) new = (between : Kept) × IsHeard old x between × AreHeard between xs new

-- A task that began, whose calls were heard until it had ended, and whose disks gave what was heard, is what hosts over disks carry out.
abbrev pub CallsCarryOut : {D : Type 0} → (D → Call → Answer → D → Type 0) → Type 0
CallsCarryOut {D = D} gives = (task : Task) (old begun new : Kept) (made : List Made) (disks left : List D) →
    Begins task old begun → AreHeard begun made new → Gave gives disks made left → is_idle new ≡ true →
    HasCarriedOut gives (λ c m. starts c m task) (record { core = old; disks = disks }) (record { core = new; disks = left })
