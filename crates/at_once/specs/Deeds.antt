-- Operations, markings and looks with the device calls that they made, as deeds of their host.
use Rattle.std.specs.Prelude.{◌≡◌, ◌<◌, ℕ, true, List, [], ◌∷◌, ◌++◌, map, IsTrue}
use Rattle.disk.specs.Disk.{Call, Answer}
use Rattle.torn_block.specs.declared.layout.TheConstants.{HOSTS}
use Rattle.paxos_block.specs.Shape.{Shape}
use Rattle.host.specs.Host.{Operation, Submitting, Recovering, Memory, Stopped, Running, fresh, is_idle, is_stopped}
use Rattle.host.specs.Kept.{Kept, LeadsTo}
use Rattle.host.specs.declared.task.Task.{Task}
use Rattle.host.specs.declared.task.Task.TheVariants.{Submit, Recover, Look, Mark}
use Rattle.world.specs.Entry.{Filled, Start, Begin, Called, host_after}
use Rattle.world.specs.World.{MayBeGiven}
use Rattle.dlm_images.specs.Operations.{Made, Standing, HasOperated, HasMarked, HasLooked}
use Rattle.at_once.specs.AtOnce.{Does}

-- DEEDS

-- calls that host h made
abbrev pub calls : ℕ → List Made → List Filled
calls h made = map (λ x. Called h x.disk x.call x.answer []) made

-- the task that is an operation with so many tries
abbrev pub task_of : Operation → ℕ → Task
task_of (Submitting command) tries = Submit command tries
task_of Recovering tries = Recover tries

-- WHAT A HOST HAS DONE

-- These deeds of host h are what it may do, one after another; after them it is idle, and keeps what it then knows.
pub record HasDone (c : Shape) (h : ℕ) (kept : Kept) (es : List Filled) : Type 0 where
  pub does : Does c h Stopped es
  pub memory : Memory
  pub knows : host_after c h Stopped es ≡ Running memory
  pub idle : is_idle memory ≡ true
  pub leads : LeadsTo c h memory kept

-- a stopped host has started, whatever it had done before
abbrev pub Starts : Type 0
Starts = (c : Shape) (h : ℕ) (kept : Kept) (es : List Filled) → h < HOSTS → Does c h Stopped es → IsTrue (is_stopped (host_after c h Stopped es)) →
    LeadsTo c h fresh kept → HasDone c h kept (es ++ Start h ∷ [])

-- an operation has ended, and its calls were made
abbrev pub Operates : {D : Type 0} → (D → Call → Answer → D → Type 0) → Type 0
Operates {D = D} gives = (c : Shape) (h : ℕ) (es : List Filled) (operation : Operation) (tries : ℕ) (old new : Standing D) →
    HasDone c h old.core es → MayBeGiven c h (task_of operation tries) → (done : HasOperated gives operation tries old new) →
    HasDone c h new.core (es ++ Begin h (task_of operation tries) ∷ calls h done.made)

-- a slot was marked, and its calls were made
abbrev pub Marks : {D : Type 0} → (D → Call → Answer → D → Type 0) → Type 0
Marks {D = D} gives = (c : Shape) (h : ℕ) (es : List Filled) (slot : ℕ) (old new : Standing D) →
    HasDone c h old.core es → slot < c.slots → (done : HasMarked gives slot old new) →
    HasDone c h new.core (es ++ Begin h (Mark slot) ∷ calls h done.made)

-- a look has ended, and its calls were made
abbrev pub Looks : {D : Type 0} → (D → Call → Answer → D → Type 0) → Type 0
Looks {D = D} gives = (c : Shape) (h : ℕ) (es : List Filled) (old new : Standing D) →
    HasDone c h old.core es → (done : HasLooked gives old new) →
    HasDone c h new.core (es ++ Begin h Look ∷ calls h done.made)
