-- Tasks of a host over disks, with the device calls that they made, as what their host does by itself.
use Rattle.std.specs.Prelude.{◌≡◌, ◌⊎◌, ◌<◌, ℕ, List, [], ◌∷◌, ◌++◌, map, Option, Some, None}
use Rattle.disk.specs.Disk.{Call, Answer}
use Rattle.torn_block.specs.declared.layout.TheConstants.{HOSTS}
use Rattle.paxos_block.specs.Shape.{Shape}
use Rattle.epoch_deeds.specs.Deeds.{Deed, Deeds, Calls, CallsIn}
use Rattle.epoch_host.specs.declared.answer.EpochAnswer.{EpochAnswer}
use Rattle.epoch_host.specs.declared.task.EpochTask.{EpochTask}
use Rattle.epoch_host.specs.declared.walk.Walk.{Walk}
use Rattle.epoch_host.specs.Ending.{AreIdleBy, AreSilentBy, EndsSo, IsDone}
use Rattle.epoch_host.specs.Leading.{LeadsTo}
use Rattle.epoch_images.specs.Working.{Standing, AreMade, HasWorked}
use Rattle.epoch_runs.specs.World.{Entry, Does, Breaks, BreaksIn, Ends}
use Rattle.epochs_at_once.specs.AtOnce.{deeds_since, DoesAlone}

-- deeds of host h
abbrev pub done_by : ℕ → Deeds → List Entry
done_by h deeds = map (λ deed. Does h deed) deeds

-- These entries of host h are what it may do by itself, one after another; and what it did since its last start leads to what it keeps.
pub record HasDone (c : Shape) (h : ℕ) (host : Walk) (entries : List Entry) : Type 0 where
  pub number : h < HOSTS
  pub does : DoesAlone c h [] entries
  pub leads : LeadsTo c h (deeds_since entries) host

-- a host has started, where nothing was done under its number since a process of it stopped
abbrev pub Starts : Type 0
Starts = (c : Shape) (h : ℕ) (host : Walk) (entries : List Entry) → h < HOSTS → DoesAlone c h [] entries → deeds_since entries ≡ [] → LeadsTo c h [] host → HasDone c h host entries

-- After some of these deeds no core of it had said anything since it was given something to do. So what is said behind all of them was said since.
pub record IsSaidSince (c : Shape) (h : ℕ) (before : List Entry) (more : Deeds) : Type 0 where
  pub early : Deeds
  pub later : Deeds
  pub is : more ≡ early ++ later
  pub silent : AreSilentBy c h (deeds_since (before ++ done_by h early))

-- A task of it is over, and these deeds made its calls; by all that it did since its start the task ended as it said. So it is where it said nothing, as memory was refused. As the task
-- began no core of it had anything under way; and where it was done, a core said so since then.
pub record HasGoneOn (c : Shape) (h : ℕ) (task : EpochTask) (said : Option EpochAnswer) (host : Walk) (before : List Entry) (more : Deeds) : Type 0 where
  pub done : HasDone c h host (before ++ done_by h more)
  pub ended : EndsSo c h (deeds_since (before ++ done_by h more)) (Some task) said
  pub idle : AreIdleBy c h (deeds_since before)
  pub silent : IsDone said → IsSaidSince c h before more

abbrev pub Works : {D : Type 0} → (D → Call → Answer → D → Type 0) → Type 0
Works {D = D} gives = (c : Shape) (h : ℕ) (entries : List Entry) (task : EpochTask) (said : Option EpochAnswer) (old new : Standing D) →
    HasDone c h old.host entries → (worked : HasWorked gives task said old new) → (more : Deeds) × AreMade c h old.firsts (deeds_since entries) more worked.made × HasGoneOn c h task said new.host entries more

-- the entry of a host that stopped within the write that a deed is
abbrev pub broken : ℕ → Deed → Option Entry
broken h (Calls k now) = Some (Breaks h k now.call)
broken h (CallsIn e k now call heard) = Some (BreaksIn e h k call)
broken h other = None

-- it stops before a deed, or within it
abbrev pub IsStopAt : ℕ → Deed → Entry → Type 0
IsStopAt h deed stop = (stop ≡ Ends h) ⊎ (broken h deed ≡ Some stop)

-- Whoever stops in the midst of what it may do has done what it may, and nothing since.
abbrev pub StopsMidway : Type 0
StopsMidway = (c : Shape) (h : ℕ) (before : List Entry) (early : Deeds) (deed : Deed) (later : Deeds) (stop : Entry) → DoesAlone c h [] (before ++ done_by h (early ++ deed ∷ later)) → IsStopAt h deed stop →
    DoesAlone c h [] (before ++ done_by h early ++ stop ∷ []) × (deeds_since (before ++ done_by h early ++ stop ∷ []) ≡ [])

-- So has a host that stops after all that it did.
abbrev pub StopsLast : Type 0
StopsLast = (c : Shape) (h : ℕ) (entries : List Entry) → DoesAlone c h [] entries → DoesAlone c h [] (entries ++ Ends h ∷ []) × (deeds_since (entries ++ Ends h ∷ []) ≡ [])
