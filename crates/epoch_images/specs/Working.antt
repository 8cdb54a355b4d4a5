-- What a host over all epochs and its disks did for a task: which deeds, with which calls, what the disks gave, and how it ended.
use Rattle.std.specs.Prelude.{◌≡◌, ◌⊎◌, ◌<◌, ◌≤◌, ℕ, List, [], ◌∷◌, ◌++◌, length, slice_get, slice_index, Option, Some, None, Result, Ok, Err}
use Rattle.disk.specs.declared.fault.DiskFault.TheVariants.{Failed}
use Rattle.disk.specs.Disk.{Call, Answer, Fault}
use Rattle.torn_block.specs.Layout.{cluster_version}
use Rattle.paxos_block.specs.Places.{image_length}
use Rattle.paxos_block.specs.Shape.{Shape}
use Rattle.standings.specs.Epochs.{whole_length}
use Rattle.standings.specs.Past as past
use Rattle.host.specs.Host.{Memory, Running}
use Rattle.epoch_deeds.specs.Deeds.{Deed, Deeds, Calls, CallsIn, core_in}
use Rattle.epoch_deeds.specs.Knowing.{DoesFrom}
use Rattle.epoch_host.specs.declared.answer.EpochAnswer.{EpochAnswer}
use Rattle.epoch_host.specs.declared.answer.EpochAnswer.TheVariants as answer
use Rattle.epoch_host.specs.declared.task.EpochTask.{EpochTask}
use Rattle.epoch_host.specs.declared.task.EpochTask.TheVariants.{Submit, Recover, Look, Beat, Mark}
use Rattle.epoch_host.specs.declared.walk.Walk.{Walk}
use Rattle.epoch_host.specs.Ending.{AreIdleBy, AreSilentBy, EndsSo, IsDone}
use Rattle.epoch_host.specs.Leading.{LeadsTo, GoesOn}
use Rattle.dlm_images.specs.Operations.{Made, Gave}
use Rattle.epoch_images.specs.declared.fault.EpochFault.{EpochFault}
use Rattle.epoch_images.specs.declared.fault.EpochFault.TheVariants as fault

-- what a host keeps, its disks, and of each of them the first epoch in which it takes part
pub record Standing (D : Type 0) : Type 0 where
  pub host : Walk
  pub disks : List D
  pub firsts : List ℕ

-- CALLS

-- a call on a disk, with its answer
abbrev pub made_on : ℕ → past.Made → Made
made_on d now = record { disk = d; call = now.call; answer = now.answer }

-- the device calls among deeds, in their order
abbrev pub calls_of : Deeds → List Made
calls_of [] = []
calls_of (Calls d now ∷ deeds) = made_on d now ∷ calls_of deeds
calls_of (CallsIn e d now call heard ∷ deeds) = made_on d now ∷ calls_of deeds
calls_of (other ∷ deeds) = calls_of deeds

-- DISKS THAT TAKE PART LATER

-- After these deeds of a host a core of it runs in an epoch before this one.
pub record RunsBefore (c : Shape) (h first : ℕ) (deeds : Deeds) : Type 0 where
  pub epoch : ℕ
  pub memory : Memory
  pub runs : core_in c h epoch deeds ≡ Running memory
  pub before : epoch < first

-- the call is made; or it is not, since its disk takes no part yet, and the host hears that the device failed
abbrev pub IsMadeOr : (early : Type 0) → (call : Made) → (made : List Made) → (Rest : List Made → Type 0) → Type 0
IsMadeOr early call made Rest = ((early → ⊥) × ((rest : List Made) × (made ≡ call ∷ rest) × Rest rest)) ⊎ (early × (call.answer ≡ Fault Failed) × Rest made)

-- These are the calls that are made by deeds which come after others: all device calls among them, in their order, but for those of an epoch in which their disk takes no part yet.
abbrev pub AreMade : Shape → (h : ℕ) → (firsts : List ℕ) → (before deeds : Deeds) → List Made → Type 0
AreMade c h firsts before [] made = made ≡ []
AreMade c h firsts before (Calls d now ∷ deeds) made =
    IsMadeOr (RunsBefore c h (slice_index firsts d) before) (made_on d now) made (λ rest. AreMade c h firsts (before ++ Calls d now ∷ []) deeds rest)
AreMade c h firsts before (CallsIn e d now call heard ∷ deeds) made =
    IsMadeOr (RunsBefore c h (slice_index firsts d) before) (made_on d now) made (λ rest. AreMade c h firsts (before ++ CallsIn e d now call heard ∷ []) deeds rest)
AreMade c h firsts before (other ∷ deeds) made = AreMade c h firsts (before ++ other ∷ []) deeds made

-- DEEDS

-- After these deeds a host did more, and each deed was allowed by all before it. These calls were made by that, and then this is so.
pub record DidMore (c : Shape) (h : ℕ) (firsts : List ℕ) (deeds : Deeds) (made : List Made) (IsSo : Deeds → Type 0) : Type 0 where
  pub more : Deeds
  pub may : DoesFrom c h deeds more
  pub calls : AreMade c h firsts deeds more made
  pub so : IsSo (deeds ++ more)

-- From old to new the host made calls. Its disks gave the answers, and each disk changed only so. Whatever list of deeds led to the old host goes on with
-- deeds that make just these calls, and then this is so of what it did before, and of all that it did.
pub record HasDoneSince {D : Type 0} (gives : D → Call → Answer → D → Type 0) (old new : Standing D) (IsSo : Shape → (h : ℕ) → (before all : Deeds) → Type 0) : Type 0 where
  pub made : List Made
  pub gave : Gave gives old.disks made new.disks
  pub firsts : new.firsts ≡ old.firsts
  pub leads : (c : Shape) (h : ℕ) (deeds : Deeds) → LeadsTo c h deeds old.host → DidMore c h old.firsts deeds made (IsSo c h deeds)

-- the same, where this is of all that it did
abbrev pub HasDone : {D : Type 0} → (D → Call → Answer → D → Type 0) → (old new : Standing D) → (Shape → (h : ℕ) → Deeds → Type 0) → Type 0
HasDone gives old new IsSo = HasDoneSince gives old new (λ c h before all. IsSo c h all)

-- with no call: what leads to the old host leads, with more, to the new one
abbrev pub LeadsOn : (old new : Walk) → Type 0
LeadsOn old new = (c : Shape) (h : ℕ) (deeds : Deeds) → LeadsTo c h deeds old → GoesOn c h deeds (λ after. LeadsTo c h after new)

-- A TASK

-- Behind those before, after these, no core that ran had said anything since it was given something to do.
pub record WasSilent (c : Shape) (h : ℕ) (before all : Deeds) : Type 0 where
  pub early : Deeds
  pub later : Deeds
  pub is : all ≡ (before ++ early) ++ later
  pub silent : AreSilentBy c h (before ++ early)

-- All deeds lead to the host, and by them the task ended as the host said. Before it no core had anything under way; and where it was done, a core said so since then.
pub record IsOver (c : Shape) (h : ℕ) (before all : Deeds) (task : EpochTask) (said : Option EpochAnswer) (host : Walk) : Type 0 where
  pub leads : LeadsTo c h all host
  pub ended : EndsSo c h all (Some task) said
  pub idle : AreIdleBy c h before
  pub silent : IsDone said → WasSilent c h before all

-- From old to new the host carried a task out, and said this last. Where it said nothing, memory was refused, and it gave the task up.
abbrev pub HasWorked : {D : Type 0} → (D → Call → Answer → D → Type 0) → EpochTask → Option EpochAnswer → (old new : Standing D) → Type 0
HasWorked gives task said old new = HasDoneSince gives old new (λ c h before all. IsOver c h before all task said new.host)

-- what the host said last, where a task ended without what it was begun for
abbrev pub said_by : EpochFault → Option EpochAnswer
said_by fault.NoMemory = None
said_by (fault.Refused refusal) = Some (answer.Refused refusal)

-- and where it ended in either way
abbrev pub said_of : Result EpochAnswer EpochFault → Option EpochAnswer
said_of (Ok said) = Some said
said_of (Err fault) = said_by fault

-- an answer that such a task may end with
abbrev pub MayEnd : EpochTask → EpochAnswer → Type 0
MayEnd (Submit command tries) (answer.Ack place reply) = Unit {0}
MayEnd (Recover tries) (answer.Recovered upto) = Unit {0}
MayEnd Look (answer.Looked upto) = Unit {0}
MayEnd Beat (answer.Beaten host) = Unit {0}
MayEnd (Mark place) (answer.Marked count) = Unit {0}
MayEnd task (answer.Refused refusal) = Unit {0}
MayEnd task other = ⊥

-- BETWEEN TASKS

-- some list of deeds leads to the host
pub record IsKnown (w : Walk) : Type 0 where
  pub shape : Shape
  pub host : ℕ
  pub deeds : Deeds
  pub leads : LeadsTo shape host deeds w

-- Each disk has so many bytes at least: two areas, and the rows of standings between them.
abbrev pub room_of : Shape → ℕ
room_of c = whole_length (image_length cluster_version c.slots)

-- Something is known of the host of this cluster, and nothing is under way. It has as many disks as the cluster, and each has room for both areas.
pub record Rests {D : Type 0} (size : D → ℕ) (config : Shape) (s : Standing D) : Type 0 where
  pub known : IsKnown s.host
  pub idle : s.host.task ≡ None
  pub config_is : config ≡ s.host.config
  pub as_many : length s.disks ≡ s.host.config.disks
  pub large : (k : ℕ) (d : D) → slice_get s.disks k ≡ Some d → room_of s.host.config ≤ size d
