-- What is done to simulated hosts and their disks, and which entries that adds.
use Rattle.std.specs.Prelude.{◌≡◌, ◌≢◌, ◌^◌, ◌&&◌, ℕ, Bool, true, false, not, nat_lt, is_none, List, [], ◌∷◌, ◌++◌, slice_get, slice_set, slice_index_or, Option, Some, None, IsSome}
use Rattle.disk.specs.Disk.{Call, Attach, Write, Answer}
use Rattle.disk.specs.Simulated.{SimState, fresh_disk, outcome, refusal_of, failed_by}
use Rattle.paxos_block.specs.Shape.{Shape}
use Rattle.standings.specs.Epochs.{epoch_of, base_of}
use Rattle.standings.specs.Reading.{moved}
use Rattle.standings.specs.Past.{Made, made}
use Rattle.epoch_deeds.specs.Deeds.{Deed, Deeds}
use Rattle.epoch_deeds.specs.Knowing.{image_of}
use Rattle.epoch_host.specs.declared.task.EpochTask.{EpochTask}
use Rattle.epoch_host.specs.declared.walk.Walk.{Walk}
use Rattle.epoch_host.specs.Ending.{AreSilent, IsGivenUp, TaskGoesOn}
use Rattle.epoch_host.specs.Leading.{MakesCall, MakeNone}
use Rattle.epoch_host.specs.Walking.{MayBegin, call_due}
use Rattle.epoch_runs.specs.World.{Entry, Does, Breaks, BreaksIn, Ends}
use Rattle.epoch_simulator.specs.declared.begin_fault.BeginFault.{BeginFault}
use Rattle.epoch_simulator.specs.declared.begin_fault.BeginFault.TheVariants.{Busy, NotAllowed, NoMemory}
use Rattle.epoch_simulator.specs.Kept.{Kept, LeadsTo, IsHost, IsNew, calm}

-- HOSTS, DISKS AND CALLS

-- a host has a task under way, or none
abbrev pub IsBusy : Kept → (h : ℕ) → Type 0
IsBusy k h = (w : Walk) × IsHost k h w × IsSome w.task

abbrev pub IsIdle : Kept → (h : ℕ) → Type 0
IsIdle k h = (w : Walk) × IsHost k h w × (w.task ≡ None)

-- this is so of what is kept of a host
abbrev pub OfHost : Kept → (h : ℕ) → (Walk → Type 0) → Type 0
OfHost k h IsSo = (w : Walk) → IsHost k h w → IsSo w

-- this is so of what a host did since its start, by whatever entries lead here
abbrev pub OfDeeds : Kept → (h : ℕ) → (Deeds → Type 0) → Type 0
OfDeeds k h IsSo = (entries : List Entry) (led : LeadsTo entries k) → IsSo (led.world.deeds h)

abbrev pub disk_of : Kept → (d : ℕ) → SimState
disk_of k d = slice_index_or k.disks d (calm (fresh_disk 0))

-- a disk is there, and not lost; and its boot number may rise
abbrev pub may_lose : Kept → (d : ℕ) → Bool
may_lose k d = nat_lt d k.shape.disks && not (disk_of k d).disk.gone

abbrev pub may_crash : Kept → (d : ℕ) → Bool
may_crash k d = may_lose k d && nat_lt (disk_of k d).disk.boot (2 ^ 62)

-- the device call that a host has due, and its disk
abbrev pub due_of : Option Walk → ℕ × Call
due_of None = (0, Attach)
due_of (Some w) = call_due w

abbrev pub due : Kept → (h : ℕ) → ℕ × Call
due k h = due_of (slice_get k.hosts h)

-- what the call makes of the disk, and the answer
abbrev pub outcome_due : Kept → (h : ℕ) → SimState × Answer
outcome_due k h = outcome (disk_of k (due k h).0) (due k h).1

-- what it leaves where it is not made to its end, and the range of a write takes these bytes
abbrev pub left_by : SimState → Call → (given : List ℕ) → SimState
left_by old call given = record old { disk = failed_by old.disk call given }

abbrev pub cut_due : Kept → (h : ℕ) → (given : List ℕ) → SimState
cut_due k h given = left_by (disk_of k (due k h).0) (due k h).1 given

abbrev pub is_write : Call → Bool
is_write (Write boot at from) = true
is_write other = false

-- whether the disk does not refuse the call; and whether the call is a write, too
abbrev pub may_fail : Kept → (h : ℕ) → Bool
may_fail k h = is_none (refusal_of (disk_of k (due k h).0).disk (due k h).1)

abbrev pub may_tear : Kept → (h : ℕ) → Bool
may_tear k h = is_write (due k h).1 && may_fail k h

-- ENTRIES

abbrev pub done_by : (h : ℕ) → Deeds → List Entry
done_by h [] = []
done_by h (deed ∷ deeds) = Does h deed ∷ done_by h deeds

-- a host does something with no call
pub record AreSilentOf (h : ℕ) (entries : List Entry) : Type 0 where
  pub deeds : Deeds
  pub none : MakeNone deeds
  pub are : entries ≡ done_by h deeds

-- it makes this call on a disk, and then does more with no call
pub record MakeOne (h d : ℕ) (now : Made) (entries : List Entry) : Type 0 where
  pub deed : Deed
  pub makes : MakesCall d now deed
  pub more : Deeds
  pub none : MakeNone more
  pub are : entries ≡ done_by h (deed ∷ more)

-- it ends within this write, its own or one that its core in an epoch has due
abbrev pub IsBreak : Shape → (h : ℕ) → ℕ × Call → Entry → Type 0
IsBreak c h write (Breaks g k call) = (g ≡ h) × (k ≡ write.0) × (call ≡ write.1)
IsBreak c h write (BreaksIn e g k call) = (g ≡ h) × (k ≡ write.0) × (moved (base_of (image_of c) (epoch_of e).area) call ≡ write.1)
IsBreak c h write other = ⊥

-- Whatever entries led to what was kept go on with such entries, and then lead to what is kept.
abbrev pub LeadsOn : (List Entry → Type 0) → (old new : Kept) → Type 0
LeadsOn AreSo old new = (entries : List Entry) → LeadsTo entries old → (more : List Entry) × AreSo more × LeadsTo (entries ++ more) new

-- they do so with one entry, of which this is so
abbrev pub LeadsOnBy : (Entry → Type 0) → (old new : Kept) → Type 0
LeadsOnBy IsSo old new = (entries : List Entry) → LeadsTo entries old → (entry : Entry) × IsSo entry × LeadsTo (entries ++ entry ∷ []) new

-- WHAT IS DONE

-- This is so of what was kept of a host, and of what is. All other hosts stay as they were.
pub record Changes (h : ℕ) (old new : Kept) (IsSo : (before after : Walk) → Type 0) : Type 0 where
  pub before : Walk
  pub after : Walk
  pub was : IsHost old h before
  pub is : IsHost new h after
  pub so : IsSo before after
  pub others : (g : ℕ) → g ≢ h → slice_get new.hosts g ≡ slice_get old.hosts g
  pub shape : new.shape ≡ old.shape

-- An idle host begins a task that it may be given, with no call, and then this is so of it.
pub record Begins (h : ℕ) (task : EpochTask) (old new : Kept) (IsSo : Walk → Type 0) : Type 0 where
  pub idle : IsIdle old h
  pub may : MayBegin h task
  pub disks : new.disks ≡ old.disks
  pub host : Changes h old new (λ before after. IsSo after)
  pub leads : LeadsOn (AreSilentOf h) old new

-- Its task goes on, or has ended; nothing is done before a call.
abbrev pub HasBegun : EpochTask → Walk → Type 0
HasBegun task w = TaskGoesOn ⊥ (Some task) w

-- why a task was not begun, or was given up
abbrev pub IsCause : (h : ℕ) → EpochTask → (old new : Kept) → BeginFault → Type 0
IsCause h task old new Busy = IsBusy old h × (new ≡ old)
IsCause h task old new NotAllowed = IsIdle old h × (MayBegin h task → ⊥) × (new ≡ old)
IsCause h task old new NoMemory = Begins h task old new IsGivenUp

-- The call that a host has due leaves its disk so, and the host hears this answer. Then this is so of it.
pub record Hears (h : ℕ) (left : SimState) (answer : Answer) (old new : Kept) (IsSo : (before after : Walk) → Type 0) : Type 0 where
  pub disks : new.disks ≡ slice_set old.disks (due old h).0 left
  pub host : Changes h old new IsSo
  pub leads : LeadsOn (MakeOne h (due old h).0 (made (due old h).1 answer)) old new

-- Its task goes on, or has ended. It was done only where no core had said anything before.
abbrev pub KeepsTask : (before after : Walk) → Type 0
KeepsTask before after = TaskGoesOn (AreSilent before) before.task after

abbrev pub GivesUp : (before after : Walk) → Type 0
GivesUp before after = IsGivenUp after

-- A host stops, and is as a new one.
pub record Stops (h : ℕ) (old new : Kept) : Type 0 where
  pub disks : new.disks ≡ old.disks
  pub host : Changes h old new (λ before after. IsNew old.shape h after)
  pub leads : LeadsOnBy (λ entry. entry ≡ Ends h) old new

-- It stops within the write that it has due, whose range takes these bytes.
pub record StopsWithin (h : ℕ) (given : List ℕ) (old new : Kept) : Type 0 where
  pub disks : new.disks ≡ slice_set old.disks (due old h).0 (cut_due old h given)
  pub host : Changes h old new (λ before after. IsNew old.shape h after)
  pub leads : LeadsOnBy (IsBreak old.shape h (due old h)) old new

-- A disk is this from now on, by this entry, and all else stays as it was.
pub record ChangesDisk (d : ℕ) (left : SimState) (by : Entry) (old new : Kept) : Type 0 where
  pub is : new ≡ record old { disks = slice_set old.disks d left }
  pub leads : LeadsOnBy (λ entry. entry ≡ by) old new
