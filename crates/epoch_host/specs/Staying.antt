-- What is so at any time of a host in an epoch, and which call it has due.
use Rattle.std.specs.Prelude.{◌≡◌, ◌⊎◌, ◌<◌, ◌≤◌, ℕ, Bool, true, false, length, Option, Some, None}
use Rattle.disk.specs.Disk.{Call, Attach}
use Rattle.torn_block.specs.Layout.{cluster_version}
use Rattle.torn_block.specs.declared.layout.TheConstants.{DISKS, SLOTS}
use Rattle.paxos_block.specs.Places.{image_length}
use Rattle.standings.specs.Epochs.{epoch_of}
use Rattle.window.specs.Calls.{due_for}
use Rattle.coming.specs.declared.notes.Notes.{Notes}
use Rattle.coming.specs.Coming as coming
use Rattle.host.specs.declared.answer.HostAnswer.{HostAnswer}
use Rattle.host.specs.declared.answer.HostAnswer.TheVariants as answers
use Rattle.host.specs.declared.task.Task.{Task}
use Rattle.host.specs.declared.task.Task.TheVariants.{Look, Mark}
use Rattle.host.specs.Kept as core
use Rattle.host.specs.Kept.{is_idle}
use Rattle.epoch_host.specs.declared.place.TheConstants.{EPOCHS}
use Rattle.epoch_host.specs.declared.stay.Stay.{Stay}
use Rattle.epoch_host.specs.declared.stay.Doing.{Doing}
use Rattle.epoch_host.specs.declared.stay.Doing.TheVariants.{Nothing, Comes, Works, Leaves}
use Rattle.epoch_host.specs.declared.stay.Errand.{Errand}
use Rattle.epoch_host.specs.declared.stay.Errand.TheVariants as errands
use Rattle.epoch_host.specs.declared.stay.Leave.{Leave}
use Rattle.epoch_host.specs.declared.stay.Leave.TheVariants as leave
use Rattle.epoch_host.specs.declared.stay.Work.{Work}
use Rattle.epoch_host.specs.declared.stay.Work.TheVariants as work
use Rattle.epoch_host.specs.Answering.{DoesFor, EndsTask}
use Rattle.epoch_host.specs.Submitting.{IsAsked, Stands, SubmitsFor}
use Rattle.epoch_host.specs.Working.{IsKnown, IsSpelled, IsWorking, GivesTries, HasRoom}

-- WHAT FOR

-- a host that is there for this only looks
abbrev pub only_looks_for : Errand → Bool
only_looks_for errands.Works = false
only_looks_for errands.LearnsWhole = false
only_looks_for errands.Looks = true
only_looks_for errands.LooksBack = true

-- it shows the table of the epoch, once that is whole
abbrev pub shows_table_for : Errand → Bool
shows_table_for errands.LearnsWhole = false
shows_table_for other = true

abbrev pub image_of : Stay → ℕ
image_of s = image_length cluster_version s.config.slots

-- so many slots are learned
abbrev pub learned_of : Stay → ℕ
learned_of s = length s.core.prefix

-- there are as many slots at most
abbrev pub IsFew : Stay → Type 0
IsFew s = (learned_of s ≤ s.config.slots) × (s.config.slots ≤ SLOTS)

-- WHAT IS UNDER WAY

-- The core rests.
pub record Rests (s : Stay) : Type 0 where
  pub idle : is_idle s.core ≡ true
  pub known : IsKnown s.core

-- The host comes to the epoch on a disk, and then there is something to do for the core.
pub record IsComing (s : Stay) (disk : ℕ) (c : Notes) : Type 0 where
  pub rests : Rests s
  pub on : disk < s.config.disks
  pub going : c.end ≡ None
  pub slots : c.slots ≡ s.config.slots
  pub room : HasRoom s.task (learned_of s) s.config.slots

-- The core works for the task, submits what is due, and has said nothing.
pub record CoreWorks (s : Stay) (work : Work) : Type 0 where
  pub busy : is_idle s.core ≡ false
  pub works : IsWorking s.core
  pub submits : SubmitsFor s.over work works.memory.learned works.memory.doing
  pub does : DoesFor s.task work works.memory.doing
  pub silent : s.core.said ≡ None

abbrev pub IsDoing : Stay → Doing → Type 0
IsDoing s Nothing = Rests s
IsDoing s (Comes disk c) = IsComing s disk c
IsDoing s (Works work) = CoreWorks s work
IsDoing s Leaves = Unit {0}

-- a call is due
abbrev pub IsBusy : Doing → Type 0
IsBusy (Comes disk c) = Unit {0}
IsBusy (Works work) = Unit {0}
IsBusy other = ⊥

-- nothing but a look is under way
abbrev pub IsLooking : Doing → Type 0
IsLooking (Comes disk c) = ⊥
IsLooking (Works what) = what ≡ work.Looks
IsLooking other = Unit {0}

-- AT ANY TIME

pub record IsSound (s : Stay) : Type 0 where
  pub epoch : s.epoch ≤ EPOCHS
  pub few : (1 ≤ s.config.disks) × (s.config.disks ≤ DISKS)
  pub some : 1 ≤ s.config.slots
  pub learned : IsFew s
  pub host : s.core.learner.host ≡ s.host
  pub shape : s.core.learner.shape ≡ s.config
  pub window : (s.window.standpoint.host ≡ s.host) × (s.window.standpoint.slots ≡ s.config.slots) × (s.window.standpoint.epoch ≡ epoch_of s.epoch)
  pub tries : 1 ≤ s.tries
  pub may : GivesTries s.task
  pub asked : IsAsked s.host s.task
  pub spelled : IsSpelled s.task
  pub marks : (slot : ℕ) → s.task ≡ Mark slot → HasRoom s.task (learned_of s) s.config.slots
  pub looks : only_looks_for s.errand ≡ true → (s.task ≡ Look) × IsLooking s.doing
  pub doing : IsDoing s s.doing

-- it is the same host in the same epoch
pub record IsSame (old new : Stay) : Type 0 where
  pub host : new.host ≡ old.host
  pub config : new.config ≡ old.config
  pub epoch : new.epoch ≡ old.epoch
  pub errand : new.errand ≡ old.errand
  pub over : new.over ≡ old.over

-- What was learned is told only where the host shows the table, and not of a whole epoch, unless it only looks.
abbrev pub WorksFor : Stay → HostAnswer → Type 0
WorksFor s (answers.Recovered told) = shows_table_for s.errand ≡ true
WorksFor s (answers.Looked told) = (shows_table_for s.errand ≡ true) × (only_looks_for s.errand ≡ false → learned_of s < s.config.slots)
WorksFor s other = Unit {0}

-- the core said this last, and so the task ends
abbrev pub IsAnswered : Task → Stay → HostAnswer → Type 0
IsAnswered task s said = (s.core.said ≡ Some said) × EndsTask s.over s.config.slots task s.core.prefix said × WorksFor s said

-- It is a marking of a slot that is not learned. Or it is a look, and not all slots are learned, or not all that carries the table over.
abbrev pub IsAhead : Task → Stay → Type 0
IsAhead (Mark slot) s = learned_of s ≤ slot
IsAhead Look s = (learned_of s < s.config.slots) ⊎ (Stands s.over s.core.prefix → ⊥)
IsAhead other s = ⊥

-- A call is due, or the host leaves, or nothing is under way. It leaves a full epoch once all slots are learned, if it does not only look, and tells what its core said.
abbrev pub IsSoLeft : Task → Option Leave → Stay → Type 0
IsSoLeft task None s = IsBusy s.doing
IsSoLeft task (Some leave.Passed) s = Unit {0}
IsSoLeft task (Some leave.Full) s = (s.doing ≡ Nothing) × (s.config.slots ≤ learned_of s) × (only_looks_for s.errand ≡ false)
IsSoLeft task (Some (leave.Answered said)) s = (s.doing ≡ Nothing) × IsAnswered task s said
IsSoLeft task (Some leave.NotLearned) s = (s.doing ≡ Nothing) × IsAhead task s
IsSoLeft task (Some leave.NeedsBefore) s = s.doing ≡ Nothing

-- THE CALL THAT IS DUE

abbrev pub due_on : Stay → ℕ × Call → ℕ × Call
due_on s (disk, wanted) = (disk, due_for s.window disk wanted)

abbrev pub due_by : Stay → Doing → ℕ × Call
due_by s (Comes disk c) = (disk, coming.call_due c)
due_by s (Works work) = due_on s (core.due_call s.core)
due_by s other = (0, Attach)

-- the disk and the device call
abbrev pub call_due : Stay → ℕ × Call
call_due s = due_by s s.doing
