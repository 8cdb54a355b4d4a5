-- What is so at any time of a host on its way through the epochs.
use Rattle.std.specs.Prelude.{◌≡◌, ◌≤◌, ℕ, Bool, true, Option, Some, None}
use Rattle.disk.specs.Disk.{Call, Attach}
use Rattle.torn_block.specs.Layout.{cluster_version}
use Rattle.torn_block.specs.declared.layout.TheConstants.{DISKS}
use Rattle.paxos_block.specs.Places.{image_length}
use Rattle.lock_command.specs.Command.{is_submittable}
use Rattle.host.specs.declared.task.Task.{Task}
use Rattle.coming.specs.declared.found.Found.{Found}
use Rattle.coming.specs.declared.search.Search.{Search}
use Rattle.coming.specs.Finding as finding
use Rattle.epoch_host.specs.declared.task.EpochTask.{EpochTask}
use Rattle.epoch_host.specs.declared.task.EpochTask.TheVariants.{Submit, Recover, Look}
use Rattle.epoch_host.specs.declared.stay.Leave.{Leave}
use Rattle.epoch_host.specs.declared.stay.Leave.TheVariants as leave
use Rattle.epoch_host.specs.declared.stay.Stay.{Stay}
use Rattle.epoch_host.specs.declared.stay.Doing.TheVariants.{Nothing}
use Rattle.epoch_host.specs.declared.walk.Walk.{Walk}
use Rattle.epoch_host.specs.declared.walk.Whereabouts.{Whereabouts}
use Rattle.epoch_host.specs.declared.walk.Whereabouts.TheVariants.{Nowhere, Finds, In}
use Rattle.epoch_host.specs.Ending.{in_epochs}
use Rattle.epoch_host.specs.Staying as stay
use Rattle.epoch_host.specs.Submitting.{Stands}

-- A host may be given the task: it has a try, where it needs one, and a command is the host's own, for which a client may ask.
abbrev pub MayBegin : ℕ → EpochTask → Type 0
MayBegin h (Submit command tries) = (1 ≤ tries) × (command.host ≡ h) × (is_submittable command ≡ true)
MayBegin h (Recover tries) = 1 ≤ tries
MayBegin h other = Unit {0}

-- one that only looks has no other task than to look
abbrev pub LooksAlone : (only_looks : Bool) → Option EpochTask → Type 0
LooksAlone only_looks under_way = only_looks ≡ true → (task : EpochTask) → under_way ≡ Some task → task ≡ Look

abbrev pub image_of : Walk → ℕ
image_of w = image_length cluster_version w.config.slots

-- WHERE IT IS

-- it is in an epoch, where it only looks if it does so everywhere
pub record IsStaying (w : Walk) (s : Stay) : Type 0 where
  pub sound : stay.IsSound s
  pub host : s.host ≡ w.host
  pub config : s.config ≡ w.config
  pub looks : stay.only_looks_for s.errand ≡ w.only_looks

-- it shows the table of that epoch, which is there
pub record IsAtWork (w : Walk) (s : Stay) : Type 0 where
  pub is : w.is ≡ In s
  pub stays : IsStaying w s
  pub works : stay.shows_table_for s.errand ≡ true
  pub whole : Stands s.over s.core.prefix

-- It has so left its epoch, with the task that is this one of all epochs.
abbrev pub IsLeftFor : Option EpochTask → Stay → Leave → Type 0
IsLeftFor task s leave = (own : Task) × (task ≡ Some (in_epochs s.config s.epoch own)) × stay.IsSoLeft own (Some leave) s

-- its core has said nothing
abbrev pub IsFresh : Whereabouts → Type 0
IsFresh (In s) = s.core.said ≡ None
IsFresh other = Unit {0}

-- it leaves with an answer
abbrev pub IsAnswering : Leave → Type 0
IsAnswering (leave.Answered said) = Unit {0}
IsAnswering other = ⊥

-- nothing is under way
abbrev pub IsResting : Walk → Whereabouts → Type 0
IsResting w Nowhere = Unit {0}
IsResting w (Finds search) = ⊥
IsResting w (In s) = IsStaying w s × (s.doing ≡ Nothing)

-- a search is under way
pub record IsFinding (w : Walk) (search : Search) : Type 0 where
  pub going : search.end ≡ None
  pub slots : search.slots ≡ w.config.slots
  pub disks : search.disks ≡ w.config.disks

-- the search has ended so
pub record HasEnded (search : Search) (found : Found) : Type 0 where
  pub is : search.end ≡ Some found
  pub so : finding.HasFound search.disks search.readings found

-- a call is due
abbrev pub IsGoing : Walk → Whereabouts → Type 0
IsGoing w Nowhere = ⊥
IsGoing w (Finds search) = IsFinding w search
IsGoing w (In s) = IsStaying w s × stay.IsBusy s.doing

-- in an epoch its task is this one of all epochs
abbrev pub GoesFor : EpochTask → Whereabouts → Type 0
GoesFor task (In s) = task ≡ in_epochs s.config s.epoch s.task
GoesFor task other = Unit {0}

-- it has a task, of which it has said nothing, and a call is due; or it has none, and nothing is under way
abbrev pub IsAt : Walk → Option EpochTask → Type 0
IsAt w None = IsResting w w.is
IsAt w (Some task) = MayBegin w.host task × IsGoing w w.is × GoesFor task w.is × (w.said ≡ None)

-- there are as many disks and slots as a cluster may have
abbrev pub HasFew : Walk → Type 0
HasFew w = (1 ≤ w.config.disks) × (w.config.disks ≤ DISKS) × (1 ≤ w.config.slots)

pub record IsSound (w : Walk) : Type 0 where
  pub few : HasFew w
  pub here : IsAt w w.task
  pub looks : LooksAlone w.only_looks w.task

-- it is the same host
pub record IsSame (old new : Walk) : Type 0 where
  pub host : new.host ≡ old.host
  pub config : new.config ≡ old.config

-- and it only looks if it did so before
pub record IsSameWalk (old new : Walk) : Type 0 where
  pub host : new.host ≡ old.host
  pub config : new.config ≡ old.config
  pub looks : new.only_looks ≡ old.only_looks

-- THE CALL THAT IS DUE

abbrev pub due_in : Whereabouts → ℕ × Call
due_in Nowhere = (0, Attach)
due_in (Finds search) = finding.call_due search
due_in (In s) = stay.call_due s

-- the disk and the device call
abbrev pub call_due : Walk → ℕ × Call
call_due w = due_in w.is
