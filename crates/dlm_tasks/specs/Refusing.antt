-- Why a task is refused: for the very cause for which a part of it was. And what it had printed before.
use Rattle.std.specs.Prelude.{◌≡◌, ◌⊎◌, ◌+◌, ℕ, List, Option, Some}
use Rattle.disk.specs.FileStates.{FileState, FileGives}
use Rattle.disk.specs.declared.fault.ImageFault.TheVariants.{Unreadable}
use Rattle.paxos_block.specs.Shape.{Shape}
use Rattle.lock_command.specs.declared.command.Command.{Command}
use Rattle.attempt.specs.declared.refusal.Refusal.{Refusal}
use Rattle.attempt.specs.declared.refusal.Refusal.TheVariants.{Outrun}
use Rattle.host.specs.Host.{Recovering, fresh}
use Rattle.host.specs.Kept as hosts
use Rattle.host.specs.declared.answer.HostAnswer.TheVariants as answer
use Rattle.folders.specs.Folders.{IsLockFault}
use Rattle.folders.specs.SetFaults.{IsFormatFault, MayRefuse}
use Rattle.folders.specs.declared.fault.FolderFault.{FolderFault}
use Rattle.folders.specs.declared.fault.FolderFault.TheVariants as folder
use Rattle.folders.specs.declared.host_lock.LockFault.{LockFault}
use Rattle.folders.specs.declared.host_lock.LockFault.TheVariants as lock
use Rattle.dlm_images.specs.Marking.{RecoversAndMarks}
use Rattle.dlm_images.specs.Operations.{HasLooked, HasOperated, Standing}
use Rattle.dlm_images.specs.Tries.{HasTried}
use Rattle.folder_migration.specs.Filling.{StopsFilling}
use Rattle.folder_migration.specs.declared.fill.FillFault.{FillFault}
use Rattle.epoch_host.specs.declared.task.EpochTask.TheVariants.{Recover}
use Rattle.epoch_images.specs.Tries as turns
use Rattle.epoch_images.specs.Working as working
use Rattle.epoch_images.specs.Working.{HasWorked, said_by}
use Rattle.epoch_images.specs.declared.fault.EpochFault.{EpochFault}
use Rattle.epoch_images.specs.declared.fault.EpochFault.TheVariants as epoch
use Rattle.epoch_script.specs.declared.any_script.AnyScript.{AnyScript}
use Rattle.epoch_script.specs.declared.any_script.AnyScript.TheVariants.{Ending, Endless}
use Rattle.epoch_script.specs.declared.any_script.EpochScript.{EpochScript}
use Rattle.epoch_sweep.specs.declared.tally.Sweep.{Sweep}
use Rattle.dlm_tasks.specs.AnySweep.{WritesCounts}
use Rattle.dlm_tasks.specs.Checking.{IsNotOpened}
use Rattle.dlm_tasks.specs.Endless.{HasBegun}
use Rattle.dlm_tasks.specs.Faults.{IfRefused, IsOf, of_epoch, of_filling, of_folder, of_lock, of_refusal}
use Rattle.dlm_tasks.specs.Printed.{Begins, IsFresh}
use Rattle.dlm_tasks.specs.declared.command_failure.CommandFailure.{CommandFailure}
use Rattle.dlm_tasks.specs.declared.fault.Fault.{Fault}
use Rattle.dlm_tasks.specs.declared.fault.Fault.TheVariants.{NoMemory, WrongRun}

-- it is refused for want of memory
abbrev pub IsNoMemory : Fault → Type 0
IsNoMemory fault = fault ≡ NoMemory

-- A task that is refused has printed nothing. Of an output that failed nothing is said.
abbrev pub PrintsNothing : CommandFailure → (before after : Option (List ℕ)) → Type 0
PrintsNothing failure before after = IfRefused failure (λ _. after ≡ before)

-- FOLDERS

-- the folder is not there
abbrev pub IsUnfound : FolderFault → Type 0
IsUnfound cause = (cause ≡ folder.NoMemory) ⊎ (cause ≡ folder.Image 0 Unreadable)

-- so many new images are not made: the folder is not there, or one of them is, or cannot be made
abbrev pub IsNotMade : (disks : ℕ) → Fault → Type 0
IsNotMade disks fault = (cause : FolderFault) × (IsUnfound cause ⊎ IsFormatFault disks cause) × (fault ≡ of_folder cause)

-- images that were opened before are refused when they are opened once more
abbrev pub IsNotReopened : Fault → Type 0
IsNotReopened fault = IsNoMemory fault ⊎ IsOf MayRefuse of_folder fault

-- A host's number is not locked. That it is in use is told only where somebody else has the lock of some file.
abbrev pub IsUnlocked : {F : Type 0} → (held : F → Type 0) → (host : ℕ) → LockFault → Type 0
IsUnlocked {F} held host cause = IsLockFault host cause × (cause ≡ lock.InUse host → (file : F) × held file)

-- a folder's images are not opened, or they are, and a host's number is not locked
abbrev pub IsNotLocked : {F : Type 0} → (held : F → Type 0) → (host : ℕ) → Fault → Type 0
IsNotLocked held host fault = IsNotOpened fault ⊎ IsOf (IsUnlocked held host) of_lock fault

-- A LOG THAT ENDS

-- The command was submitted through a host over some disks, after a look, and refused so. As outrun it is refused only once all tries are used.
pub record RefusesSubmission (tries : ℕ) (command : Command) (fault : Fault) : Type 0 where
  pub begun : Standing FileState
  pub new : Standing FileState
  pub refusal : Refusal
  pub begins : Begins command begun
  pub tried : HasTried FileGives command tries begun new
  pub said : new.core.said ≡ Some (answer.Refused refusal)
  pub outrun : refusal ≡ Outrun → tried.outrun + 1 ≡ tries
  pub told : fault ≡ of_refusal refusal

-- A host over some disks, which looked first, recovered, and that was refused so.
pub record RefusesTable (tries number : ℕ) (fault : Fault) : Type 0 where
  pub old : Standing FileState
  pub looked : Standing FileState
  pub new : Standing FileState
  pub refusal : Refusal
  pub started : IsFresh number old
  pub looks : HasLooked FileGives old looked
  pub recovers : HasOperated FileGives Recovering tries looked new
  pub said : new.core.said ≡ Some (answer.Refused refusal)
  pub told : fault ≡ of_refusal refusal

-- So it was, and then the slots that it had learned before it was refused were marked.
pub record RefusesMarks (tries number : ℕ) (fault : Fault) : Type 0 where
  pub old : Standing FileState
  pub looked : Standing FileState
  pub new : Standing FileState
  pub marked : ℕ
  pub refusal : Refusal
  pub started : IsFresh number old
  pub looks : HasLooked FileGives old looked
  pub marks : RecoversAndMarks FileGives tries marked looked new
  pub said : marks.recovered.core.said ≡ Some (answer.Refused refusal)
  pub told : fault ≡ of_refusal refusal

-- A host of this number that knew nothing looked, and then stopped to fill the log for this cause.
pub record RefusesFilling (number : ℕ) (fault : Fault) : Type 0 where
  pub shape : Shape
  pub old : Standing FileState
  pub looked : Standing FileState
  pub new : Standing FileState
  pub cause : FillFault
  pub started : hosts.LeadsTo shape number fresh old.core
  pub looks : HasLooked FileGives old looked
  pub stops : StopsFilling FileGives looked new cause
  pub told : fault ≡ of_filling cause

-- no memory for a host, or for a picture of its table; or as the images, the submission, the recovery or the filling was refused
abbrev pub IsNotSubmitted : (tries : ℕ) → Command → Fault → Type 0
IsNotSubmitted tries command fault = IsNotReopened fault ⊎ RefusesSubmission tries command fault

abbrev pub IsNotShown : (tries number : ℕ) → Fault → Type 0
IsNotShown tries number fault = IsNoMemory fault ⊎ RefusesTable tries number fault

abbrev pub IsNotMarked : (tries number : ℕ) → Fault → Type 0
IsNotMarked tries number fault = IsNoMemory fault ⊎ RefusesMarks tries number fault

abbrev pub IsNotFilled : (number : ℕ) → Fault → Type 0
IsNotFilled number fault = IsNoMemory fault ⊎ RefusesFilling number fault

-- A LOG WITHOUT AN END

-- The command was submitted through a host over some disks, after a look, and ended so. As outrun it is refused only once all tries are used.
pub record RefusesEndlessSubmission (tries : ℕ) (command : Command) (fault : Fault) : Type 0 where
  pub looked : working.Standing FileState
  pub new : working.Standing FileState
  pub cause : EpochFault
  pub begun : HasBegun command.host looked
  pub tried : turns.HasTried FileGives command tries (said_by cause) looked new
  pub outrun : cause ≡ epoch.Refused Outrun → tried.outrun + 1 ≡ tries
  pub told : fault ≡ of_epoch cause

-- A host over some disks, which looked first, recovered, and that ended so. Nothing is marked then.
pub record RefusesEndlessRecovery (tries number : ℕ) (fault : Fault) : Type 0 where
  pub looked : working.Standing FileState
  pub new : working.Standing FileState
  pub cause : EpochFault
  pub begun : HasBegun number looked
  pub recovers : HasWorked FileGives (Recover tries) (said_by cause) looked new
  pub told : fault ≡ of_epoch cause

-- no memory for a picture of the table; or as the recovery ended
abbrev pub IsEndlessNotShown : (tries number : ℕ) → Fault → Type 0
IsEndlessNotShown tries number fault = IsNoMemory fault ⊎ RefusesEndlessRecovery tries number fault

-- OF EITHER KIND

abbrev pub MayNotSubmit : {F : Type 0} → (held : F → Type 0) → (tries : ℕ) → Command → Fault → Type 0
MayNotSubmit held tries command fault =
    IsNotLocked held command.host fault ⊎ IsNotSubmitted tries command fault ⊎ RefusesEndlessSubmission tries command fault

abbrev pub MayNotShow : {F : Type 0} → (held : F → Type 0) → (tries number : ℕ) → Fault → Type 0
MayNotShow held tries number fault = IsNotLocked held number fault ⊎ IsNotShown tries number fault ⊎ IsEndlessNotShown tries number fault

abbrev pub MayNotMark : {F : Type 0} → (held : F → Type 0) → (tries number : ℕ) → Fault → Type 0
MayNotMark held tries number fault = IsNotLocked held number fault ⊎ IsNotMarked tries number fault ⊎ RefusesEndlessRecovery tries number fault

abbrev pub MayNotFill : {F : Type 0} → (held : F → Type 0) → (number : ℕ) → Fault → Type 0
MayNotFill held number fault = IsNotLocked held number fault ⊎ IsNotFilled number fault

-- SWEEPS

-- There was no memory, and nothing was printed.
abbrev pub IsUntold : Fault → (before after : Option (List ℕ)) → Type 0
IsUntold fault before after = IsNoMemory fault × (after ≡ before)

-- Each variant was run, and counted by how it ended, and the counts were written. The number of the first wrong one is the refusal.
pub record FindsWrong (script : EpochScript) (fault : Fault) (before after : Option (List ℕ)) : Type 0 where
  pub swept : Sweep
  pub run : ℕ
  pub counts : WritesCounts script swept before after
  pub first : swept.first ≡ Some run
  pub told : fault ≡ WrongRun run

-- of a log without an end: no memory; or one is wrong
abbrev pub IsNotRight : EpochScript → Fault → (before after : Option (List ℕ)) → Type 0
IsNotRight script fault before after = IsUntold fault before after ⊎ FindsWrong script fault before after

-- of either kind; no variant is wrong over a log that ends
abbrev pub IsNotSwept : AnyScript → Fault → (before after : Option (List ℕ)) → Type 0
IsNotSwept (Ending script) fault before after = IsUntold fault before after
IsNotSwept (Endless script) fault before after = IsNotRight script fault before after
