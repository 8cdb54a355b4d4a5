-- What a renewal of a folder came to, and why one may be refused.
use Rattle.std.specs.Prelude.{◌≡◌, ◌⊎◌, ℕ, List, length, Some}
use Rattle.disk.specs.FileStates.{FileState, FileGives}
use Rattle.disk.specs.declared.fault.DiskFault.{DiskFault}
use Rattle.paxos_block.specs.Shape.{Shape}
use Rattle.host.specs.Host.{Recovering, fresh}
use Rattle.host.specs.Kept as hosts
use Rattle.host.specs.declared.answer.HostAnswer.TheVariants as answer
use Rattle.migration.specs.declared.end.End.TheVariants as end
use Rattle.folders.specs.Folders.{IsLockFault, IsOpened}
use Rattle.dlm_images.specs.Operations.{HasOperated, Standing}
use Rattle.folders.specs.SetFaults.{IsFormatFault, MayRefuse}
use Rattle.folders.specs.Sets.{Found}
use Rattle.folders.specs.declared.fault.FolderFault.TheVariants as folder
use Rattle.folders.specs.declared.host_lock.LockFault.TheVariants as lock
use Rattle.folder_migration.specs.Gates.{AreFinishedFrom, AreStoppedFrom, HaveNothingLeft}
use Rattle.folder_migration.specs.Migrating.{AreBlank, file_device}
use Rattle.folder_migration.specs.Renewing.{Carries, HasLocksOf, HasTooFewSlots, MayCarry}
use Rattle.folder_migration.specs.declared.old_log.TheConstants.{TRIES}
use Rattle.folder_migration.specs.declared.renew.Renewed.{Renewed}
use Rattle.folder_migration.specs.declared.renew.Renewed.TheVariants.{Renewed as WasRenewed, Finished}
use Rattle.folder_migration.specs.declared.renew_fault.NewFault.{NewFault}
use Rattle.folder_migration.specs.declared.renew_fault.NewFault.TheVariants as new
use Rattle.folder_migration.specs.declared.renew_fault.RenewFault.{RenewFault}
use Rattle.folder_migration.specs.declared.renew_fault.RenewFault.TheVariants.{NoMemory, Old, SameCluster, Lock, Refused, NotFull, HasLocks, TooFewSlots, New, RenewalFailed}

-- THE OLD FOLDER

-- The images of a folder were opened. They are of another cluster than this one.
pub record IsOther (cluster : ℕ) (config : Shape) (disks : List FileState) : Type 0 where
  pub found : Found
  pub number : ℕ
  pub opened : IsOpened found config number disks
  pub other : ¬ (number ≡ cluster)

-- A host of this number over these images, which knew nothing, recovered, however that ended.
pub record Recovers (host cluster : ℕ) (config : Shape) (old new : Standing FileState) : Type 0 where
  pub is_other : IsOther cluster config old.disks
  pub knew_nothing : hosts.LeadsTo config host fresh old.core
  pub recovers : HasOperated FileGives Recovering TRIES old new

-- NEW IMAGES

-- No run was ended between two of their gates.
pub record NothingIsLeft (config : Shape) (cluster : ℕ) : Type 0 where
  pub found : List FileState
  pub looked : List FileState
  pub as_many : length found ≡ config.disks
  pub nothing : HaveNothingLeft FileGives file_device config cluster found looked

-- One was, and each of them was left open.
pub record AreLeftFinished (config : Shape) (cluster : ℕ) : Type 0 where
  pub found : List FileState
  pub now : List FileState
  pub as_many : length found ≡ config.disks
  pub finished : AreFinishedFrom FileGives file_device config cluster found now

-- One was, and of another one a call failed that was to make sure of its gate.
pub record AreLeftUnfinished (config : Shape) (cluster : ℕ) : Type 0 where
  pub found : List FileState
  pub now : List FileState
  pub fault : DiskFault
  pub as_many : length found ≡ config.disks
  pub stopped : AreStoppedFrom FileGives file_device config cluster found fault now

-- HOW IT ENDS

-- A host recovered as many commands as the old log has slots, so the old log was full. What carries over the table after them, but for these clients, was
-- written onto images that were made, to the end.
pub record HasRenewed (host : ℕ) (config : Shape) (cluster : ℕ) (leave : List ℕ) (commands disks : ℕ) : Type 0 where
  pub old_config : Shape
  pub old : Standing FileState
  pub left : Standing FileState
  pub recovers : Recovers host cluster old_config old left
  pub full : length left.core.prefix ≡ old_config.slots
  pub carries : Carries FileGives (AreBlank config) config cluster leave left.core.prefix commands end.Migrated
  pub disks_is : disks ≡ config.disks

-- An earlier renewal onto the new images was finished.
pub record HasFinishedRenewal (config : Shape) (cluster disks : ℕ) : Type 0 where
  pub old_config : Shape
  pub old : List FileState
  pub is_other : IsOther cluster old_config old
  pub finished : AreLeftFinished config cluster
  pub disks_is : disks ≡ config.disks

abbrev pub CameToRenew : (host : ℕ) → Shape → (cluster : ℕ) → (leave : List ℕ) → Renewed → Type 0
CameToRenew host config cluster leave (WasRenewed commands disks) = HasRenewed host config cluster leave commands disks
CameToRenew host config cluster leave (Finished disks) = HasFinishedRenewal config cluster disks

-- WHY IT IS REFUSED

-- of so many new images one is there, or cannot be made, or somebody works as host 0 there
abbrev pub IsNewFault : ℕ → NewFault → Type 0
IsNewFault disks (new.Folder fault) = IsFormatFault disks fault
IsNewFault disks (new.Lock fault) = IsLockFault 0 fault

-- the new folder is not there, so that nobody can be locked out of it, or no memory
abbrev pub IsUnfound : NewFault → Type 0
IsUnfound (new.Folder fault) = fault ≡ folder.NoMemory
IsUnfound (new.Lock fault) = fault ≡ lock.NoLock 0

-- what stops it once a host has recovered a log of so many slots
abbrev pub EndsOver : (slots : ℕ) → Shape → (cluster : ℕ) → (leave : List ℕ) → Standing FileState → RenewFault → Type 0
EndsOver slots config cluster leave host NoMemory = Unit {0}
EndsOver slots config cluster leave host (Refused refusal) = host.core.said ≡ Some (answer.Refused refusal)
EndsOver slots config cluster leave host NotFull = (host.core.said ≡ Some (answer.Recovered (length host.core.prefix))) × ¬ (length host.core.prefix ≡ slots)
EndsOver slots config cluster leave host (HasLocks client) = (length host.core.prefix ≡ slots) × HasLocksOf leave host.core.prefix client
EndsOver slots config cluster leave host TooFewSlots = (length host.core.prefix ≡ slots) × HasTooFewSlots config.slots leave host.core.prefix
EndsOver slots config cluster leave host (New fault) = (length host.core.prefix ≡ slots) × MayCarry config.slots leave host.core.prefix × IsNewFault config.disks fault
EndsOver slots config cluster leave host RenewalFailed =
    (length host.core.prefix ≡ slots) × (commands : ℕ) × Carries FileGives (AreBlank config) config cluster leave host.core.prefix commands end.MigrationFailed
EndsOver slots config cluster leave host (Old fault) = ⊥
EndsOver slots config cluster leave host SameCluster = ⊥
EndsOver slots config cluster leave host (Lock fault) = ⊥

-- once a host had recovered from the old images it was stopped so
pub record StopsOver (host : ℕ) (config : Shape) (cluster : ℕ) (leave : List ℕ) (fault : RenewFault) : Type 0 where
  pub old_config : Shape
  pub old : Standing FileState
  pub left : Standing FileState
  pub recovers : Recovers host cluster old_config old left
  pub ends : EndsOver old_config.slots config cluster leave left fault

-- the old images are of the same cluster
pub record IsSame (cluster : ℕ) : Type 0 where
  pub found : Found
  pub config : Shape
  pub disks : List FileState
  pub opened : IsOpened found config cluster disks

-- no new images are made: the new folder is not there; or else only once a host had recovered a full log that may be carried over
abbrev pub IsNotMade : (host : ℕ) → Shape → (cluster : ℕ) → (leave : List ℕ) → NewFault → Type 0
IsNotMade host config cluster leave fault = IsUnfound fault ⊎ StopsOver host config cluster leave (New fault)

abbrev pub MayNotRenew : (host : ℕ) → Shape → (cluster : ℕ) → (leave : List ℕ) → RenewFault → Type 0
MayNotRenew host config cluster leave NoMemory = Unit {0}
MayNotRenew host config cluster leave (Old fault) = MayRefuse fault
MayNotRenew host config cluster leave SameCluster = IsSame cluster
MayNotRenew host config cluster leave (Lock fault) = IsLockFault host fault
MayNotRenew host config cluster leave (New fault) = IsNotMade host config cluster leave fault
MayNotRenew host config cluster leave (Refused refusal) = StopsOver host config cluster leave (Refused refusal)
MayNotRenew host config cluster leave NotFull = StopsOver host config cluster leave NotFull
MayNotRenew host config cluster leave (HasLocks client) = StopsOver host config cluster leave (HasLocks client)
MayNotRenew host config cluster leave TooFewSlots = StopsOver host config cluster leave TooFewSlots
MayNotRenew host config cluster leave RenewalFailed = StopsOver host config cluster leave RenewalFailed ⊎ AreLeftUnfinished config cluster
