-- What a migration from one folder to another came to, and why one may be refused.
use Rattle.std.specs.Prelude.{◌≡◌, ◌⊎◌, ◌≤◌, ◌<◌, ℕ, false, List, length, slice_get, Some}
use Rattle.torn_block.specs.Layout.{cluster_version}
use Rattle.torn_block.specs.declared.layout.TheConstants.{DISKS}
use Rattle.disk.specs.Disk.{Device}
use Rattle.disk.specs.declared.fault.DiskFault.{DiskFault}
use Rattle.disk.specs.declared.fault.ImageFault.TheVariants.{Unreadable}
use Rattle.disk.specs.FileStates.{FileState, FileGives}
use Rattle.paxos_block.specs.Places.{image_length}
use Rattle.paxos_block.specs.Shape.{Shape}
use Rattle.slot_log.specs.declared.outcome.LogOutcome.TheVariants.{Refused as Ended}
use Rattle.attempt.specs.declared.refusal.Refusal.{Refusal}
use Rattle.migration.specs.declared.end.End.{End}
use Rattle.migration.specs.declared.end.End.TheVariants as end
use Rattle.folders.specs.Folders.{IsLockFault, IsOpened}
use Rattle.folders.specs.SetFaults.{MayRefuse}
use Rattle.folders.specs.Sets.{Found}
use Rattle.folders.specs.declared.fault.FolderFault.{FolderFault}
use Rattle.folders.specs.declared.fault.FolderFault.TheVariants as folder
use Rattle.folder_migration.specs.Gates.{IsCleared, HasOpenGate, HaveNoOpenGate, AreLeftOpen, IsStopped}
use Rattle.folder_migration.specs.Recovery.{HasRecovered}
use Rattle.folder_migration.specs.Writing.{Writes}
use Rattle.folder_migration.specs.declared.fault.MoveFault.{MoveFault}
use Rattle.folder_migration.specs.declared.fault.MoveFault.TheVariants.{NoMemory, Folder, TooFewSlots, Lock, Refused, MigrationFailed}
use Rattle.folder_migration.specs.declared.migrate.Moved.{Moved}
use Rattle.folder_migration.specs.declared.migrate.Moved.TheVariants.{Moved as WasMoved, Finished}

-- the same disks, with so many slots
abbrev pub with_slots : Shape → ℕ → Shape
with_slots config slots = record { disks = config.disks; slots = slots }

-- THE OLD FOLDER

-- an old folder was opened, of no more slots
pub record IsReady (slots : ℕ) (config : Shape) (cluster : ℕ) (disks : List FileState) : Type 0 where
  pub found : Found
  pub opened : IsOpened found config cluster disks
  pub room : config.slots ≤ slots

-- it has more slots
pub record IsTooSmall (slots : ℕ) : Type 0 where
  pub config : Shape
  pub cluster : ℕ
  pub found : Found
  pub disks : List FileState
  pub opened : IsOpened found config cluster disks
  pub more : slots < config.slots

-- NEW IMAGES

-- what is known of a file as a device
abbrev pub file_device : FileState → Device
file_device file = record { tells = false; size = file.size; boot = 1; gone = false }

-- None of the new images had an open gate.
pub record AreNotBegun (config : Shape) (cluster : ℕ) : Type 0 where
  pub found : List FileState
  pub looked : List FileState
  pub as_many : length found ≡ config.disks
  pub none : HaveNoOpenGate FileGives file_device config cluster config.disks found looked

-- One of the new images had an open gate, and each of them was left open.
pub record AreFinished (config : Shape) (cluster : ℕ) : Type 0 where
  pub found : List FileState
  pub looked : List FileState
  pub left : List FileState
  pub as_many : length found ≡ config.disks
  pub begun : HasOpenGate FileGives file_device config cluster found looked
  pub left_open : AreLeftOpen FileGives file_device config cluster config.disks looked left

-- One had, and of another one a call failed that was to open its gate.
pub record AreNotFinished (config : Shape) (cluster : ℕ) : Type 0 where
  pub found : List FileState
  pub looked : List FileState
  pub left : List FileState
  pub fault : DiskFault
  pub as_many : length found ≡ config.disks
  pub begun : HasOpenGate FileGives file_device config cluster found looked
  pub stopped : IsStopped FileGives file_device config cluster looked fault left

-- a device was made zeros, and has room for an image
pub record IsBlank (size : ℕ) (image : FileState) : Type 0 where
  pub made : FileState
  pub room : size ≤ image.size
  pub cleared : IsCleared FileGives size made image

-- so was each of them
pub record AreBlank (config : Shape) (images : List FileState) : Type 0 where
  pub as_many : length images ≡ config.disks
  pub each : (k : ℕ) (image : FileState) → slice_get images k ≡ Some image → IsBlank (image_length cluster_version config.slots) image

-- HOW IT ENDS

-- No new image was open. The log of the old disks was recovered, images were made, and what stands for its commands was written there, up to this end.
pub record HasWritten (slots commands disks : ℕ) (end : End) : Type 0 where
  pub config : Shape
  pub cluster : ℕ
  pub old : List FileState
  pub left : List FileState
  pub ready : IsReady slots config cluster old
  pub not_begun : AreNotBegun (with_slots config slots) cluster
  pub writes : Writes FileGives FileGives (AreBlank (with_slots config slots)) config (with_slots config slots) cluster old left commands end
  pub disks_is : disks ≡ config.disks

-- An earlier migration onto the new images was finished.
pub record HasFinished (slots disks : ℕ) : Type 0 where
  pub config : Shape
  pub cluster : ℕ
  pub old : List FileState
  pub ready : IsReady slots config cluster old
  pub finished : AreFinished (with_slots config slots) cluster
  pub disks_is : disks ≡ config.disks

abbrev pub CameTo : ℕ → Moved → Type 0
CameTo slots (WasMoved commands disks) = HasWritten slots commands disks end.Migrated
CameTo slots (Finished disks) = HasFinished slots disks

-- WHY IT IS REFUSED

-- the recovery of the old log ended so
pub record HasRefused (slots : ℕ) (refusal : Refusal) : Type 0 where
  pub config : Shape
  pub cluster : ℕ
  pub old : List FileState
  pub left : List FileState
  pub learned : List (List ℕ)
  pub ready : IsReady slots config cluster old
  pub recovers : HasRecovered FileGives config old left learned (Ended refusal)

-- a call of the migration failed
pub record HasFailed (slots : ℕ) : Type 0 where
  pub commands : ℕ
  pub disks : ℕ
  pub written : HasWritten slots commands disks end.MigrationFailed

-- or one that was to finish an earlier one
pub record HasNotFinished (slots : ℕ) : Type 0 where
  pub config : Shape
  pub cluster : ℕ
  pub old : List FileState
  pub ready : IsReady slots config cluster old
  pub not_finished : AreNotFinished (with_slots config slots) cluster

-- the old images are no set, or a new one is there, or one of them cannot be made
abbrev pub IsFolderFault : FolderFault → Type 0
IsFolderFault folder.NoMemory = Unit {0}
IsFolderFault folder.AlreadyThere = Unit {0}
IsFolderFault (folder.Image disk fault) = MayRefuse (folder.Image disk fault) ⊎ ((disk < DISKS) × (fault ≡ Unreadable))

abbrev pub MayFail : ℕ → MoveFault → Type 0
MayFail slots NoMemory = Unit {0}
MayFail slots (Folder fault) = IsFolderFault fault
MayFail slots TooFewSlots = IsTooSmall slots
MayFail slots (Lock fault) = IsLockFault 0 fault
MayFail slots (Refused refusal) = HasRefused slots refusal
MayFail slots MigrationFailed = HasFailed slots ⊎ HasNotFinished slots
