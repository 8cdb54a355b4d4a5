-- What a check of a folder found first, and why it is refused.
use Rattle.std.specs.Prelude.{◌≡◌, ◌⊎◌, ℕ, List, Option, Some}
use Rattle.std.specs.Io.KnownBytes.{Appends}
use Rattle.disk.specs.FileStates.{FileState, FileGives}
use Rattle.paxos_block.specs.Shape.{Shape}
use Rattle.folders.specs.Damage.{FailsIfUnread, IsToldOfFolder}
use Rattle.folders.specs.Folders.{IsOpened}
use Rattle.folders.specs.Reading.{AreReadIfSound}
use Rattle.folders.specs.SetFaults.{MayRefuse}
use Rattle.folders.specs.Sets.{Found}
use Rattle.folders.specs.declared.check.Finding.{Finding}
use Rattle.folders.specs.declared.fault.FolderFault.{FolderFault}
use Rattle.log_folders.specs.AnySets.{AnyFound}
use Rattle.log_folders.specs.EndlessChecks as endless
use Rattle.log_folders.specs.EndlessFolders.{IsEndlessOpened}
use Rattle.log_folders.specs.EndlessReading as endless_reads
use Rattle.log_folders.specs.LogFolders.{MayRefuseLog}
use Rattle.dlm_tasks.specs.Faults.{of_finding, of_folder}
use Rattle.dlm_tasks.specs.declared.fault.Fault.{Fault}

-- Images of a log that ends were opened and read. This was found first: why one is refused, that one could not be read to its end, or that a block is damaged. Or nothing was:
-- then each has a right header of its set, and was read to its end.
pub record IsFoundOfEnding (finding : Option Finding) : Type 0 where
  pub found : Found
  pub config : Shape
  pub cluster : ℕ
  pub old : List FileState
  pub new : List FileState
  pub opened : IsOpened found config cluster old
  pub told : IsToldOfFolder found config.disks finding
  pub unread : FailsIfUnread FileGives config.slots found old new finding
  pub read : AreReadIfSound FileGives config.slots old new config.disks finding

-- So it is with images of a log without an end.
pub record IsFoundOfEndless (finding : Option Finding) : Type 0 where
  pub found : AnyFound
  pub config : Shape
  pub cluster : ℕ
  pub old : List FileState
  pub new : List FileState
  pub opened : IsEndlessOpened found config cluster old
  pub told : endless.IsToldOfFolder found config.disks finding
  pub unread : endless.FailsIfUnread FileGives config.slots found old new finding
  pub read : endless_reads.AreReadIfSound FileGives config.slots old new config.disks finding

-- A check of images of either kind found this first, or nothing.
abbrev pub IsFound : Option Finding → Type 0
IsFound finding = IsFoundOfEnding finding ⊎ IsFoundOfEndless finding

-- this is the refusal where that was found first
abbrev pub IsFoundFault : Fault → Type 0
IsFoundFault fault = (first : Finding) × IsFound (Some first) × (fault ≡ of_finding first)

-- a folder is not there, or its images are no set
abbrev pub IsNotOpened : Fault → Type 0
IsNotOpened fault = (cause : FolderFault) × (MayRefuse cause ⊎ MayRefuseLog cause) × (fault ≡ of_folder cause)

-- what was written ends so
abbrev pub EndsIn : List ℕ → Option (List ℕ) → Type 0
EndsIn text after = (before : Option (List ℕ)) × Appends before after text
