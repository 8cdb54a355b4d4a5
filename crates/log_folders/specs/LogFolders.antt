-- A folder of either kind of log once it is open, and why it is refused.
use Rattle.std.specs.Prelude.{◌⊎◌}
use Rattle.folders.specs.Folders.{IsOpened}
use Rattle.folders.specs.SetFaults.{MayRefuse}
use Rattle.folders.specs.declared.fault.FolderFault.{FolderFault}
use Rattle.log_folders.specs.EndlessFolders.{FindsEnding, IsEndlessOpened, MayRefuseAny}
use Rattle.log_folders.specs.declared.log_folder.LogFolder.{LogFolder}
use Rattle.log_folders.specs.declared.log_folder.LogFolder.TheVariants.{Ending, Endless}

-- It is opened as what its images are: as one of a log that ends, or of one without an end.
abbrev pub IsLogOpened : {F : Type 0} → LogFolder F → Type 0
IsLogOpened (Ending folder) = FindsEnding × IsOpened folder.found folder.config folder.cluster folder.disks.items
IsLogOpened (Endless folder) = IsEndlessOpened folder.found folder.config folder.cluster folder.disks.items

-- Its images are no set; or they are one of a log that ends, and those were refused when they were opened again.
abbrev pub MayRefuseLog : FolderFault → Type 0
MayRefuseLog fault = MayRefuseAny fault ⊎ (FindsEnding × MayRefuse fault)
