-- Which fault a task makes of a refusal of its parts.
use Rattle.std.specs.Prelude.{◌≡◌}
use Rattle.lock_script.specs.declared.script.ScriptFault.{ScriptFault}
use Rattle.lock_script.specs.declared.script.ScriptFault.TheVariants as script
use Rattle.attempt.specs.declared.refusal.Refusal.{Refusal}
use Rattle.attempt.specs.declared.refusal.Refusal.TheVariants as refusal
use Rattle.epoch_images.specs.declared.fault.EpochFault.{EpochFault}
use Rattle.epoch_images.specs.declared.fault.EpochFault.TheVariants as epoch
use Rattle.folders.specs.declared.fault.FolderFault.{FolderFault}
use Rattle.folders.specs.declared.fault.FolderFault.TheVariants as folder
use Rattle.folders.specs.declared.check.Finding.{Finding}
use Rattle.folders.specs.declared.check.Finding.TheVariants as found
use Rattle.folders.specs.declared.host_lock.LockFault.{LockFault}
use Rattle.folders.specs.declared.host_lock.LockFault.TheVariants as lock
use Rattle.in_place.specs.declared.in_place_fault.InPlaceFault.{InPlaceFault}
use Rattle.in_place.specs.declared.in_place_fault.InPlaceFault.TheVariants as in_place
use Rattle.in_place.specs.declared.replace_fault.ReplaceFault.{ReplaceFault}
use Rattle.in_place.specs.declared.replace_fault.ReplaceFault.TheVariants as replace
use Rattle.folder_migration.specs.declared.fault.MoveFault.{MoveFault}
use Rattle.folder_migration.specs.declared.fault.MoveFault.TheVariants as move
use Rattle.folder_migration.specs.declared.fill.FillFault.{FillFault}
use Rattle.folder_migration.specs.declared.fill.FillFault.TheVariants as fill
use Rattle.folder_migration.specs.declared.renew_fault.NewFault.{NewFault}
use Rattle.folder_migration.specs.declared.renew_fault.NewFault.TheVariants as new
use Rattle.folder_migration.specs.declared.renew_fault.RenewFault.{RenewFault}
use Rattle.folder_migration.specs.declared.renew_fault.RenewFault.TheVariants as renew
use Rattle.epoch_player.specs.declared.failure.PlayFailure.{PlayFailure}
use Rattle.epoch_player.specs.declared.failure.PlayFailure.TheVariants as play
use Rattle.dlm_tasks.specs.declared.command_failure.CommandFailure.{CommandFailure}
use Rattle.dlm_tasks.specs.declared.command_failure.CommandFailure.TheVariants.{Output, Refused}
use Rattle.dlm_tasks.specs.declared.fault.Fault.{Fault}
use Rattle.dlm_tasks.specs.declared.fault.Fault.TheVariants.{Damaged, Operation, Image, NoMemory, BadLine, Unreadable, AlreadyThere, TooFewSlots, MigrationFailed, HostInUse, NoLock, NotFull, SameCluster, NoClient, RenewedElsewhere, HasLocks}

-- an operation of a host was refused
abbrev pub of_refusal : Refusal → Fault
of_refusal refusal = Operation (record { 0 = refusal })

-- an operation of a host of all epochs was refused
abbrev pub of_epoch : EpochFault → Fault
of_epoch epoch.NoMemory = NoMemory
of_epoch (epoch.Refused refusal) = of_refusal refusal

abbrev pub of_script : ScriptFault → Fault
of_script script.NoMemory = NoMemory
of_script (script.BadLine line) = BadLine line

abbrev pub of_folder : FolderFault → Fault
of_folder folder.NoMemory = NoMemory
of_folder folder.AlreadyThere = AlreadyThere
of_folder (folder.Image disk fault) = Image disk fault

-- what a check of the images found
abbrev pub of_finding : Finding → Fault
of_finding (found.Image disk fault) = Image disk fault
of_finding found.Damaged = Damaged

-- a host's number could not be locked
abbrev pub of_lock : LockFault → Fault
of_lock lock.NoMemory = NoMemory
of_lock (lock.InUse number) = HostInUse number
of_lock (lock.NoLock number) = NoLock number

-- a log was not moved
abbrev pub of_move : MoveFault → Fault
of_move move.NoMemory = NoMemory
of_move (move.Folder fault) = of_folder fault
of_move move.TooFewSlots = TooFewSlots
of_move (move.Lock fault) = of_lock fault
of_move (move.Refused refusal) = of_refusal refusal
of_move move.MigrationFailed = MigrationFailed

-- a log was not made one without an end
abbrev pub of_in_place : InPlaceFault → Fault
of_in_place (in_place.Folder fault) = of_folder fault
of_in_place (in_place.Lock fault) = of_lock fault
of_in_place in_place.TooFewSlots = TooFewSlots
of_in_place in_place.Renewed = RenewedElsewhere

-- a lost image was not replaced
abbrev pub of_replacing : ReplaceFault → Fault
of_replacing (replace.Folder fault) = of_folder fault
of_replacing (replace.Lock fault) = of_lock fault
of_replacing replace.NoMajority = of_refusal refusal.NoMajority

-- a log was not filled
abbrev pub of_filling : FillFault → Fault
of_filling fill.NoMemory = NoMemory
of_filling fill.NoClient = NoClient
of_filling (fill.Refused refusal) = of_refusal refusal

-- the new images of a renewal are not made
abbrev pub of_new : NewFault → Fault
of_new (new.Folder fault) = of_folder fault
of_new (new.Lock fault) = of_lock fault

-- a cluster was not renewed
abbrev pub of_renewal : RenewFault → Fault
of_renewal renew.NoMemory = NoMemory
of_renewal (renew.Old fault) = of_folder fault
of_renewal renew.SameCluster = SameCluster
of_renewal (renew.Lock fault) = of_lock fault
of_renewal (renew.Refused refusal) = of_refusal refusal
of_renewal renew.NotFull = NotFull
of_renewal (renew.HasLocks client) = HasLocks client
of_renewal renew.TooFewSlots = TooFewSlots
of_renewal (renew.New fault) = of_new fault
of_renewal renew.RenewalFailed = MigrationFailed

-- This is so of the fault of a task that is refused. Of an output that failed nothing is said.
abbrev pub IfRefused : CommandFailure → (Fault → Type 0) → Type 0
IfRefused (Refused fault) P = P fault
IfRefused (Output error) P = Unit {0}

-- a part may refuse so, and the fault is that refusal's
abbrev pub IsOf : {Cause : Type 0} → (Cause → Type 0) → (Cause → Fault) → Fault → Type 0
IsOf {Cause} May told fault = (cause : Cause) × May cause × (fault ≡ told cause)

-- a script over a log without an end was not run to its end
abbrev pub of_play : PlayFailure → CommandFailure
of_play play.NoMemory = Refused NoMemory
of_play (play.Output error) = Output error
