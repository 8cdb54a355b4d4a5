-- What a migration from old disks to new ones came to, and why one stops.
use Rattle.std.specs.Prelude.{◌≡◌, ℕ, List, length}
use Rattle.disk.specs.Disk.{Call, Answer}
use Rattle.paxos_block.specs.Shape.{Shape}
use Rattle.slot_log.specs.declared.outcome.LogOutcome.TheVariants.{Refused as Ended}
use Rattle.migration.specs.Kept.{setup_by}
use Rattle.migration.specs.declared.end.End.{End}
use Rattle.migration.specs.declared.end.End.TheVariants as end
use Rattle.folders.specs.declared.fault.FolderFault.{FolderFault}
use Rattle.folder_migration.specs.Moving.{HasMoved}
use Rattle.folder_migration.specs.Recovery.{HasRecovered, RecoversTo}
use Rattle.folder_migration.specs.declared.fault.MoveFault.{MoveFault}
use Rattle.folder_migration.specs.declared.fault.MoveFault.TheVariants.{NoMemory, Folder, TooFewSlots, Lock, Refused, MigrationFailed}

-- The log of the old disks was recovered, new ones were made, and what stands for the log's commands was written there, up to this end.
pub record Writes {D E : Type 0} (old_gives : D → Call → Answer → D → Type 0) (new_gives : E → Call → Answer → E → Type 0) (makes : List E → Type 0) (config wide : Shape) (cluster : ℕ) (old left : List D) (commands : ℕ) (end : End) : Type 0 where
  pub log : List (List ℕ)
  pub blank : List E
  pub new : List E
  pub recovers : RecoversTo old_gives config old left log
  pub made : makes blank
  pub moves : HasMoved new_gives (setup_by wide cluster log) blank new end
  pub commands_is : commands ≡ length log

-- why it stops: no memory; the recovery is refused; no disks are made once the log is recovered; a call on those fails
abbrev pub StopsFor : {D E : Type 0} → (D → Call → Answer → D → Type 0) → (E → Call → Answer → E → Type 0) → (makes : List E → Type 0) → (fails : FolderFault → Type 0) → (config wide : Shape) → (cluster : ℕ) → (old left : List D) → MoveFault → Type 0
StopsFor old_gives new_gives makes fails config wide cluster old left NoMemory = Unit {0}
StopsFor old_gives new_gives makes fails config wide cluster old left (Refused refusal) = (learned : List (List ℕ)) × HasRecovered old_gives config old left learned (Ended refusal)
StopsFor old_gives new_gives makes fails config wide cluster old left (Folder fault) = (log : List (List ℕ)) × RecoversTo old_gives config old left log × fails fault
StopsFor old_gives new_gives makes fails config wide cluster old left MigrationFailed = (commands : ℕ) × Writes old_gives new_gives makes config wide cluster old left commands end.MigrationFailed
StopsFor old_gives new_gives makes fails config wide cluster old left TooFewSlots = ⊥
StopsFor old_gives new_gives makes fails config wide cluster old left (Lock fault) = ⊥
