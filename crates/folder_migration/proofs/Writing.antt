-- A log that was written onto new images, by what a migration from disks to disks came to.
use Rattle.std.proofs.Common.{◌≡◌, ◌≤◌, ◌<◌, ℕ, List, length, arith, refl, ◌∙◌, ap, subst, inl, inr}
use Rattle.torn_block.specs.declared.layout.TheConstants.{DISKS}
use Rattle.disk.specs.Disk.{Call, Answer}
use Rattle.disk.specs.FileStates.{FileState, FileGives}
use Rattle.paxos_block.specs.Shape.{Shape}
use Rattle.slot_log.specs.declared.outcome.LogOutcome.TheVariants.{Refused as Ended}
use Rattle.migration.specs.Kept.{setup_by}
use Rattle.migration.specs.declared.end.End.{End}
use Rattle.migration.specs.declared.end.End.TheVariants as end
use Rattle.folders.specs.Folders.{IsOpened}
use Rattle.folders.specs.SetFaults.{IsFormatFault}
use Rattle.folders.specs.Sets.{Found}
use Rattle.folders.specs.declared.fault.FolderFault.{FolderFault}
use Rattle.folders.specs.declared.fault.FolderFault.TheVariants as folder
use Rattle.folder_migration.specs.Migrating.{AreBlank, AreNotBegun, HasWritten, IsFolderFault, MayFail, with_slots}
use Rattle.folder_migration.specs.Moving.{HasMoved}
use Rattle.folder_migration.specs.Recovery.{HasRecovered, RecoversTo}
use Rattle.folder_migration.specs.Writing.{Writes, StopsFor}
use Rattle.folder_migration.specs.declared.fault.MoveFault.{MoveFault}
use Rattle.folder_migration.specs.declared.fault.MoveFault.TheVariants.{NoMemory, Folder, TooFewSlots, Lock, Refused, MigrationFailed}

-- a log that was recovered is written onto the disks that were made
pub writes : {D E : Type 0} (old_gives : D → Call → Answer → D → Type 0) (new_gives : E → Call → Answer → E → Type 0) (makes : List E → Type 0) (config wide : Shape) (cluster : ℕ) (old left : List D) (log : List (List ℕ)) (blank images new : List E) (commands : ℕ) (end : End)
    → RecoversTo old_gives config old left log → makes blank → images ≡ blank → HasMoved new_gives (setup_by wide cluster log) images new end → commands ≡ length log → Writes old_gives new_gives makes config wide cluster old left commands end
writes {D} {E} old_gives new_gives makes config wide cluster old left log blank images new commands end recovers made same moves count = record {
  log = log;
  blank = blank;
  new = new;
  recovers = recovers;
  made = made;
  moves = subst (λ (l : List E). HasMoved new_gives (setup_by wide cluster log) l new end) same moves;
  commands_is = count;
}

-- disks that were made so were made so, too
pub made_as : {D E : Type 0} (old_gives : D → Call → Answer → D → Type 0) (new_gives : E → Call → Answer → E → Type 0) (makes other : List E → Type 0) (config wide : Shape) (cluster : ℕ) (old left : List D) (commands : ℕ) (end : End)
    → ((images : List E) → makes images → other images) → Writes old_gives new_gives makes config wide cluster old left commands end → Writes old_gives new_gives other config wide cluster old left commands end
made_as old_gives new_gives makes other config wide cluster old left commands end as_other w =
    record { log = w.log; blank = w.blank; new = w.new; recovers = w.recovers; made = as_other w.blank w.made; moves = w.moves; commands_is = w.commands_is }

pub written : (slots : ℕ) (config wide : Shape) (cluster : ℕ) (old used left : List FileState) (commands disks : ℕ) (end : End) (found : Found) → IsOpened found config cluster old → wide ≡ with_slots config slots → config.slots ≤ slots → used ≡ old → AreNotBegun wide cluster
    → Writes FileGives FileGives (AreBlank wide) config wide cluster used left commands end → disks ≡ wide.disks → HasWritten slots commands disks end
written slots config wide cluster old used left commands disks end found opened is room same not_begun writes as_many = record {
  config = config;
  cluster = cluster;
  old = old;
  left = left;
  ready = record { found = found; opened = opened; room = room };
  not_begun = subst (λ (c : Shape). AreNotBegun c cluster) is not_begun;
  writes =
      subst (λ (c : Shape). Writes FileGives FileGives (AreBlank c) config c cluster old left commands end) is
      (subst (λ (l : List FileState). Writes FileGives FileGives (AreBlank wide) config wide cluster l left commands end) same writes);
  disks_is = as_many ∙ ap (λ (c : Shape). c.disks) is;
}

of_format : (disks : ℕ) → disks ≤ DISKS → (fault : FolderFault) → IsFormatFault disks fault → IsFolderFault fault
of_format disks few folder.NoMemory is = tt
of_format disks few folder.AlreadyThere is = tt
of_format disks few (folder.Image disk fault) is = let below : disk < disks = is.0 in inr (omega (arith, below, few), is.1)

-- why a migration stops is why it is refused
pub stops : (slots : ℕ) (config wide : Shape) (cluster : ℕ) (old used left : List FileState) (makes : List FileState → Type 0) (fails : FolderFault → Type 0) (fault : MoveFault) (found : Found) → IsOpened found config cluster old
    → wide ≡ with_slots config slots → config.slots ≤ slots → used ≡ old → AreNotBegun wide cluster → wide.disks ≤ DISKS → StopsFor FileGives FileGives makes fails config wide cluster used left fault
    → ((images : List FileState) → makes images → AreBlank wide images) → ((x : FolderFault) → fails x → IsFormatFault wide.disks x) → MayFail slots fault
stops slots config wide cluster old used left makes fails fault found opened is room as_old not_begun few stopped blank failed = by_fault fault stopped
  where
    by_fault : (fault : MoveFault) → StopsFor FileGives FileGives makes fails config wide cluster used left fault → MayFail slots fault
    by_fault NoMemory stopped = tt
    by_fault (Refused refusal) stopped = record {
      config = config;
      cluster = cluster;
      old = old;
      left = left;
      learned = stopped.0;
      ready = record { found = found; opened = opened; room = room };
      recovers = subst (λ (l : List FileState). HasRecovered FileGives config l left stopped.0 (Ended refusal)) as_old stopped.1;
    }
    by_fault (Folder x) stopped = of_format wide.disks few x (failed x stopped.2)
    by_fault MigrationFailed stopped =
        inl (record {
          commands = stopped.0;
          disks = wide.disks;
          written =
              written slots config wide cluster old used left stopped.0 wide.disks end.MigrationFailed found opened is room as_old not_begun
              (made_as FileGives FileGives makes (AreBlank wide) config wide cluster used left stopped.0 end.MigrationFailed blank stopped.1) refl;
        })
    by_fault TooFewSlots stopped = absurd stopped
    by_fault (Lock x) stopped = absurd stopped
