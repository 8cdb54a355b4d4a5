-- A renewal of a folder, by what it came to over the host that recovered.
use Rattle.std.proofs.Common.{◌≡◌, ℕ, List, length, Result, Ok, Err, IfErr, sym, ◌∙◌, subst, inl, inr}
use Rattle.disk.specs.FileStates.{FileState, FileGives}
use Rattle.disk.specs.Disk.{Call, Answer}
use Rattle.lock_command.specs.declared.command.Command.{Command}
use Rattle.paxos_block.specs.Shape.{Shape}
use Rattle.host.specs.Host.{Recovering, fresh}
use Rattle.host.specs.Kept as hosts
use Rattle.migration.specs.declared.end.End.{End}
use Rattle.migration.specs.declared.end.End.TheVariants as end
use Rattle.folders.specs.Folders.{IsOpened}
use Rattle.dlm_images.specs.Operations.{HasOperated, Standing}
use Rattle.folders.specs.Sets.{Found}
use Rattle.folder_migration.specs.Migrating.{AreBlank}
use Rattle.folder_migration.specs.Renewing.{Carries, StopsRenewing}
use Rattle.folder_migration.specs.RenewingFolders.{EndsOver, HasRenewed, IsNewFault, MayNotRenew, Recovers, StopsOver}
use Rattle.folder_migration.specs.declared.old_log.TheConstants.{TRIES}
use Rattle.folder_migration.specs.declared.renew_fault.NewFault.{NewFault}
use Rattle.folder_migration.specs.declared.renew_fault.RenewFault.{RenewFault}
use Rattle.folder_migration.specs.declared.renew_fault.RenewFault.TheVariants.{NoMemory, Old, SameCluster, Lock, Refused, NotFull, HasLocks, TooFewSlots, New, RenewalFailed}

-- disks that were made so were made so, too
carried_as : {E : Type 0} (gives : E → Call → Answer → E → Type 0) (makes other : List E → Type 0) (config : Shape) (cluster : ℕ) (leave : List ℕ) (learned : List Command) (commands : ℕ) (end : End) → ((images : List E) → makes images → other images)
    → Carries gives makes config cluster leave learned commands end → Carries gives other config cluster leave learned commands end
carried_as gives makes other config cluster leave learned commands end as_other w =
    record { shown = w.shown; pictured = w.pictured; lockless = w.lockless; blank = w.blank; new = w.new; made = as_other w.blank w.made; moves = w.moves; commands_is = w.commands_is; free = w.free }

-- why new disks are not written is why a renewal over a host ends, once all slots are learned
pub ends_over : (slots : ℕ) (config : Shape) (cluster : ℕ) (leave : List ℕ) (host : Standing FileState) (makes : List FileState → Type 0) (fails : NewFault → Type 0) (result : Result ℕ RenewFault) → length host.core.prefix ≡ slots
    → ((images : List FileState) → makes images → AreBlank config images) → ((fault : NewFault) → fails fault → IsNewFault config.disks fault)
    → IfErr result (StopsRenewing FileGives makes fails config cluster leave host.core.prefix) → IfErr result (EndsOver slots config cluster leave host)
ends_over slots config cluster leave host makes fails (Ok commands) full blank failed stops = tt
ends_over slots config cluster leave host makes fails (Err fault) full blank failed stops = by_fault fault stops
  where
    by_fault : (fault : RenewFault) → StopsRenewing FileGives makes fails config cluster leave host.core.prefix fault → EndsOver slots config cluster leave host fault
    by_fault NoMemory stops = tt
    by_fault (HasLocks client) stops = (full, stops)
    by_fault TooFewSlots stops = (full, stops)
    by_fault (New fault) stops = (full, stops.0, failed fault stops.1)
    by_fault RenewalFailed stops = (full, stops.0, carried_as FileGives makes (AreBlank config) config cluster leave host.core.prefix stops.0 end.MigrationFailed blank stops.1)
    by_fault (Old fault) stops = absurd stops
    by_fault SameCluster stops = absurd stops
    by_fault (Lock fault) stops = absurd stops
    by_fault (Refused refusal) stops = absurd stops
    by_fault NotFull stops = absurd stops

-- a host over the images of another cluster, which knew nothing, recovered
pub recovers_from : (host cluster number : ℕ) (config : Shape) (found : Found) (disks : List FileState) (old new : Standing FileState) → IsOpened found config number disks → ¬ (number ≡ cluster) → old.disks ≡ disks
    → hosts.LeadsTo config host fresh old.core → HasOperated FileGives Recovering TRIES old new → Recovers host cluster config old new
recovers_from host cluster number config found disks old new opened other same knew_nothing done = record {
  is_other = record { found = found; number = number; opened = subst (IsOpened found config number) (sym same) opened; other = other };
  knew_nothing = knew_nothing;
  recovers = done;
}

pub has_renewed : (host : ℕ) (config old_config : Shape) (cluster : ℕ) (leave : List ℕ) (slots commands disks : ℕ) (old left : Standing FileState) → Recovers host cluster old_config old left → slots ≡ old_config.slots → length left.core.prefix ≡ slots
    → Carries FileGives (AreBlank config) config cluster leave left.core.prefix commands end.Migrated → disks ≡ config.disks → HasRenewed host config cluster leave commands disks
has_renewed host config old_config cluster leave slots commands disks old left recovers as_many full carries disks_is =
    record { old_config = old_config; old = old; left = left; recovers = recovers; full = full ∙ as_many; carries = carries; disks_is = disks_is }

-- what stops it over the host is why it is refused
pub may_not : (host : ℕ) (config old_config : Shape) (cluster : ℕ) (leave : List ℕ) (slots : ℕ) (old left : Standing FileState) (fault : RenewFault) → Recovers host cluster old_config old left → slots ≡ old_config.slots
    → EndsOver slots config cluster leave left fault → MayNotRenew host config cluster leave fault
may_not host config old_config cluster leave slots old left fault recovers as_many ends = by_fault fault (subst (λ (n : ℕ). EndsOver n config cluster leave left fault) as_many ends)
  where
    stopped : (fault : RenewFault) → EndsOver old_config.slots config cluster leave left fault → StopsOver host config cluster leave fault
    stopped fault ends = record { old_config = old_config; old = old; left = left; recovers = recovers; ends = ends }

    by_fault : (fault : RenewFault) → EndsOver old_config.slots config cluster leave left fault → MayNotRenew host config cluster leave fault
    by_fault NoMemory ends = tt
    by_fault (New fault) ends = inr (stopped (New fault) ends)
    by_fault (Refused refusal) ends = stopped (Refused refusal) ends
    by_fault NotFull ends = stopped NotFull ends
    by_fault (HasLocks client) ends = stopped (HasLocks client) ends
    by_fault TooFewSlots ends = stopped TooFewSlots ends
    by_fault RenewalFailed ends = inl (stopped RenewalFailed ends)
    by_fault (Old fault) ends = absurd ends
    by_fault SameCluster ends = absurd ends
    by_fault (Lock fault) ends = absurd ends
