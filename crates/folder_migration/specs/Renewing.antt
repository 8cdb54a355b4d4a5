-- A renewal onto new disks, which are made once the table is known, and why one stops.
use Rattle.std.specs.Prelude.{◌≡◌, ◌<◌, ◌≤◌, ℕ, List, Option, None, Some, find, length, map}
use Rattle.disk.specs.Disk.{Call, Answer}
use Rattle.paxos_block.specs.Shape.{Shape}
use Rattle.lock_command.specs.declared.command.Command.{Command}
use Rattle.lock_command.specs.Command.{spelling}
use Rattle.lock_table.specs.Apply.{has_locks, table_after}
use Rattle.lock_table.specs.Carrying.{carried_over, is_among, without_clients}
use Rattle.lock_table.specs.Picture.{Shown, IsPictureOf}
use Rattle.migration.specs.Kept.{setup_by}
use Rattle.migration.specs.declared.end.End.{End}
use Rattle.migration.specs.declared.end.End.TheVariants as end
use Rattle.folder_migration.specs.Moving.{HasMoved}
use Rattle.folder_migration.specs.declared.renew_fault.NewFault.{NewFault}
use Rattle.folder_migration.specs.declared.renew_fault.RenewFault.{RenewFault}
use Rattle.folder_migration.specs.declared.renew_fault.RenewFault.TheVariants.{NoMemory, Old, SameCluster, Lock, Refused, NotFull, HasLocks, TooFewSlots, New, RenewalFailed}

-- what carries a table over that shows this, but for these clients
abbrev pub carried_without : List ℕ → Shown → List Command
carried_without leave shown = carried_over (without_clients (is_among leave) shown)

-- the first of these clients that has a lock, or waits for one
abbrev pub first_with_locks : List ℕ → Shown → Option ℕ
first_with_locks leave shown = find (has_locks shown.locks) leave

-- The table after these commands may be carried over into so many slots: no client that is to be left out has a lock, and a slot stays free.
pub record MayCarry (slots : ℕ) (leave : List ℕ) (learned : List Command) : Type 0 where
  pub shown : Shown
  pub pictured : IsPictureOf shown (table_after learned)
  pub lockless : first_with_locks leave shown ≡ None
  pub free : length (carried_without leave shown) < slots

-- The table after these commands was carried over onto disks that were made, up to this end. Clients that were to be left out have no lock, and were left out.
pub record Carries {E : Type 0} (gives : E → Call → Answer → E → Type 0) (makes : List E → Type 0) (config : Shape) (cluster : ℕ) (leave : List ℕ) (learned : List Command) (commands : ℕ) (end : End) : Type 0 where
  pub shown : Shown
  pub pictured : IsPictureOf shown (table_after learned)
  pub lockless : first_with_locks leave shown ≡ None
  pub blank : List E
  pub new : List E
  pub made : makes blank
  pub moves : HasMoved gives (setup_by config cluster (map spelling (carried_without leave shown))) blank new end
  pub commands_is : commands ≡ length (carried_without leave shown)
  pub free : commands < config.slots

-- the table after these commands shows a lock of a client that was to be left out: the first that has one is this one
abbrev pub HasLocksOf : (leave : List ℕ) → List Command → (client : ℕ) → Type 0
HasLocksOf leave learned client = (shown : Shown) × IsPictureOf shown (table_after learned) × (first_with_locks leave shown ≡ Some client)

-- what carries over the table after these commands takes as many slots as there are, or more, without clients that are to be left out and have no lock
abbrev pub HasTooFewSlots : ℕ → (leave : List ℕ) → List Command → Type 0
HasTooFewSlots slots leave learned = (shown : Shown) × IsPictureOf shown (table_after learned) × (first_with_locks leave shown ≡ None) × (slots ≤ length (carried_without leave shown))

-- why it stops: no memory; a client that is to be left out has a lock; too few slots for what is carried over; no disks are made, though it may be; a call on those fails
abbrev pub StopsRenewing : {E : Type 0} → (E → Call → Answer → E → Type 0) → (makes : List E → Type 0) → (fails : NewFault → Type 0) → (config : Shape) → (cluster : ℕ) → (leave : List ℕ) → (learned : List Command) → RenewFault → Type 0
StopsRenewing gives makes fails config cluster leave learned NoMemory = Unit {0}
StopsRenewing gives makes fails config cluster leave learned (HasLocks client) = HasLocksOf leave learned client
StopsRenewing gives makes fails config cluster leave learned TooFewSlots = HasTooFewSlots config.slots leave learned
StopsRenewing gives makes fails config cluster leave learned (New fault) = MayCarry config.slots leave learned × fails fault
StopsRenewing gives makes fails config cluster leave learned RenewalFailed = (commands : ℕ) × Carries gives makes config cluster leave learned commands end.MigrationFailed
StopsRenewing gives makes fails config cluster leave learned (Old fault) = ⊥
StopsRenewing gives makes fails config cluster leave learned SameCluster = ⊥
StopsRenewing gives makes fails config cluster leave learned (Lock fault) = ⊥
StopsRenewing gives makes fails config cluster leave learned (Refused refusal) = ⊥
StopsRenewing gives makes fails config cluster leave learned NotFull = ⊥
