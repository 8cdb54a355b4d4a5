-- A log that is filled up with a request that was made already.
use Rattle.std.specs.Prelude.{◌≡◌, ◌⊎◌, ◌≤◌, ◌+◌, ℕ, List, [], length, Some}
use Rattle.disk.specs.Disk.{Call, Answer}
use Rattle.attempt.specs.declared.refusal.Refusal.{Refusal}
use Rattle.attempt.specs.declared.refusal.Refusal.TheVariants.{LogFull, Outrun}
use Rattle.lock_command.specs.declared.command.Command.{Command}
use Rattle.lock_command.specs.declared.command.Action.TheVariants.{Status}
use Rattle.lock_command.specs.declared.reply.Reply.{Reply}
use Rattle.lock_table.specs.Apply.{table_after}
use Rattle.lock_table.specs.Carrying.{IsKnownFrom}
use Rattle.lock_table.specs.Picture.{Shown, IsPictureOf}
use Rattle.paxos_block.specs.Shape.{Shape}
use Rattle.host.specs.Host.{Memory, Recovering}
use Rattle.host.specs.Kept.{LeadsTo}
use Rattle.host.specs.declared.answer.HostAnswer.TheVariants as answer
use Rattle.dlm_images.specs.Operations.{HasOperated, IsAcknowledged, Standing}
use Rattle.dlm_images.specs.Tries.{HasTried}
use Rattle.folder_migration.specs.declared.fill.FillFault.{FillFault}
use Rattle.folder_migration.specs.declared.fill.FillFault.TheVariants.{NoMemory, NoClient, Refused}
use Rattle.folder_migration.specs.declared.old_log.TheConstants.{TRIES}

-- The host's log has so many slots, on so many disks: what it keeps is what something leads to that a host of such a log may know.
abbrev pub IsOver : {D : Type 0} → Shape → Standing D → Type 0
IsOver config host = (number : ℕ) × (m : Memory) × LeadsTo config number m host.core

-- It asks for the state of lock 1, and its client made a request of this number already, or of a greater one. Such a command changes nothing, whatever
-- commands come before it from here on. Where one of them forgets its client it is carried out, and changes no lock.
pub record IsOldRequest (learned : List Command) (command : Command) : Type 0 where
  pub known : IsKnownFrom command.client command.request (table_after learned).clients
  pub asks : command.action ≡ Status 1

-- From old on a host submitted this command, again and again. So many times it was acknowledged, and the other times others had filled the log.
pub data Submits {D : Type 0} (gives : D → Call → Answer → D → Type 0) (command : Command) (old : Standing D) : ℕ → Standing D → Type 0 where
  none : Submits gives command old 0 old
  acknowledged : (count : ℕ) → (before after : Standing D) → Submits gives command old count before → HasTried gives command TRIES before after
      → (slot : ℕ) → (reply : Reply) → IsAcknowledged command slot reply after.core.prefix → Submits gives command old (count + 1) after
  full : (count : ℕ) → (before after : Standing D) → Submits gives command old count before → HasTried gives command TRIES before after
      → after.core.said ≡ Some (answer.Refused LogFull) → Submits gives command old count after

-- It submitted this command so again and again, until that was refused for another cause. As outrun it is refused only once all tries are used.
pub record EndsRefused {D : Type 0} (gives : D → Call → Answer → D → Type 0) (command : Command) (refusal : Refusal) (old new : Standing D) : Type 0 where
  pub count : ℕ
  pub before : Standing D
  pub submits : Submits gives command old count before
  pub tried : HasTried gives command TRIES before new
  pub said : new.core.said ≡ Some (answer.Refused refusal)
  pub not_full : ¬ (refusal ≡ LogFull)
  pub outrun : refusal ≡ Outrun → tried.outrun + 1 ≡ TRIES

-- The host recovered, and then submitted an old request so often, until it had learned every slot.
pub record Fills {D : Type 0} (gives : D → Call → Answer → D → Type 0) (slots count : ℕ) (old new : Standing D) : Type 0 where
  pub between : Standing D
  pub command : Command
  pub recovers : HasOperated gives Recovering TRIES old between
  pub old_request : IsOldRequest between.core.prefix command
  pub submits : Submits gives command between count new
  pub full : slots ≤ length new.core.prefix

-- why none is found: no memory, or the table after these commands shows no client
abbrev pub KnowsNobody : List Command → FillFault → Type 0
KnowsNobody learned NoMemory = Unit {0}
KnowsNobody learned NoClient = (shown : Shown) × IsPictureOf shown (table_after learned) × (shown.clients ≡ [])
KnowsNobody learned (Refused refusal) = ⊥

-- the recovery was refused so
abbrev pub RefusesRecovery : {D : Type 0} → (D → Call → Answer → D → Type 0) → Refusal → (old new : Standing D) → Type 0
RefusesRecovery gives refusal old new = HasOperated gives Recovering TRIES old new × (new.core.said ≡ Some (answer.Refused refusal))

-- The host recovered, and then submitted an old request again and again, until that was refused so.
pub record RefusesRequest {D : Type 0} (gives : D → Call → Answer → D → Type 0) (refusal : Refusal) (old new : Standing D) : Type 0 where
  pub between : Standing D
  pub command : Command
  pub recovers : HasOperated gives Recovering TRIES old between
  pub old_request : IsOldRequest between.core.prefix command
  pub ends : EndsRefused gives command refusal between new

-- why it stops: no memory, or no client is known, after a recovery; the recovery or an old request was refused
abbrev pub StopsFilling : {D : Type 0} → (D → Call → Answer → D → Type 0) → (old new : Standing D) → FillFault → Type 0
StopsFilling gives old new NoMemory = HasOperated gives Recovering TRIES old new
StopsFilling gives old new NoClient = HasOperated gives Recovering TRIES old new × KnowsNobody new.core.prefix NoClient
StopsFilling gives old new (Refused refusal) = RefusesRecovery gives refusal old new ⊎ RefusesRequest gives refusal old new
