-- What a host is asked to do on its disks: how it ends, and what it costs.
use Rattle.std.specs.Prelude.{◌≡◌, ◌≤◌, ◌+◌, ◌-◌, ◌*◌, List, length, Option, Some}
use Rattle.disk.specs.Disk.{Call, Answer}
use Rattle.lock_command.specs.declared.command.Command.{Command}
use Rattle.lock_command.specs.Command.{spelling}
use Rattle.lock_command.specs.Reading.{decoded}
use Rattle.host.specs.Host.{Submitting, Recovering}
use Rattle.host.specs.declared.answer.HostAnswer.{HostAnswer}
use Rattle.host.specs.declared.answer.HostAnswer.TheVariants.{Looked, Beaten, Marked, Refused}
use Rattle.host.specs.declared.task.Task.{Task}
use Rattle.host.specs.declared.task.Task.TheVariants.{Submit, Recover, Look, Beat, Mark}
use Rattle.dlm_images.specs.Operations.{Standing, HasOperated, HasMarked, HasLooked, AreReads, Ends}

-- What is asked of a host over its disks: an operation has no more tries than fit a byte, and the bytes of a command that is submitted are
-- read as this command. No beat is asked of it.
abbrev pub MayBeAsked : Task → Type 0
MayBeAsked (Submit command tries) = (decoded (spelling command) ≡ Some command) × (tries ≤ 255)
MayBeAsked (Recover tries) = tries ≤ 255
MayBeAsked Beat = ⊥
MayBeAsked other = Unit {0}

-- What it says where that ends: a look tells how much is learned, a beat what host it suggests, a marking on how many disks the block is
-- marked; and each may be refused.
abbrev pub EndsTask : Task → List Command → Option HostAnswer → Type 0
EndsTask (Submit command tries) learned said = Ends (Submitting command) learned said
EndsTask (Recover tries) learned said = Ends Recovering learned said
EndsTask Look learned (Some (Looked count)) = count ≡ length learned
EndsTask Beat learned (Some (Beaten host)) = Unit {0}
EndsTask (Mark slot) learned (Some (Marked count)) = Unit {0}
EndsTask task learned (Some (Refused refusal)) = Unit {0}
EndsTask task learned said = ⊥

-- What that learns, and how many calls it makes: a recovery at most seventeen a disk for each slot that it learns and for each try; a
-- marking nine a disk, and it learns nothing; a look two a disk for each slot that it learns and for the one that it ends at, and it
-- writes nothing.
abbrev pub StaysWithin : {D : Type 0} → (D → Call → Answer → D → Type 0) → Task → (old new : Standing D) → Type 0
StaysWithin gives (Recover tries) old new =
    (length old.core.prefix ≤ length new.core.prefix)
    × ((done : HasOperated gives Recovering tries old new) → length done.made ≤ 17 * length old.disks * (length new.core.prefix - length old.core.prefix + tries))
StaysWithin gives Look old new =
    (length old.core.prefix ≤ length new.core.prefix)
    × ((done : HasLooked gives old new) → AreReads done.made)
    × ((done : HasLooked gives old new) → length done.made ≤ 2 * length old.disks * (length new.core.prefix - length old.core.prefix + 1))
StaysWithin gives (Mark slot) old new =
    (new.core.prefix ≡ old.core.prefix) × ((done : HasMarked gives slot old new) → length done.made ≤ 9 * length old.disks)
StaysWithin gives other old new = Unit {0}
