-- Entries as a journal keeps them: the kinds of calls and answers, and none of their bytes.
use Rattle.std.specs.Prelude.{ℕ, List, length, map, Option, Some, None}
use Rattle.disk.specs.declared.fault.DiskFault.{DiskFault}
use Rattle.disk.specs.Disk.{Call, Attach, Read, Write, Sync, Answer, Fault}
use Rattle.world.specs.declared.entry.Entry.{Entry}
use Rattle.world.specs.declared.entry.Entry.TheVariants as kept
use Rattle.world.specs.declared.entry.CallKind.{CallKind}
use Rattle.world.specs.declared.entry.CallKind.TheVariants as kinds
use Rattle.host.specs.declared.task.Task.{Task}
use Rattle.host.specs.declared.task.Task.TheVariants.{Submit, Recover, Look, Beat, Mark}
use Rattle.world.specs.Entry.{Filled, Start, Stop, Begin, Called, Torn, Crashed, Lost, Migrated}

abbrev pub kind_of : Call → CallKind
kind_of Attach = kinds.Attach
kind_of (Read boot at len) = kinds.Read
kind_of (Write boot at from) = kinds.Write
kind_of (Sync boot) = kinds.Sync

abbrev pub fault_in : Answer → Option DiskFault
fault_in (Fault fault) = Some fault
fault_in other = None

-- a task has an entry of its own kind
abbrev pub begun : ℕ → Task → Entry
begun h (Submit command tries) = kept.Submit h command tries
begun h (Recover tries) = kept.Recover h tries
begun h Look = kept.Look h
begun h Beat = kept.Beat h
begun h (Mark slot) = kept.Mark h slot

abbrev pub plain : Filled → Entry
plain (Start h) = kept.Start h
plain (Stop h) = kept.Stop h
plain (Begin h task) = begun h task
plain (Called h k call answer left) = kept.Called h k (kind_of call) (fault_in answer)
plain (Torn h k call left) = kept.Torn h k
plain (Crashed k left) = kept.DiskCrash k
plain (Lost k) = kept.DiskGone k
plain (Migrated disks log) = kept.Migrated disks (length log)

-- a list of entries as it is kept
abbrev pub plains : List Filled → List Entry
plains log = map plain log
