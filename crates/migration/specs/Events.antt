-- Events of a migration over simulated disks, and the entry that each brings where it applies.
use Rattle.std.specs.Prelude.{◌^◌, ◌&&◌, ℕ, Bool, not, List, [], ◌∷◌, length, nat_lt, Option, Some, None, option_map, option_and_then, if◌then◌else◌}
use Rattle.disk.specs.declared.fault.DiskFault.{DiskFault}
use Rattle.disk.specs.declared.fault.DiskFault.TheVariants.{Failed}
use Rattle.disk.specs.Disk.{DiskState, Call, Write, Fault, success_of, done_by}
use Rattle.disk.specs.Simulated.{refusal_of, failed_by, filling, crashed}
use Rattle.migration.specs.Heard.{next}
use Rattle.paxos_block.specs.Image.{Setup}
use Rattle.migration.specs.Run.{Migration, begun, Entry, Called, Stopped, Crashed, Lost, after}

pub data Event : Type 0 where
  -- the call that is due is made, and does not fail
  Step : Event
  -- the program stops within the call that is due, a write, whose range takes the given bytes
  Tear : (given : List ℕ) → Event
  -- the call that is due fails; the range of a write takes the given bytes
  FailCall : (given : List ℕ) → Event
  -- the disk crashes, and its unsynced positions take the given bytes
  DiskCrash : (disk : ℕ) → (given : List ℕ) → Event
  DiskGone : (disk : ℕ) → Event

-- CALLS

-- the call is answered by a disk that does not fail; it may refuse
abbrev pub answered_by : ℕ → DiskState → Call → Option DiskFault → Entry
answered_by d disk call None = Called d call (success_of disk call) (done_by disk call)
answered_by d disk call (Some fault) = Called d call (Fault fault) disk

abbrev pub stepped : Migration → ℕ × Call → Entry
stepped w next = answered_by next.0 (w.disk next.0) next.1 (refusal_of (w.disk next.0) next.1)

-- it fails, where the disk would not refuse it
abbrev pub failed_call : ℕ → DiskState → Call → List ℕ → Option DiskFault → Option Entry
failed_call d disk call given None = Some (Called d call (Fault Failed) (failed_by disk call given))
failed_call d disk call given (Some fault) = None

abbrev pub failed : Migration → List ℕ → ℕ × Call → Option Entry
failed w given next = failed_call next.0 (w.disk next.0) next.1 given (refusal_of (w.disk next.0) next.1)

-- it is torn, where it is a write that the disk would not refuse
abbrev pub torn_call : ℕ → DiskState → Call → List ℕ → Option DiskFault → Option Entry
torn_call d disk (Write boot at from) given None = Some (Stopped d (Write boot at from) (filling disk at (length from) given))
torn_call d disk call given refusal = None

abbrev pub torn : Migration → List ℕ → ℕ × Call → Option Entry
torn w given next = torn_call next.0 (w.disk next.0) next.1 given (refusal_of (w.disk next.0) next.1)

-- WHAT AN EVENT BRINGS

abbrev pub brings_if : Bool → Option Entry → Option Entry
brings_if applies entry = if applies then entry else None

-- some bytes are given
abbrev pub are_some : List ℕ → Bool
are_some given = nat_lt 0 (length given)

-- there is such a disk, and it is not lost
abbrev pub has_disk : Setup → Migration → ℕ → Bool
has_disk s w d = nat_lt d s.disks && not (w.disk d).gone

-- The entry that an event brings; none where it does not apply.
abbrev pub entry_of : Setup → Migration → Event → Option Entry
entry_of s w Step = option_map (stepped w) (next w.progress)
entry_of s w (Tear given) = brings_if (are_some given) (option_and_then (torn w given) (next w.progress))
entry_of s w (FailCall given) = brings_if (are_some given) (option_and_then (failed w given) (next w.progress))
entry_of s w (DiskCrash d given) = brings_if (are_some given && has_disk s w d && nat_lt (w.disk d).boot (2 ^ 62)) (Some (Crashed d (crashed (w.disk d) given)))
entry_of s w (DiskGone d) = brings_if (has_disk s w d) (Some (Lost d))

-- A RUN

abbrev pub after_any : Migration → Option Entry → Migration
after_any w None = w
after_any w (Some e) = after w e

abbrev pub happens : Setup → Migration → Event → Migration
happens s w event = after_any w (entry_of s w event)

abbrev pub happen : Setup → Migration → List Event → Migration
happen s w [] = w
happen s w (e ∷ es) = happen s (happens s w e) es

-- what these events make of a migration that begins
abbrev pub run : Setup → List Event → Migration
run s events = happen s (begun s) events
