-- The number of a host in a row of standings, as its block says it: what is seen now, and what a crash may leave.
use Rattle.std.specs.Prelude.{◌≡◌, ◌⊎◌, ◌+◌, ℕ, Bool, true, false, List}
use Rattle.disk.specs.declared.fault.DiskFault.TheVariants.{Failed}
use Rattle.disk.specs.Disk.{DiskState, Call, Sync, Answer, Done, Fault, Step, Crashes}
use Rattle.disk.specs.Crash.{IsWhole, MayLeave}
use Rattle.disk.specs.Simulated.{fresh_disk}
use Rattle.disk.specs.Steps.{WritesOn}
use Rattle.torn_block.specs.Layout.{cluster_version}
use Rattle.torn_block.specs.declared.write_steps.WriteCall.{WriteCall}
use Rattle.torn_block.specs.declared.write_steps.WriteCall.TheVariants.{SyncOpened}
use Rattle.torn_block.specs.Register.{LiesOn, LeavesBlock}
use Rattle.torn_block.specs.Stage.{Write128, call_of, IsPlaced, IsDue}
use Rattle.heartbeat.specs.Beat.{counter_of}
pub use Rattle.standings.specs.Epochs.{number_at}

-- One number is seen. A crash leaves one that is sure, or that one, or where the next one is being written, the next one.
pub record IsNumber (place : ℕ) (disk : DiskState) (sure seen : ℕ) (writing : Bool) : Type 0 where
  pub now : number_at place disk.bytes ≡ seen
  pub left : (bytes : List ℕ) → MayLeave disk bytes → (number_at place bytes ≡ sure) ⊎ (number_at place bytes ≡ seen) ⊎ ((number_at place bytes ≡ seen + 1) × (writing ≡ true))

-- zeros are number 0
abbrev pub ZerosAreNone : Type 0
ZerosAreNone = (place size : ℕ) → IsNumber place (fresh_disk size) 0 0 false

-- no call that leaves the block changes the number
abbrev pub OthersLeaveNumbers : Type 0
OthersLeaveNumbers =
    (place sure seen : ℕ) (writing : Bool) (disk new : DiskState) (call : Call) (answer : Answer) → IsWhole disk → LiesOn cluster_version place disk → WritesOn disk call → LeavesBlock cluster_version place call →
    Step disk call answer new → IsNumber place disk sure seen writing → IsNumber place new sure seen writing

-- a sync that succeeds, of whomever, makes sure of what is seen
abbrev pub SyncsMakeSure : Type 0
SyncsMakeSure = (place sure seen boot : ℕ) (writing : Bool) (disk new : DiskState) → Step disk (Sync boot) Done new → IsNumber place disk sure seen writing → IsNumber place new seen seen false

-- a crash leaves one of them, and that is sure
abbrev pub CrashesLeaveOne : Type 0
CrashesLeaveOne =
    (place sure seen : ℕ) (writing : Bool) (disk new : DiskState) → Crashes disk new → IsNumber place disk sure seen writing →
    (number : ℕ) × IsNumber place new number number false × ((number ≡ sure) ⊎ (number ≡ seen) ⊎ ((number ≡ seen + 1) × (writing ≡ true)))

-- the answer of a call that was made, or failed
abbrev pub IsTried : Answer → Type 0
IsTried Done = Unit {0}
IsTried (Fault Failed) = Unit {0}
IsTried other = ⊥

-- the write of a block at this place, which is as it was read
abbrev pub write_over : (place : ℕ) → (block body : List ℕ) → Write128
write_over place block body = record { version = cluster_version; place = place; block = block; body = body }

-- Each of the six calls that write the block again, whether it succeeds or fails, leaves the old number or the next one seen, and the old one sure.
abbrev pub WritesAreNext : Type 0
WritesAreNext =
    (place : ℕ) (block body : List ℕ) (call : WriteCall) (boot : ℕ) (disk new : DiskState) (answer : Answer) → IsPlaced (write_over place block body) disk → IsPlaced (write_over place block body) new →
    IsDue call (write_over place block body) disk → IsTried answer → Step disk (call_of call (write_over place block body) boot) answer new →
    (seen : ℕ) × ((seen ≡ counter_of block) ⊎ (seen ≡ counter_of block + 1)) × IsNumber place new (counter_of block) seen true

-- Once the sixth call succeeded it is the next one, whatever a crash leaves.
abbrev pub WritesRaise : Type 0
WritesRaise =
    (place : ℕ) (block body : List ℕ) (boot : ℕ) (disk new : DiskState) → IsPlaced (write_over place block body) disk → IsPlaced (write_over place block body) new → IsDue SyncOpened (write_over place block body) disk →
    Step disk (call_of SyncOpened (write_over place block body) boot) Done new → (bytes : List ℕ) → MayLeave new bytes → number_at place bytes ≡ counter_of block + 1
