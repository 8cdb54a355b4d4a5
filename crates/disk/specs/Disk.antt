-- Of the headline. A disk that tells its bytes, and its calls: which answer a call may get, and what it leaves.
use Rattle.std.specs.Prelude.{◌≡◌, ◌+◌, ◌-◌, ◌≤◌, ◌^◌, ℕ, Bool, true, false, List, ◌++◌, length, take, drop, replicate, slice_range, slice_index, slice_index_or, min, Result, Ok, Err}
use Rattle.disk.specs.declared.fault.DiskFault.{DiskFault}
use Rattle.disk.specs.declared.fault.DiskFault.TheVariants.{Reset, Failed, Gone}
use Rattle.disk.specs.declared.boot.Boot.{Boot}

-- the bytes, for each position whether it is unsynced, the boot number, and whether the disk is lost
pub record DiskState : Type 0 where
  pub bytes : List ℕ
  pub unsynced : List Bool
  pub boot : ℕ
  pub gone : Bool

-- the device calls, under a boot number all but the first; a read names how many bytes, a write which
pub data Call : Type 0 where
  Attach : Call
  Read : (boot : ℕ) → (at : ℕ) → (len : ℕ) → Call
  Write : (boot : ℕ) → (at : ℕ) → (from : List ℕ) → Call
  Sync : (boot : ℕ) → Call

pub data Answer : Type 0 where
  Booted : (boot : ℕ) → Answer
  Told : (bytes : List ℕ) → Answer
  Done : Answer
  Fault : (fault : DiskFault) → Answer

-- WHAT CHANGES

-- the list with these items from a place on
abbrev pub put_at : {X : Type 0} → List X → ℕ → List X → List X
put_at old at items = take at old ++ items ++ drop (at + length items) old

-- the range from a place on holds these bytes, unsynced
abbrev pub written : DiskState → ℕ → List ℕ → DiskState
written old at from =
    record {
      bytes = put_at old.bytes at from;
      unsynced = put_at old.unsynced at (replicate (length from) true);
      boot = old.boot;
      gone = old.gone;
    }

-- no position is unsynced
abbrev pub synced : DiskState → DiskState
synced old =
    record { bytes = old.bytes; unsynced = replicate (length old.bytes) false; boot = old.boot; gone = old.gone }

-- the disk is lost for good
abbrev pub lost : DiskState → DiskState
lost old = record { bytes = old.bytes; unsynced = old.unsynced; boot = old.boot; gone = true }

-- a write of n bytes that fails or is torn is a write of any n bytes
pub record Torn (at n : ℕ) (old new : DiskState) : Type 0 where
  pub left : List ℕ
  pub as_many : length left ≡ n
  pub leaves : new ≡ written old at left

-- these bytes are the old ones but at unsynced positions
pub record KeepsSynced (unsynced : List Bool) (old new : List ℕ) : Type 0 where
  pub as_many : length new ≡ length old
  pub same : (k : ℕ) → slice_index_or unsynced k false ≡ false → slice_index new k ≡ slice_index old k

-- the disk crashes: any bytes at the unsynced positions, nothing unsynced, the next boot number
pub record Crashes (old new : DiskState) : Type 0 where
  pub bytes : KeepsSynced old.unsynced old.bytes new.bytes
  pub unsynced : new.unsynced ≡ replicate (length old.bytes) false
  pub boot : new.boot ≡ old.boot + 1
  pub gone : new.gone ≡ old.gone

-- CALLS

-- the call is made under this boot number; an attach is under any
abbrev pub IsUnder : Call → ℕ → Type 0
IsUnder Attach now = Unit {0}
IsUnder (Read boot at len) now = boot ≡ now
IsUnder (Write boot at from) now = boot ≡ now
IsUnder (Sync boot) now = boot ≡ now

-- what a call that succeeds answers, and the disk that it leaves
abbrev pub success_of : DiskState → Call → Answer
success_of old Attach = Booted old.boot
success_of old (Read boot at len) = Told (slice_range old.bytes at (at + len))
success_of old (Write boot at from) = Done
success_of old (Sync boot) = Done

abbrev pub done_by : DiskState → Call → DiskState
done_by old Attach = old
done_by old (Read boot at len) = old
done_by old (Write boot at from) = written old at from
done_by old (Sync boot) = synced old

-- the call succeeds
abbrev pub Succeeds : Call → DiskState → Answer → DiskState → Type 0
Succeeds call old answer new = (answer ≡ success_of old call) × (new ≡ done_by old call)

-- what a call that fails leaves
abbrev pub FailureLeaves : Call → DiskState → DiskState → Type 0
FailureLeaves Attach old new = new ≡ old
FailureLeaves (Read boot at len) old new = new ≡ old
FailureLeaves (Write boot at from) old new = Torn at (length from) old new
FailureLeaves (Sync boot) old new = new ≡ old

-- From old, the call may get this answer and leave new: a lost disk tells so, an old boot number is refused,
-- and any other call fails or succeeds.
abbrev pub Step : DiskState → Call → Answer → DiskState → Type 0
Step old call (Fault Gone) new = (old.gone ≡ true) × (new ≡ old)
Step old call (Fault Reset) new = (old.gone ≡ false) × (IsUnder call old.boot → ⊥) × (new ≡ old)
Step old call (Fault Failed) new = (old.gone ≡ false) × IsUnder call old.boot × FailureLeaves call old new
Step old call answer new = (old.gone ≡ false) × IsUnder call old.boot × Succeeds call old answer new

-- ANY DISK

-- whether a disk tells its bytes, how many it has, its boot number, and whether it is lost
pub record Device : Type 0 where
  pub tells : Bool
  pub size : ℕ
  pub boot : ℕ
  pub gone : Bool

abbrev pub device_of : DiskState → Device
device_of disk = record { tells = true; size = length disk.bytes; boot = disk.boot; gone = disk.gone }

-- the answer that a result is
abbrev pub attach_answer : Result Boot DiskFault → Answer
attach_answer (Ok boot) = Booted boot.number
attach_answer (Err fault) = Fault fault

abbrev pub read_answer : {T : Type 0} → Result T DiskFault → List ℕ → Answer
read_answer (Ok done) into = Told into
read_answer (Err fault) into = Fault fault

abbrev pub done_answer : {T : Type 0} → Result T DiskFault → Answer
done_answer (Ok done) = Done
done_answer (Err fault) = Fault fault

-- a count in a word rose by one, or stands at its end
abbrev pub Rises : ℕ → ℕ → Type 0
Rises before after = min (before + 1) (2 ^ 64 - 1) ≤ after

-- each fault has its cause: the boot number is old, the count of failures rose, the disk is lost
abbrev pub HasCause : {T : Type 0} → Call → Device → ℕ → ℕ → Result T DiskFault → Type 0
HasCause call device before after (Ok done) = Unit {0}
HasCause call device before after (Err Reset) = IsUnder call device.boot → ⊥
HasCause call device before after (Err Failed) = Rises before after
HasCause call device before after (Err Gone) = device.gone ≡ true
