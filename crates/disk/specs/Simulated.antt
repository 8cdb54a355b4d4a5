-- Of the headline. A simulated disk, and exactly what each call of it does.
use Rattle.std.specs.Prelude.{if◌then◌else◌, ◌==◌, ◌≡◌, ◌+◌, ◌-◌, ◌<◌, ◌^◌, ℕ, false, List, length, replicate, min, Option, Some, None, Vec}
use Rattle.std.specs.declared.alloc.Global.{Global}
use Rattle.disk.specs.declared.fault.DiskFault.{DiskFault}
use Rattle.disk.specs.declared.fault.DiskFault.TheVariants.{Reset, Failed, Gone}
use Rattle.disk.specs.Disk.{DiskState, Call, Attach, Read, Write, Sync, Answer, Fault, written, success_of, done_by}
use Rattle.disk.specs.Filling.{spread, filled}

-- the disk, the bytes that its next call leaves where that is to fail, and how many calls have failed
pub record SimState : Type 0 where
  pub disk : DiskState
  pub failing : Option (List ℕ)
  pub failures : ℕ

-- all zero, nothing unsynced, boot number 1, not lost
unfoldable pub fresh_disk : ℕ → DiskState
fresh_disk size =
    record { bytes = replicate size 0; unsynced = replicate size false; boot = 1; gone = false }

-- the range takes the given bytes in turn, unsynced
abbrev pub filling : DiskState → ℕ → ℕ → List ℕ → DiskState
filling old at len given = written old at (spread given 0 len)

-- the unsynced positions take the given bytes in turn, nothing is unsynced, and the boot number rises
abbrev pub crashed : DiskState → List ℕ → DiskState
crashed old given =
    record {
      bytes = filled given 0 old.unsynced old.bytes;
      unsynced = replicate (length old.bytes) false;
      boot = old.boot + 1;
      gone = old.gone;
    }

-- CALLS

-- what stands in the way of a call under this boot number
abbrev pub refusal_under : DiskState → ℕ → Option DiskFault
refusal_under disk boot = if disk.gone then Some Gone else if boot == disk.boot then None else Some Reset

-- an attach is under any boot number
abbrev pub refusal_of : DiskState → Call → Option DiskFault
refusal_of disk Attach = refusal_under disk disk.boot
refusal_of disk (Read boot at len) = refusal_under disk boot
refusal_of disk (Write boot at from) = refusal_under disk boot
refusal_of disk (Sync boot) = refusal_under disk boot

-- what a call that is to fail with these bytes leaves
abbrev pub failed_by : DiskState → Call → List ℕ → DiskState
failed_by old Attach given = old
failed_by old (Read boot at len) given = old
failed_by old (Write boot at from) given = filling old at (length from) given
failed_by old (Sync boot) given = old

-- the failure that was asked for is over, and counted
abbrev pub after_failure : SimState → SimState
after_failure old = record { disk = old.disk; failing = None; failures = min (old.failures + 1) (2 ^ 64 - 1) }

abbrev pub outcome_by : SimState → Call → Option DiskFault → Option (List ℕ) → SimState × Answer
outcome_by old call (Some fault) failing = (old, Fault fault)
outcome_by old call None (Some given) = (record (after_failure old) { disk = failed_by old.disk call given }, Fault Failed)
outcome_by old call None None = (record old { disk = done_by old.disk call }, success_of old.disk call)

-- A call is refused, or fails where a failure was asked for, or succeeds: the disk then, and the answer.
abbrev pub outcome : SimState → Call → SimState × Answer
outcome old call = outcome_by old call (refusal_of old.disk call) old.failing

-- FIELDS

abbrev pub items_of : Option (Vec ℕ Global) → Option (List ℕ)
items_of None = None
items_of (Some v) = Some v.items

-- a list of bytes that is to fill positions has some
abbrev pub IsGiven : Option (List ℕ) → Type 0
IsGiven None = Unit {0}
IsGiven (Some given) = 0 < length given

-- a failure that was asked for is taken and counted
abbrev pub TakesFailure : SimState → Option (List ℕ) → SimState → Type 0
TakesFailure old None new = (old.failing ≡ None) × (new ≡ old)
TakesFailure old (Some given) new = (0 < length given) × (old.failing ≡ Some given) × (new ≡ after_failure old)
