-- How far a write of a block is, and the call of it that is due.
use Rattle.std.specs.Prelude.{ℕ, Option, Some, None}
use Rattle.disk.specs.Disk as device
use Rattle.torn_block.specs.declared.write_steps.WriteCall.{WriteCall}
use Rattle.torn_block.specs.declared.write_steps.WriteCall.TheVariants.{CloseGate, SyncClosed, PutBody, SyncBody, OpenGate, SyncOpened}
use Rattle.torn_block.specs.Plan.{Plan, need_at, device_call}

-- so many calls of a write were answered
abbrev pub made : Option WriteCall → ℕ
made (Some CloseGate) = 0
made (Some SyncClosed) = 1
made (Some PutBody) = 2
made (Some SyncBody) = 3
made (Some OpenGate) = 4
made (Some SyncOpened) = 5
made None = 6

-- the call that is due, of a block at this place
abbrev pub write_due : ℕ → ℕ → Plan → Option WriteCall → device.Call
write_due place boot plan None = device.Sync boot
write_due place boot plan (Some call) = device_call place boot (need_at plan call)
