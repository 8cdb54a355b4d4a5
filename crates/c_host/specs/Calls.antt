-- The device call that is due, as C is told it, and what C says that it was answered.
use Rattle.std.specs.Prelude.{◌≡◌, ◌==◌, ◌<◌, ◌++◌, ℕ, List, length, drop, Option, Some, None, if◌then◌else◌}
use Rattle.disk.specs.Disk.{Call, Attach, Read, Write, Sync, Answer, Booted, Told, Done, Fault}
use Rattle.disk.specs.declared.fault.DiskFault.TheVariants.{Reset, Failed, Gone}
use Rattle.torn_block.specs.declared.layout.TheConstants.{COPY_LENGTH}
use Rattle.c_host.specs.declared.call.DueCall.{DueCall}
use Rattle.c_host.specs.declared.call.ToldAnswer.{ToldAnswer}

-- a call that has no range
abbrev pub plain_call : (kind disk boot : ℕ) → DueCall
plain_call kind disk boot = record { boot = boot; at = 0; length = 0; kind = kind; disk = disk }

-- no call
abbrev pub no_call : DueCall
no_call = plain_call 0 0 0

-- a call on this disk as C is told it; what its kind has no use for is 0
abbrev pub told_call : ℕ → Call → DueCall
told_call disk Attach = plain_call 1 disk 0
told_call disk (Sync boot) = plain_call 2 disk boot
told_call disk (Read boot at len) = record (plain_call 3 disk boot) { at = at; length = len }
told_call disk (Write boot at from) = record (plain_call 4 disk boot) { at = at; length = length from }

-- the room for what a call writes begins with that; all else in it stays
abbrev pub room_after : Call → List ℕ → List ℕ
room_after (Write boot at from) room = from ++ drop (length from) room
room_after call room = room

-- The call that is due is told, with its disk and what it writes.
pub record TellsDue (view : DueCall) (old new : List ℕ) (due : ℕ × Call) : Type 0 where
  pub call : view ≡ told_call due.0 due.1
  pub written : new ≡ room_after due.1 old

-- it writes more bytes than a block's copy has; none that a host makes does
abbrev pub IsTooLong : Call → Type 0
IsTooLong Attach = ⊥
IsTooLong (Sync boot) = ⊥
IsTooLong (Read boot at len) = ⊥
IsTooLong (Write boot at from) = COPY_LENGTH < length from

-- the answer to a call that was carried out: this boot number, or this row
abbrev pub success_in : Call → ℕ → List ℕ → Answer
success_in Attach boot row = Booted boot
success_in (Sync under) boot row = Done
success_in (Read under at len) boot row = Told row
success_in (Write under at from) boot row = Done

-- the answer that C tells, if it is one
abbrev pub answer_in : Call → ToldAnswer → List ℕ → Option Answer
answer_in call told row =
    if told.outcome == 0 then Some (success_in call told.boot row)
    else if told.outcome == 1 then Some (Fault Reset)
    else if told.outcome == 2 then Some (Fault Failed)
    else if told.outcome == 3 then Some (Fault Gone)
    else None
