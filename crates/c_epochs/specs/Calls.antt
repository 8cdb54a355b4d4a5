-- The device call that is due, as C is told it with room for a whole block.
use Rattle.std.specs.Prelude.{◌≡◌, ◌≤◌, ◌<◌, ◌+◌, ◌⊎◌, ℕ, ℤ, Bool, true, false, List, length, slice_index, nat_lt, Option, Some, None, if◌then◌else◌}
use Rattle.disk.specs.Disk.{Call, Attach, Read, Write, Sync, Answer, Fault}
use Rattle.disk.specs.declared.fault.DiskFault.TheVariants.{Failed}
use Rattle.torn_block.specs.declared.layout.TheConstants.{BLOCK_LENGTH}
use Rattle.paxos_block.specs.Shape.{Shape}
use Rattle.epoch_images.specs.Working.{room_of}
use Rattle.epoch_host.specs.declared.walk.Walk.{Walk}
use Rattle.epoch_host.specs.Knowing.{where_is}
use Rattle.epoch_host.specs.Walking.{call_due}
use Rattle.c_host.specs.declared.call.DueCall.{DueCall}
use Rattle.c_host.specs.declared.call.ToldAnswer.{ToldAnswer}
use Rattle.c_host.specs.Calls.{TellsDue, answer_in, plain_call}
use Rattle.c_host.specs.Numbers.{done, no_room}
use Rattle.c_host.specs.Steps.{TellsNoCall}

-- DISKS THAT TAKE NO PART YET

-- in an epoch before its first a disk is a lost one; a host that is in no epoch asks each disk
abbrev pub is_before : Option ℕ → (first : ℕ) → Bool
is_before None first = false
is_before (Some epoch) first = nat_lt epoch first

-- by the first epoch of each disk: that of the call that is due takes no part in the epoch where the host is
abbrev pub is_away : (firsts : List ℕ) → Walk → Bool
is_away firsts w = is_before (where_is w) (slice_index firsts (call_due w).0)

-- THE CALL

-- it writes more bytes than a block has; none that a host makes does
abbrev pub IsTooLong : Call → Type 0
IsTooLong Attach = ⊥
IsTooLong (Sync boot) = ⊥
IsTooLong (Read boot at len) = ⊥
IsTooLong (Write boot at from) = BLOCK_LENGTH < length from

-- C is told this call, unless it writes more bytes than there is room for: then no call
abbrev pub TellsCallDue : ℕ × Call → DueCall → (before after : List ℕ) → ℤ → Type 0
TellsCallDue due call before after status =
    ((status ≡ done) × TellsDue call before after due) ⊎ ((status ≡ no_room) × IsTooLong due.1 × TellsNoCall call before after)

-- no call is to be made, since this disk takes no part yet
abbrev pub call_away : ℕ → DueCall
call_away disk = plain_call 5 disk 0

-- C is told so of a disk that takes no part yet. Of another one it is told the call.
abbrev pub TellsDueOn : (firsts : List ℕ) → Walk → DueCall → (before after : List ℕ) → ℤ → Type 0
TellsDueOn firsts w call before after status =
    ((is_away firsts w ≡ true) × (status ≡ done) × (call ≡ call_away (call_due w).0) × (after ≡ before))
    ⊎ ((is_away firsts w ≡ false) × TellsCallDue (call_due w) call before after status)

-- a disk that takes no part yet fails, whatever C says; of another one it is the answer that C tells, if it is one
abbrev pub answer_on : (firsts : List ℕ) → Walk → ToldAnswer → List ℕ → Option Answer
answer_on firsts w told row = if is_away firsts w then Some (Fault Failed) else answer_in (call_due w).1 told row

-- It is on a disk of the cluster, and its range lies within an image: two areas, and the rows of standings between them.
pub record LiesWithin (c : Shape) (call : DueCall) : Type 0 where
  pub disk : call.disk < c.disks
  pub range : call.at + call.length ≤ room_of c

-- It is an attach or a read, or none is to be made.
abbrev pub ReadsOnly : DueCall → Type 0
ReadsOnly call = (call.kind ≡ 1) ⊎ (call.kind ≡ 3) ⊎ (call.kind ≡ 5)
