-- Of the headline. The six calls that write a block, and what stands on the disk when each is due.
use Rattle.std.specs.Prelude.{◌≡◌, ◌⊎◌, ◌+◌, ◌<◌, ◌^◌, ℕ, true, false, List, [], ◌∷◌, length, drop, Option, Some, None, if◌then◌else◌}
use Rattle.disk.specs.Disk.{DiskState, Call, Write, Sync}
use Rattle.disk.specs.Crash.{MayLeave, IsWhole}
use Rattle.torn_block.specs.Layout.{Version, body_length, block_length}
use Rattle.torn_block.specs.declared.write_steps.WriteCall.{WriteCall}
use Rattle.torn_block.specs.declared.write_steps.WriteCall.TheVariants.{CloseGate, SyncClosed, PutBody, SyncBody, OpenGate, SyncOpened}
use Rattle.torn_block.specs.Block.{is_open, tail_with, other, copy_of, value_of, target_of, next_sequence}
use Rattle.torn_block.specs.Place.{block_in, copy_in, offset_of}
use Rattle.torn_block.specs.Register.{Value, Register, LiesOn}

-- A block that is written: its layout and its place, its bytes as its owner read them, and the new body.
pub record Write128 : Type 0 where
  pub version : Version
  pub place : ℕ
  pub block : List ℕ
  pub body : List ℕ

-- where the gate of the copy to be written stands
abbrev pub gate_of : Write128 → ℕ
gate_of w = w.place + offset_of w.version (target_of w.version w.block)

-- 0x00 closes an open gate; a closed one is not touched
abbrev pub closing : Write128 → List ℕ
closing w = if is_open (copy_of w.version (target_of w.version w.block) w.block) then 0 ∷ [] else []

abbrev pub new_tail : Write128 → List ℕ
new_tail w = tail_with (next_sequence w.version w.block) w.body

-- the device calls under a boot number
abbrev pub call_of : WriteCall → Write128 → ℕ → Call
call_of CloseGate w boot = Write boot (gate_of w) (closing w)
call_of SyncClosed w boot = Sync boot
call_of PutBody w boot = Write boot (gate_of w + 1) (new_tail w)
call_of SyncBody w boot = Sync boot
call_of OpenGate w boot = Write boot (gate_of w) (165 ∷ [])
call_of SyncOpened w boot = Sync boot

abbrev pub next_call : WriteCall → Option WriteCall
next_call CloseGate = Some SyncClosed
next_call SyncClosed = Some PutBody
next_call PutBody = Some SyncBody
next_call SyncBody = Some OpenGate
next_call OpenGate = Some SyncOpened
next_call SyncOpened = None

-- the value as its owner read it, the new one, and the register that has both
abbrev pub old_value : Write128 → Value
old_value w = value_of w.version w.block

abbrev pub new_value : Write128 → Value
new_value w = Some (next_sequence w.version w.block, w.body)

-- while it is written
abbrev pub in_writing : Write128 → Register
in_writing w = record { confirmed = old_value w; writing = Some (new_value w) }

-- what the block may be among the bytes that a crash leaves while this call is due: the other copy is as it was, and ..
abbrev pub MayBe : WriteCall → Write128 → List ℕ → Type 0
MayBe CloseGate w target = target ≡ copy_of w.version (target_of w.version w.block) w.block
MayBe SyncClosed w target = (target ≡ copy_of w.version (target_of w.version w.block) w.block) ⊎ (is_open target ≡ false)
MayBe PutBody w target = is_open target ≡ false
MayBe SyncBody w target = is_open target ≡ false
MayBe OpenGate w target = (is_open target ≡ false) × (drop 1 target ≡ new_tail w)
MayBe SyncOpened w target = drop 1 target ≡ new_tail w

-- the new copy stands
abbrev pub IsWritten : Write128 → List ℕ → Type 0
IsWritten w target = (is_open target ≡ true) × (drop 1 target ≡ new_tail w)

-- what it is now: where a sync is due, what that sync makes sure of
abbrev pub IsNow : WriteCall → Write128 → List ℕ → Type 0
IsNow CloseGate w target = MayBe CloseGate w target
IsNow SyncClosed w target = MayBe PutBody w target
IsNow PutBody w target = MayBe PutBody w target
IsNow SyncBody w target = MayBe OpenGate w target
IsNow OpenGate w target = MayBe OpenGate w target
IsNow SyncOpened w target = IsWritten w target

-- among these bytes the other copy is as it was, and the copy to be written has P
pub record Copies (w : Write128) (P : List ℕ → Type 0) (bytes : List ℕ) : Type 0 where
  pub kept : copy_in w.version (other (target_of w.version w.block)) w.place bytes ≡ copy_of w.version (other (target_of w.version w.block)) w.block
  pub target : P (copy_in w.version (target_of w.version w.block) w.place bytes)

-- this call is due
pub record IsDue (call : WriteCall) (w : Write128) (disk : DiskState) : Type 0 where
  pub now : Copies w (IsNow call w) disk.bytes
  pub left : (bytes : List ℕ) → MayLeave disk bytes → Copies w (MayBe call w) bytes

-- all six calls were answered with success
pub record IsDone (w : Write128) (disk : DiskState) : Type 0 where
  pub left : (bytes : List ℕ) → MayLeave disk bytes → Copies w (IsWritten w) bytes

-- A call is due, or none where all were answered.
abbrev pub Stands : Option WriteCall → Write128 → DiskState → Type 0
Stands None w disk = IsDone w disk
Stands (Some call) w disk = IsDue call w disk

-- the block lies within a disk, and its write is of a body of its layout
pub record IsPlaced (w : Write128) (disk : DiskState) : Type 0 where
  pub whole : IsWhole disk
  pub within : LiesOn w.version w.place disk
  pub block : length w.block ≡ block_length w.version
  pub body : length w.body ≡ body_length w.version
  pub fits : next_sequence w.version w.block < 2 ^ 64

-- each outcome of a crash now has this block
abbrev pub IsDurable : Write128 → DiskState → Type 0
IsDurable w disk = (bytes : List ℕ) → MayLeave disk bytes → block_in w.version w.place bytes ≡ w.block
