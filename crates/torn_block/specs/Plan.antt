-- A block as read, and the plan of a write: what a writer keeps of both, in each layout.
use Rattle.std.specs.Prelude.{◌≡◌, ◌+◌, ◌≤◌, length, take, ℕ, Bool, List, [], ◌∷◌, Option, Some, None, if◌then◌else◌}
use Rattle.std.specs.Option.{option_map}
use Rattle.torn_block.specs.Layout.{Version, copy_length, body_length}
use Rattle.torn_block.specs.declared.block.Half.{Half}
use Rattle.torn_block.specs.declared.block.Block128.{Block128}
use Rattle.torn_block.specs.declared.block.Body.{Body}
use Rattle.torn_block.specs.declared.write_steps.WriteCall.{WriteCall}
use Rattle.torn_block.specs.declared.write_steps.WriteCall.TheVariants.{CloseGate, SyncClosed, PutBody, SyncBody, OpenGate, SyncOpened}
use Rattle.torn_block.specs.declared.write_steps.BlockNeed.{BlockNeed}
use Rattle.torn_block.specs.declared.write_steps.BlockNeed.TheVariants as needs
use Rattle.torn_block.specs.Block.{is_open, copy_of, current_of, value_of, tail_with, target_at, target_of, number_in, next_number}
use Rattle.torn_block.specs.Place.{offset_by}
use Rattle.torn_block.specs.Stage.{next_call}
use Rattle.disk.specs.Disk.{Call, Write, Sync}

-- the bytes of a body that its layout has
abbrev pub body_in : Version → Body → List ℕ
body_in v body = take (body_length v) body.bytes

-- the sequence number that it tells
abbrev pub told_number : Block128 → Option ℕ
told_number read = option_map (λ half. read.sequence) read.current

-- it is these bytes, as read
pub record IsReading (v : Version) (bytes : List ℕ) (read : Block128) : Type 0 where
  pub current : read.current ≡ current_of v bytes
  pub number : told_number read ≡ number_in (value_of v bytes)
  pub next_is_open : read.next_is_open ≡ is_open (copy_of v (target_of v bytes) bytes)
  pub blank : read.current ≡ None → read.sequence ≡ 0

-- how long a copy is, which one is written, whether its gate is to be closed, what comes behind the gate, and the call that is due
pub record Plan : Type 0 where
  pub size : ℕ
  pub target : Half
  pub closes : Bool
  pub tail : List ℕ
  pub due : Option WriteCall

abbrev pub plan_by : Version → Block128 → List ℕ → Plan
plan_by v read body =
    record {
      size = copy_length v;
      target = target_at read.current;
      closes = read.next_is_open;
      tail = tail_with (next_number (told_number read)) body;
      due = Some CloseGate;
    }

-- a range of the block with its bytes, or a sync
pub data Need : Type 0 where
  PutAt : (at : ℕ) → (bytes : List ℕ) → Need
  MakeSure : Need

-- where the gate of the copy that is written stands in the block
abbrev pub gate_at : Plan → ℕ
gate_at plan = offset_by plan.size plan.target

abbrev pub need_at : Plan → WriteCall → Need
need_at plan CloseGate = PutAt (gate_at plan) (if plan.closes then 0 ∷ [] else [])
need_at plan SyncClosed = MakeSure
need_at plan PutBody = PutAt (gate_at plan + 1) plan.tail
need_at plan SyncBody = MakeSure
need_at plan OpenGate = PutAt (gate_at plan) (165 ∷ [])
need_at plan SyncOpened = MakeSure

abbrev pub need_of : Plan → Option Need
need_of plan = option_map (need_at plan) plan.due

abbrev pub seen_need : BlockNeed → Need
seen_need (needs.Write at bytes) = PutAt at bytes.now
seen_need needs.Sync = MakeSure

-- a write lies within a block of so many bytes
abbrev pub LiesWithin : ℕ → Option BlockNeed → Type 0
LiesWithin size None = Unit {0}
LiesWithin size (Some (needs.Write at bytes)) = at + length bytes.now ≤ size
LiesWithin size (Some needs.Sync) = Unit {0}

-- the call behind the one that is due
abbrev pub next_after : Option WriteCall → Option WriteCall
next_after None = None
next_after (Some call) = next_call call

-- the device call of a need, at the block's place
abbrev pub device_call : ℕ → ℕ → Need → Call
device_call place boot (PutAt at bytes) = Write boot (place + at) bytes
device_call place boot MakeSure = Sync boot
