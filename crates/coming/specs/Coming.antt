-- What a host that comes to an epoch of a disk calls there, and what of its past holds what it keeps.
use Rattle.std.specs.Prelude.{◌≡◌, ◌⊎◌, ◌+◌, ◌*◌, ◌≤◌, ◌<◌, ◌%◌, ℕ, Bool, true, false, List, [], ◌∷◌, ◌++◌, length, Option, Some, None, nat_le, if◌then◌else◌}
use Rattle.disk.specs.declared.fault.DiskFault.{DiskFault}
use Rattle.disk.specs.Disk.{Call, Attach, Read, Write, Sync, Booted, Done, Fault}
use Rattle.torn_block.specs.Layout.{cluster_version}
use Rattle.torn_block.specs.declared.layout.TheConstants.{HOSTS, ROW_LENGTH, BLOCK_LENGTH, LAST_SEQUENCE}
use Rattle.torn_block.specs.declared.block.Block128.{Block128}
use Rattle.torn_block.specs.declared.write_steps.WriteCall.{WriteCall}
use Rattle.torn_block.specs.Block.{next_sequence}
use Rattle.torn_block.specs.Damage.{block_of}
use Rattle.torn_block.specs.Plan.{IsReading, plan_by}
use Rattle.heartbeat.specs.Beat.{IsDamagedArea, beat_body}
use Rattle.paxos_block.specs.Places.{image_length}
use Rattle.standings.specs.declared.epoch.Epoch.{Epoch}
use Rattle.standings.specs.Epochs.{base_of, standings_place, number_place}
use Rattle.standings.specs.Reading.{zero_block, numbers_in, HasPassed}
use Rattle.standings.specs.Past.{Made, Past, made, reading, block_at, IsRow, IsSureOf, IsZeros, HasCleared, IsBeating, WritesNumber}
use Rattle.rounds.specs.Kept as rounds
use Rattle.rounds.specs.declared.round.Stage.{Stage as RoundStage}
use Rattle.rounds.specs.declared.round.Stage.TheVariants as call
use Rattle.coming.specs.declared.end.End.{End}
use Rattle.coming.specs.declared.end.End.TheVariants as end
use Rattle.coming.specs.declared.notes.Notes.{Notes}
use Rattle.coming.specs.declared.notes.Stage.{Stage}
use Rattle.coming.specs.declared.notes.Stage.TheVariants as stage

-- THE CALL THAT IS DUE

-- how many bytes the image of an epoch has
abbrev pub image_of : Notes → ℕ
image_of c = image_length cluster_version c.slots

abbrev pub call_at : Stage → Notes → Call
call_at stage.Beating c =
    rounds.call_at c.round.stage (standings_place (image_of c) c.epoch.area) (number_place (image_of c) c.epoch.area c.host) c.round
call_at (stage.Looking row) c = Read c.round.boot.number (base_of (image_of c) c.epoch.area + ROW_LENGTH * row) ROW_LENGTH
call_at (stage.Clearing row) c = Write c.round.boot.number (block_at (image_of c) c.epoch.area c.host row) zero_block
call_at stage.Settling c = Sync c.round.boot.number

abbrev pub call_due : Notes → Call
call_due c = call_at c.stage c

-- WHAT IS KEPT AT ANY TIME

-- While blocks are cleared it is not noted that they are. A row that is looked at is one of the area.
abbrev pub IsStage : Stage → (slots : ℕ) → (is_cleared : Bool) → Type 0
IsStage stage.Beating slots is_cleared = Unit {0}
IsStage (stage.Looking row) slots is_cleared = (is_cleared ≡ false) × (1 ≤ row) × (row ≤ slots + 1)
IsStage (stage.Clearing row) slots is_cleared = (is_cleared ≡ false) × (1 ≤ row) × (row ≤ slots + 1)
IsStage stage.Settling slots is_cleared = is_cleared ≡ false

-- in a beat that is under way a call is due
abbrev pub HasDue : RoundStage → Option WriteCall → Type 0
HasDue call.Writing None = ⊥
HasDue calls due = Unit {0}

pub record IsSound (c : Notes) : Type 0 where
  pub is_host : c.host < HOSTS
  pub is_area : c.epoch.area < 2
  pub round : rounds.IsSound c.round
  pub one_disk : c.round.disks ≡ 1
  pub going : c.end ≡ None → c.round.end ≡ None
  pub due : c.end ≡ None → HasDue c.round.stage c.round.steps.due
  pub stage : IsStage c.stage c.slots c.is_cleared

-- what comes after a row in which the host's block is zeros
abbrev pub stage_after : (slots row : ℕ) → Stage
stage_after slots row = if nat_le row slots then stage.Looking (row + 1) else stage.Settling

-- a row is read now
abbrev pub IsReadDue : Stage → RoundStage → Type 0
IsReadDue stage.Beating call.Reading = Unit {0}
IsReadDue (stage.Looking row) calls = Unit {0}
IsReadDue stage calls = ⊥

-- a sync or a write is due
abbrev pub IsDoneDue : Stage → RoundStage → Type 0
IsDoneDue stage.Beating call.Syncing = Unit {0}
IsDoneDue stage.Beating call.Writing = Unit {0}
IsDoneDue (stage.Clearing row) calls = Unit {0}
IsDoneDue stage.Settling calls = Unit {0}
IsDoneDue stage calls = ⊥

-- WHAT IT KNOWS

-- A beat is under way. The plan of its write is of the block as it was read. The number in that is smaller than the epoch's; over an odd one the host's blocks were cleared before.
pub record IsWriting (c : Notes) (past : Past) : Type 0 where
  pub row : List ℕ
  pub block : Block128
  pub due : WriteCall
  pub reads : IsReading cluster_version (block_of cluster_version c.host row) block
  pub plan : c.round.steps ≡ record (plan_by cluster_version block beat_body) { due = Some due }
  pub beats : IsBeating (image_of c) c.epoch.area c.host c.round.boot.number row due past
  pub smaller : numbers_in row c.host < c.epoch.number
  pub cleared : numbers_in row c.host % 2 ≡ 1 → c.is_cleared ≡ true

-- the last that it did is what the round did so far
abbrev pub IsInRound : RoundStage → Notes → Past → Type 0
IsInRound call.Attaching c past = Unit {0}
IsInRound call.Syncing c past = (before : Past) × (past ≡ before ++ made Attach (Booted c.round.boot.number) ∷ [])
IsInRound call.Reading c past = (before : Past) × (past ≡ before ++ made Attach (Booted c.round.boot.number) ∷ made (Sync c.round.boot.number) Done ∷ [])
IsInRound call.Writing c past = IsWriting c past

-- it reads, or writes a whole block
abbrev pub IsOfClearing : Call → Type 0
IsOfClearing (Read boot at len) = Unit {0}
IsOfClearing (Write boot at from) = length from ≡ BLOCK_LENGTH
IsOfClearing other = ⊥

-- so does the last call
pub record EndsInClearing (past : Past) : Type 0 where
  pub before : Past
  pub last : Made
  pub is : past ≡ before ++ last ∷ []
  pub clears : IsOfClearing last.call

-- Its number is surely an odd one, and under this boot number its blocks in the rows below this one are zeros. No beat has begun since.
pub record IsClearing (n area host boot row : ℕ) (past : Past) : Type 0 where
  pub number : ℕ
  pub sure : IsSureOf n area host number past
  pub odd : number % 2 ≡ 1
  pub zeros : (r : ℕ) → IsRow n r → r < row → IsZeros boot (block_at n area host r) past
  pub ends : EndsInClearing past

abbrev pub ClearsBelow : Notes → (row : ℕ) → Past → Type 0
ClearsBelow c row past = IsClearing (image_of c) c.epoch.area c.host c.round.boot.number row past

abbrev pub IsAt : Stage → Notes → Past → Type 0
IsAt stage.Beating c past = IsInRound c.round.stage c past
IsAt (stage.Looking row) c past = ClearsBelow c row past
IsAt (stage.Clearing row) c past = ClearsBelow c row past
IsAt stage.Settling c past = ClearsBelow c (c.slots + 2) past

-- THE ENDS

-- the last that was read is this row of standings
pub record HasRead (n : ℕ) (e : Epoch) (row : List ℕ) (past : Past) : Type 0 where
  pub boot : ℕ
  pub before : Past
  pub is : past ≡ before ++ reading n e.area boot row ∷ []

-- The host's number is surely the epoch's, and by the row that was read last nobody has left the epoch.
pub record HasCome (n : ℕ) (e : Epoch) (host : ℕ) (past : Past) : Type 0 where
  pub row : List ℕ
  pub last : HasRead n e row past
  pub sure : IsSureOf n e.area host e.number past
  pub newest : ¬ HasPassed e (numbers_in row)

-- by that row somebody has
pub record IsPast (n : ℕ) (e : Epoch) (past : Past) : Type 0 where
  pub row : List ℕ
  pub last : HasRead n e row past
  pub passed : HasPassed e (numbers_in row)

-- the last call failed
pub record HasFault (past : Past) : Type 0 where
  pub before : Past
  pub call : Call
  pub fault : DiskFault
  pub is : past ≡ before ++ made call (Fault fault) ∷ []

-- Or the last row that was read is damaged, or the host's block in it has no sequence number left.
pub record IsOfNoUse (n : ℕ) (e : Epoch) (host : ℕ) (past : Past) : Type 0 where
  pub row : List ℕ
  pub last : HasRead n e row past
  pub why : IsDamagedArea row ⊎ (LAST_SEQUENCE < next_sequence cluster_version (block_of cluster_version host row))

abbrev pub HasEnded : (n host : ℕ) → Epoch → Past → End → Type 0
HasEnded n host e past end.Come = HasCome n e host past
HasEnded n host e past end.Passed = IsPast n e past
HasEnded n host e past end.Failed = HasFault past ⊎ IsOfNoUse n e host past

abbrev pub Stands : Option End → Notes → Past → Type 0
Stands None c past = IsAt c.stage c past
Stands (Some end) c past = HasEnded (image_of c) c.host c.epoch past end

-- in a past all is so that is kept
pub record IsKept (c : Notes) (past : Past) : Type 0 where
  pub cleared : c.is_cleared ≡ true → HasCleared (image_of c) c.epoch.area c.host past
  pub stands : Stands c.end c past

-- This past of a host, on a disk whose image has so many bytes, leads to what is kept.
pub record Knows (n host : ℕ) (past : Past) (c : Notes) : Type 0 where
  pub image : image_of c ≡ n
  pub own : c.host ≡ host
  pub kept : IsKept c past

-- The call raises a number towards this epoch's, if it raises any: in the area of that one, and from a smaller number.
abbrev pub RaisesTowards : (n host : ℕ) → Past → Notes → Call → Type 0
RaisesTowards n host past c call = (w : WritesNumber n host past call) → (w.area ≡ c.epoch.area) × (numbers_in w.row host < c.epoch.number)

-- it is the same host that comes to the same epoch
pub record IsSame (old new : Notes) : Type 0 where
  pub host : new.host ≡ old.host
  pub slots : new.slots ≡ old.slots
  pub epoch : new.epoch ≡ old.epoch
