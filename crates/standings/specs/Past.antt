-- What a host may call on a disk of epochs, and what it is told of it in an epoch, by all that it called there since its start, and what was answered.
use Rattle.std.specs.Prelude.{◌≡◌, ◌⊎◌, ◌+◌, ◌*◌, ◌≤◌, ◌<◌, ◌%◌, ℕ, List, [], ◌∷◌, ◌++◌, length, map, slice_range}
use Rattle.disk.specs.declared.fault.DiskFault.{DiskFault}
use Rattle.disk.specs.declared.fault.DiskFault.TheVariants.{Failed}
use Rattle.disk.specs.Disk.{Call, Attach, Read, Write, Sync, Answer, Booted, Told, Done, Fault}
use Rattle.torn_block.specs.Layout.{cluster_version}
use Rattle.torn_block.specs.declared.layout.TheConstants.{ROW_LENGTH, BLOCK_LENGTH, LAST_SEQUENCE}
use Rattle.torn_block.specs.declared.write_steps.WriteCall.{WriteCall}
use Rattle.torn_block.specs.declared.write_steps.WriteCall.TheVariants.{CloseGate, SyncClosed, PutBody, SyncBody, OpenGate, SyncOpened}
use Rattle.torn_block.specs.Block.{next_sequence}
use Rattle.torn_block.specs.Damage.{block_of}
use Rattle.torn_block.specs.Stage.{Write128, call_of}
use Rattle.heartbeat.specs.Beat.{beat_body}
use Rattle.standings.specs.declared.epoch.Epoch.{Epoch}
use Rattle.standings.specs.Epochs.{base_of, standings_place, number_place}
use Rattle.standings.specs.Reading.{zero_block, moved, masked, numbers_in, shown_by, AreClear}

-- a call, and what was answered
pub record Made : Type 0 where
  pub call : Call
  pub answer : Answer

-- all of a host on a disk, in the order in which it was made
abbrev pub Past : Type 0
Past = List Made

abbrev pub made : Call → Answer → Made
made call answer = record { call = call; answer = answer }

-- the call writes none of these bytes
abbrev pub Spares : (at len : ℕ) → Call → Type 0
Spares at len (Write boot from bytes) = (from + length bytes ≤ at) ⊎ (at + len ≤ from)
Spares at len other = Unit {0}

-- nor does any of these
abbrev pub AllSpare : (at len : ℕ) → Past → Type 0
AllSpare at len [] = Unit {0}
AllSpare at len (m ∷ past) = Spares at len m.call × AllSpare at len past

-- WHAT IT KNOWS

-- the reading of a row of standings
abbrev pub reading : (n area boot : ℕ) → List ℕ → Made
reading n area boot row = made (Read boot (standings_place n area) ROW_LENGTH) (Told row)

-- The host's number in an area is surely this: under one boot number the disk was synced, and then the number was read. The host did not write it since the sync.
pub record IsSureOf (n area host number : ℕ) (past : Past) : Type 0 where
  pub boot : ℕ
  pub row : List ℕ
  pub before : Past
  pub between : Past
  pub behind : Past
  pub is : past ≡ before ++ made (Sync boot) Done ∷ between ++ reading n area boot row ∷ behind
  pub read : numbers_in row host ≡ number
  pub still : AllSpare (number_place n area host) BLOCK_LENGTH (between ++ behind)

-- the host's block in a row of an area; the first row is none
abbrev pub block_at : (n area host row : ℕ) → ℕ
block_at n area host row = base_of n area + ROW_LENGTH * row + BLOCK_LENGTH * host

abbrev pub IsRow : (n row : ℕ) → Type 0
IsRow n row = (1 ≤ row) × (ROW_LENGTH * row + ROW_LENGTH ≤ n)

-- by this the block at the place is zeros: it was read so in its row, or written so
abbrev pub ShowsZeros : (boot place : ℕ) → Made → Type 0
ShowsZeros boot place m =
    ((at : ℕ) × (row : List ℕ) × (m ≡ made (Read boot at ROW_LENGTH) (Told row)) × (at ≤ place) × (place + BLOCK_LENGTH ≤ at + ROW_LENGTH)
    × ((from : ℕ) → at + from ≡ place → slice_range row from (from + BLOCK_LENGTH) ≡ zero_block))
    ⊎ (m ≡ made (Write boot place zero_block) Done)

-- so it was once, and the host did not write it since
pub record IsZeros (boot place : ℕ) (past : Past) : Type 0 where
  pub before : Past
  pub last : Made
  pub behind : Past
  pub is : past ≡ before ++ last ∷ behind
  pub shows : ShowsZeros boot place last
  pub still : AllSpare place BLOCK_LENGTH behind

-- The host's blocks in an area are cleared: under one boot number each was zeros, and then the disk was synced. The host wrote none of them since.
pub record HasCleared (n area host : ℕ) (past : Past) : Type 0 where
  pub boot : ℕ
  pub before : Past
  pub behind : Past
  pub is : past ≡ before ++ made (Sync boot) Done ∷ behind
  pub zeros : (row : ℕ) → IsRow n row → IsZeros boot (block_at n area host row) before
  pub still : (row : ℕ) → IsRow n row → AllSpare (block_at n area host row) BLOCK_LENGTH behind

-- WHAT IT MAY CALL

-- the calls before this one of the six that write a block
abbrev pub calls_before : WriteCall → List WriteCall
calls_before CloseGate = []
calls_before SyncClosed = CloseGate ∷ []
calls_before PutBody = CloseGate ∷ SyncClosed ∷ []
calls_before SyncBody = CloseGate ∷ SyncClosed ∷ PutBody ∷ []
calls_before OpenGate = CloseGate ∷ SyncClosed ∷ PutBody ∷ SyncBody ∷ []
calls_before SyncOpened = CloseGate ∷ SyncClosed ∷ PutBody ∷ SyncBody ∷ OpenGate ∷ []

-- the write of the host's number in an area, over the block as it was read in this row
abbrev pub number_write : (n area host : ℕ) → List ℕ → Write128
number_write n area host row =
    record { version = cluster_version; place = number_place n area host; block = block_of cluster_version host row; body = beat_body }

-- A beat: the last that the host did was an attach, a sync, a reading of the row, and the calls that come before this one. Each succeeded.
pub record IsBeating (n area host boot : ℕ) (row : List ℕ) (due : WriteCall) (past : Past) : Type 0 where
  pub before : Past
  pub is : past ≡ before ++ made Attach (Booted boot) ∷ made (Sync boot) Done ∷ reading n area boot row
      ∷ map (λ call. made (call_of call (number_write n area host row) boot) Done) (calls_before due)
  pub room : next_sequence cluster_version (block_of cluster_version host row) ≤ LAST_SEQUENCE

-- It clears a block of its own in an area: there its number is surely an odd one.
pub record Clears (n host : ℕ) (past : Past) (at len : ℕ) : Type 0 where
  pub area : ℕ
  pub row : ℕ
  pub number : ℕ
  pub is_area : area < 2
  pub is_row : IsRow n row
  pub within : (block_at n area host row ≤ at) × (at + len ≤ block_at n area host row + BLOCK_LENGTH)
  pub sure : IsSureOf n area host number past
  pub odd : number % 2 ≡ 1

-- Or it writes its number, as it is due in a beat. Over an odd one it does so only once its blocks in the area are cleared.
pub record WritesNumber (n host : ℕ) (past : Past) (call : Call) : Type 0 where
  pub area : ℕ
  pub boot : ℕ
  pub row : List ℕ
  pub due : WriteCall
  pub is_area : area < 2
  pub is : call ≡ call_of due (number_write n area host row) boot
  pub beats : IsBeating n area host boot row due past
  pub cleared : numbers_in row host % 2 ≡ 1 → HasCleared n area host past

-- what a host may call beside epochs; it may always attach, read and sync
abbrev pub MayCall : (n host : ℕ) → Past → Call → Type 0
MayCall n host past (Write boot at from) = Clears n host past at (length from) ⊎ WritesNumber n host past (Write boot at from)
MayCall n host past other = Unit {0}

-- It writes within its block in a row of the image of an epoch, whose number is surely its own in that area.
pub record WritesIn (n : ℕ) (e : Epoch) (host : ℕ) (past : Past) (at len : ℕ) : Type 0 where
  pub row : ℕ
  pub is_row : IsRow n row
  pub within : (ROW_LENGTH * row + BLOCK_LENGTH * host ≤ at) × (at + len ≤ ROW_LENGTH * row + BLOCK_LENGTH * host + BLOCK_LENGTH)
  pub sure : IsSureOf n e.area host e.number past

-- what its core may call on that image: it reads whole rows
abbrev pub MayCallIn : (n : ℕ) → Epoch → (host : ℕ) → Past → Call → Type 0
MayCallIn n e host past (Read boot at len) = (row : ℕ) × IsRow n row × (at ≡ ROW_LENGTH * row) × (len ≡ ROW_LENGTH)
MayCallIn n e host past (Write boot at from) = WritesIn n e host past at (length from)
MayCallIn n e host past other = Unit {0}

-- WHAT IT IS TOLD IN AN EPOCH

-- A row of the image was read, and then the standings once more, under one boot number. By them and an earlier reading it is clear whom to show.
pub record IsShown (n : ℕ) (e : Epoch) (host boot at : ℕ) (past : Past) (answer : Answer) : Type 0 where
  pub first : List ℕ
  pub row : List ℕ
  pub second : List ℕ
  pub early : Past
  pub before : Past
  pub between : Past
  pub is : past ≡ early ++ reading n e.area boot first ∷ before ++ made (Read boot (base_of n e.area + at) ROW_LENGTH) (Told row) ∷ between ++ reading n e.area boot second ∷ []
  pub clear : AreClear e (numbers_in first) (numbers_in second)
  pub told : answer ≡ Told (masked (shown_by e (numbers_in first) (numbers_in second)) row)

-- Or the last read under that boot number failed, and the host hears how; or it succeeded, and the host hears that it failed.
pub record IsUnseen (boot : ℕ) (past : Past) (answer : Answer) : Type 0 where
  pub before : Past
  pub at : ℕ
  pub len : ℕ
  pub last : Answer
  pub fault : DiskFault
  pub is : past ≡ before ++ made (Read boot at len) last ∷ []
  pub told : answer ≡ Fault fault
  pub why : (last ≡ Fault fault) ⊎ ((fault ≡ Failed) × ((bytes : List ℕ) × (last ≡ Told bytes)))

-- A call on the image of an epoch was answered so, by what the host did for it last.
abbrev pub IsAnswered : (n : ℕ) → Epoch → (host : ℕ) → Past → Call → Answer → Type 0
IsAnswered n e host past (Read boot at len) answer = IsShown n e host boot at past answer ⊎ IsUnseen boot past answer
IsAnswered n e host past call answer = (before : Past) × (past ≡ before ++ made (moved (base_of n e.area) call) answer ∷ [])
