-- Of the headline. Where one round of the disks stands: the disk on which a call is due, or its end. And the call that is due.
use Rattle.std.specs.Prelude.{◌*◌, ◌==◌, ◌&&◌, ◌||◌, ℕ, Bool, not, List, length, nat_lt, nat_le, slice_get, Option, Some, None, option_and_then, option_map, if◌then◌else◌}
use Rattle.disk.specs.Disk as device
use Rattle.torn_block.specs.declared.layout.TheConstants.{LAST_SEQUENCE, ROW_LENGTH}
use Rattle.torn_block.specs.Layout.{cluster_version}
use Rattle.torn_block.specs.Stage.{Write128, call_of}
pub use Rattle.attempt.specs.Calls.{Kind, Attaching, Syncing, Reading, Putting}
use Rattle.attempt.specs.Calls.{seventeen}
use Rattle.attempt.specs.Heard.{Heard, Answers, all_good, boot_of, told}
use Rattle.attempt.specs.Numbers.{count, first_below}
use Rattle.attempt.specs.NextCall.{with_disk}

-- What a host does in a round: on each of so many disks it reads at one place, and its own block there is at another. What it reads says
-- whether it is to write the block, whether the block is as it is to be already, what the block's sequence number and its bytes are, and the
-- body to be written. Where nothing sound was read, that is what says so.
pub record Duty (A : Type 0) : Type 0 where
  pub disks : ℕ
  pub reads : ℕ
  pub place : ℕ
  pub is_due : Option A → Bool
  pub is_so : Option A → Bool
  pub sequence : Option A → ℕ
  pub block : Option A → List ℕ
  pub body : Option A → List ℕ

-- DISKS

-- so many calls a disk: attach, sync, read; and six more where the own block is written
abbrev pub three_calls : ℕ
three_calls = 3

abbrev pub nine_calls : ℕ
nine_calls = 9

-- what was read, where it was sound: the third answer
abbrev pub read_in : {A : Type 0} → List (Heard A) → Option A
read_in a = option_and_then told (slice_get a 2)

abbrev pub calls_on : {A : Type 0} → Duty A → List (Heard A) → ℕ
calls_on w a = if w.is_due (read_in a) then nine_calls else three_calls

-- the write is due, and the own block's sequence number is spent
abbrev pub is_stuck : {A : Type 0} → Duty A → List (Heard A) → Bool
is_stuck w a = (length a == three_calls) && w.is_due (read_in a) && nat_le LAST_SEQUENCE (w.sequence (read_in a))

-- the disk answered nothing bad, and no write was due there to a spent block
abbrev pub is_left : {A : Type 0} → Duty A → List (Heard A) → Bool
is_left w a = all_good a && not (is_stuck w a)

-- calls are to come there
abbrev pub waits : {A : Type 0} → Duty A → List (Heard A) → Bool
waits w a = is_left w a && nat_lt (length a) (calls_on w a)

-- the first disk with calls to come
abbrev pub visited : {A : Type 0} → Duty A → Answers A → Option ℕ
visited w f = first_below w.disks (λ d. waits w (f d))

-- more than half of the disks are left
abbrev pub are_enough : {A : Type 0} → Duty A → Answers A → Bool
are_enough w f = nat_lt w.disks (2 * count w.disks (λ d. is_left w (f d)))

-- the own block was as it is to be already, or is by now
abbrev pub is_held : {A : Type 0} → Duty A → List (Heard A) → Bool
is_held w a = is_left w a && (w.is_so (read_in a) || nat_le nine_calls (length a))

-- THE END

pub data Status (E : Type 0) : Type 0 where
  Due : (disk : ℕ) → Status E
  Ended : (end : E) → Status E

abbrev pub due_or : {E : Type 0} → Option ℕ → Status E → Status E
due_or None rest = rest
due_or (Some d) rest = Due d

-- too few disks are left, or a call is due, or all disks left were visited
abbrev pub status : {A E : Type 0} → Duty A → (over too_few : E) → Answers A → Status E
status w over too_few f = if are_enough w f then due_or (visited w f) (Ended over) else Ended too_few

-- THE CALL THAT IS DUE

-- the write goes to the own block, as it was read
abbrev pub write_on : {A : Type 0} → Duty A → List (Heard A) → Write128
write_on w a = record { version = cluster_version; place = w.place; block = w.block (read_in a); body = w.body (read_in a) }

abbrev pub call_by : {A : Type 0} → Duty A → List (Heard A) → Kind → device.Call
call_by w a Attaching = device.Attach
call_by w a Syncing = device.Sync (boot_of a)
call_by w a Reading = device.Read (boot_of a) w.reads ROW_LENGTH
call_by w a (Putting p call) = call_of call (write_on w a) (boot_of a)

-- a disk's calls are of the kinds of an attempt's first ones; the one behind those that were answered
abbrev pub call_on : {A : Type 0} → Duty A → List (Heard A) → Option device.Call
call_on w a = option_map (call_by w a) (slice_get seventeen (length a))

-- the disk and the device call that are due
abbrev pub next_in : {A E : Type 0} → Duty A → Answers A → Status E → Option (ℕ × device.Call)
next_in w f (Due d) = with_disk d (call_on w (f d))
next_in w f (Ended end) = None
