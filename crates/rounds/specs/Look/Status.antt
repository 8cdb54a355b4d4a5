-- Of the headline. Where a look at a slot stands: the disk on which a call is due, or its end. And the call that is due.
use Rattle.std.specs.Prelude.{◌*◌, ◌&&◌, ℕ, Bool, not, List, length, nat_lt, nat_le, slice_get, Option, Some, None, option_and_then, is_some, is_none, if◌then◌else◌}
use Rattle.disk.specs.Disk as device
use Rattle.torn_block.specs.Layout.{cluster_version}
use Rattle.torn_block.specs.declared.layout.TheConstants.{ROW_LENGTH}
use Rattle.paxos_block.specs.Places.{row_place}
use Rattle.paxos_block.specs.Row.{DecodedBlock}
use Rattle.paxos_block.specs.Votes.{marked_in}
use Rattle.attempt.specs.Answers.{Heard, Answers, all_good, boot_of, told}
use Rattle.attempt.specs.Numbers.{count, first_below}

-- A look at a slot over so many disks, of which this one is asked first.
pub record Setup : Type 0 where
  pub slot : ℕ
  pub disks : ℕ
  pub first : ℕ

-- DISKS

-- a disk that is asked is attached, and then the slot's row is read there
abbrev pub two_calls : ℕ
two_calls = 2

-- the sound row that was read there
abbrev pub row_of : List Heard → Option (List DecodedBlock)
row_of a = option_and_then told (slice_get a 1)

-- the input of the first marked block of that row
abbrev pub mark_of : List Heard → Option (List ℕ)
mark_of a = option_and_then (marked_in cluster_version) (row_of a)

-- a sound row was read there, and no block of it is marked
abbrev pub shows_no_mark : List Heard → Bool
shows_no_mark a = is_some (row_of a) && is_none (mark_of a)

-- calls are to come there
abbrev pub waits : List Heard → Bool
waits a = all_good a && nat_lt (length a) two_calls

-- the disk that is asked first, or else the least with calls to come
abbrev pub visited : Setup → Answers → Option ℕ
visited s f = if waits (f s.first) then Some s.first else first_below s.disks (λ d. waits (f d))

-- a disk that has shown a mark
abbrev pub marked_on : Setup → Answers → Option ℕ
marked_on s f = first_below s.disks (λ d. is_some (mark_of (f d)))

-- more than half of the disks have shown a sound row without a mark
abbrev pub are_unmarked : Setup → Answers → Bool
are_unmarked s f = nat_lt s.disks (2 * count s.disks (λ d. shows_no_mark (f d)))

-- half of the disks, or more, have failed or shown damage
abbrev pub are_too_few : Setup → Answers → Bool
are_too_few s f = nat_le s.disks (2 * count s.disks (λ d. not (all_good (f d))))

-- THE END

-- a look ends with the value that a mark on a disk told, or sees that no mark tells one, or too few disks are left to see that
pub data End : Type 0 where
  Decided : (disk : ℕ) → (value : List ℕ) → End
  Unmarked : End
  NoMajority : End

pub data Status : Type 0 where
  Due : (disk : ℕ) → Status
  Ended : (end : End) → Status

abbrev pub due_or : Option ℕ → Status → Status
due_or None rest = rest
due_or (Some d) rest = Due d

abbrev pub told_on : ℕ → Option (List ℕ) → Status → Status
told_on d None rest = rest
told_on d (Some value) rest = Ended (Decided d value)

abbrev pub unless_told : Answers → Option ℕ → Status → Status
unless_told f None rest = rest
unless_told f (Some d) rest = told_on d (mark_of (f d)) rest

-- no mark was seen: more than half have shown so, or too few disks are left, or a call is due
abbrev pub asking : Setup → Answers → Status
asking s f = if are_unmarked s f then Ended Unmarked else if are_too_few s f then Ended NoMajority else due_or (visited s f) (Ended NoMajority)

-- one mark ends a look
abbrev pub status : Setup → Answers → Status
status s f = unless_told f (marked_on s f) (asking s f)

-- THE CALL THAT IS DUE

abbrev pub call_on : Setup → List Heard → device.Call
call_on s a = if nat_lt (length a) 1 then device.Attach else device.Read (boot_of a) (row_place cluster_version s.slot) ROW_LENGTH

abbrev pub next_in : Setup → Answers → Status → Option (ℕ × device.Call)
next_in s f (Due d) = Some (d, call_on s (f d))
next_in s f (Ended end) = None

-- the disk and the device call that are due
abbrev pub next_call : Setup → Answers → Option (ℕ × device.Call)
next_call s f = next_in s f (status s f)
