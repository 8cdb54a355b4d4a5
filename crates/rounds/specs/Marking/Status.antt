-- Of the headline. Where a marking stands: the disk on which a call is due, or its end. And the call that is due.
use Rattle.std.specs.Prelude.{◌&&◌, ℕ, Bool, true, false, not, List, Option, Some, None, bytes_eq}
use Rattle.disk.specs.Disk as device
use Rattle.torn_block.specs.Layout.{cluster_version}
use Rattle.torn_block.specs.Stage.{Write128}
use Rattle.paxos_block.specs.Saying.{Said as PBlock, body_saying}
use Rattle.paxos_block.specs.Places.{place_of, VoteOf, row_place}
use Rattle.paxos_block.specs.Row.{DecodedBlock}
use Rattle.attempt.specs.Answers.{Heard, Answers, seen_block}
use Rattle.attempt.specs.Numbers.{count}
use Rattle.rounds.specs.Status as rounds
pub use Rattle.rounds.specs.Status.{Duty, Due, Ended, due_or, three_calls, nine_calls, read_in}

-- A host marks a slot, of which it has learned this value, on so many disks.
pub record Setup : Type 0 where
  pub host : ℕ
  pub slot : ℕ
  pub disks : ℕ
  pub value : List ℕ

abbrev pub is_value : Option (List ℕ) → List ℕ → Bool
is_value None value = false
is_value (Some inp) value = bytes_eq inp value

-- what is written is what the own block says, with a mark
abbrev pub with_mark : PBlock → PBlock
with_mark says = record { mbal = says.mbal; bal = says.bal; inp = says.inp; mark = true }

-- A round: it reads the slot's row, and where the own block holds the value without a mark it writes that with a mark.
abbrev pub duty : Setup → Duty (List DecodedBlock)
duty s = record {
  disks = s.disks;
  reads = row_place cluster_version s.slot;
  place = place_of cluster_version (VoteOf s.slot s.host);
  is_due = λ row. not (seen_block row s.host).says.mark && is_value (seen_block row s.host).says.inp s.value;
  is_so = λ row. (seen_block row s.host).says.mark;
  sequence = λ row. (seen_block row s.host).sequence;
  block = λ row. (seen_block row s.host).bytes;
  body = λ row. body_saying cluster_version (with_mark (seen_block row s.host).says);
}

-- DISKS

-- the own block, as the row that was read shows it
abbrev pub own_block : Setup → List Heard → DecodedBlock
own_block s a = seen_block (read_in a) s.host

-- it holds the value, and has no mark
abbrev pub is_to_mark : Setup → List Heard → Bool
is_to_mark s a = (duty s).is_due (read_in a)

abbrev pub calls_on : Setup → List Heard → ℕ
calls_on s = rounds.calls_on (duty s)

abbrev pub is_stuck : Setup → List Heard → Bool
is_stuck s = rounds.is_stuck (duty s)

abbrev pub is_left : Setup → List Heard → Bool
is_left s = rounds.is_left (duty s)

abbrev pub waits : Setup → List Heard → Bool
waits s = rounds.waits (duty s)

abbrev pub visited : Setup → Answers → Option ℕ
visited s = rounds.visited (duty s)

abbrev pub are_enough : Setup → Answers → Bool
are_enough s = rounds.are_enough (duty s)

-- the own block was marked already, or is by now
abbrev pub is_marked : Setup → List Heard → Bool
is_marked s = rounds.is_held (duty s)

-- THE END

-- a marking ends with the number of the disks left on which the own block is marked, or too few disks are left
pub data End : Type 0 where
  Marked : (count : ℕ) → End
  NoMajority : End

abbrev pub Status : Type 0
Status = rounds.Status End

-- too few disks are left, or a call is due, or all disks left were visited
abbrev pub status : Setup → Answers → Status
status s f = rounds.status (duty s) (Marked (count s.disks (λ d. is_marked s (f d)))) NoMajority f

-- THE CALL THAT IS DUE

abbrev pub write_on : Setup → List Heard → Write128
write_on s = rounds.write_on (duty s)

abbrev pub call_by : Setup → List Heard → rounds.Kind → device.Call
call_by s = rounds.call_by (duty s)

abbrev pub call_on : Setup → List Heard → Option device.Call
call_on s = rounds.call_on (duty s)

abbrev pub next_in : Setup → Answers → Status → Option (ℕ × device.Call)
next_in s = rounds.next_in (duty s)

-- the disk and the device call that are due
abbrev pub next_call : Setup → Answers → Option (ℕ × device.Call)
next_call s f = next_in s f (status s f)
