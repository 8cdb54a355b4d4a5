-- Of the headline. Where a beat stands: the disk on which a call is due, or its end. And the call that is due.
use Rattle.std.specs.Prelude.{ℕ, Bool, true, false, List, map, Option}
use Rattle.std.specs.List.{range_with_len}
use Rattle.disk.specs.Disk as device
use Rattle.torn_block.specs.Layout.{area_place, cluster_version}
use Rattle.torn_block.specs.Stage.{Write128}
use Rattle.paxos_block.specs.Places.{place_of, BeatOf}
use Rattle.heartbeat.specs.Beat.{beat_body, counter_of}
use Rattle.rounds.specs.Beat.Answers.{Heard, Answers, own_block_in, reading_of}
use Rattle.rounds.specs.Status as rounds
pub use Rattle.rounds.specs.Status.{Duty, Due, Ended, due_or, nine_calls, Kind, Attaching, Syncing, Reading, Putting}

-- A host beats on so many disks.
pub record Setup : Type 0 where
  pub host : ℕ
  pub disks : ℕ

-- A round: it reads the heartbeat area, and writes the own block on each disk, with the body of each beat.
abbrev pub duty : Setup → Duty (List ℕ)
duty s = record {
  disks = s.disks;
  reads = area_place cluster_version;
  place = place_of cluster_version (BeatOf s.host);
  is_due = λ area. true;
  is_so = λ area. false;
  sequence = λ area. counter_of (own_block_in s.host area);
  block = own_block_in s.host;
  body = λ area. beat_body;
}

-- DISKS

abbrev pub is_stuck : Setup → List Heard → Bool
is_stuck s = rounds.is_stuck (duty s)

abbrev pub is_left : Setup → List Heard → Bool
is_left s = rounds.is_left (duty s)

abbrev pub visited : Setup → Answers → Option ℕ
visited s = rounds.visited (duty s)

-- THE END

-- what was read on each disk
abbrev pub readings : Setup → Answers → List (Option (List ℕ))
readings s f = map (λ d. reading_of (f d)) (range_with_len 0 s.disks)

-- a beat ends with its readings, or too few disks are left
pub data End : Type 0 where
  Beaten : (readings : List (Option (List ℕ))) → End
  NoMajority : End

abbrev pub Status : Type 0
Status = rounds.Status End

-- too few disks are left, or a call is due, or all disks left were visited
abbrev pub status : Setup → Answers → Status
status s f = rounds.status (duty s) (Beaten (readings s f)) NoMajority f

-- THE CALL THAT IS DUE

abbrev pub write_on : Setup → List Heard → Write128
write_on s = rounds.write_on (duty s)

abbrev pub call_by : Setup → List Heard → Kind → device.Call
call_by s = rounds.call_by (duty s)

abbrev pub call_on : Setup → List Heard → Option device.Call
call_on s = rounds.call_on (duty s)

abbrev pub next_in : Setup → Answers → Status → Option (ℕ × device.Call)
next_in s = rounds.next_in (duty s)

-- the disk and the device call that are due
abbrev pub next_call : Setup → Answers → Option (ℕ × device.Call)
next_call s f = next_in s f (status s f)
