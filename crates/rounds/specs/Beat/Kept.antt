-- What a beat keeps, and when that is what follows from a list of answers.
use Rattle.std.specs.Prelude.{◌≡◌, ◌<◌, ◌≤◌, ℕ, List, length, take, slice_index_or, Option, None}
use Rattle.disk.specs.Disk as device
use Rattle.torn_block.specs.Layout.{area_place, cluster_version}
use Rattle.paxos_block.specs.Places.{place_of, BeatOf}
use Rattle.rounds.specs.Beat.Answers.{Answered, Answers, on, reading_of}
use Rattle.rounds.specs.Beat.Calls.{heard_of}
use Rattle.rounds.specs.Beat.History.{IsHistory}
use Rattle.rounds.specs.Beat.Notes.{Notes}
use Rattle.rounds.specs.Beat.Status.{Setup, End, Beaten, NoMajority, duty}
use Rattle.rounds.specs.declared.beats.end.End as code_end
use Rattle.rounds.specs.declared.beats.end.End.TheVariants as end
use Rattle.attempt.specs.declared.heard.Heard as code_heard
use Rattle.rounds.specs.Kept as rounds
pub use Rattle.rounds.specs.Kept.{end_of_status}

-- what it beats on
abbrev pub setup_of : Notes → Setup
setup_of n = record { host = n.host; disks = n.disks }

-- the call that is due, on the disk that is visited
abbrev pub call_due : Notes → ℕ × device.Call
call_due n = (n.disk, rounds.call_at n.round.stage (area_place cluster_version) (place_of cluster_version (BeatOf n.host)) n.round)

-- an answer to it
abbrev pub answer_of : Notes → code_heard.Heard (List ℕ) → Answered
answer_of n heard = record { disk = n.disk; heard = heard_of heard }

-- what was read on the disks of the beat
abbrev pub readings_of : Notes → List (Option (List ℕ))
readings_of n = take n.disks n.readings

abbrev pub end_of : Notes → code_end.End → End
end_of n end.Beaten = Beaten (readings_of n)
end_of n end.NoMajority = NoMajority

-- it is of the same host and disks
pub record IsSameBeat (old new : Notes) : Type 0 where
  pub host : new.host ≡ old.host
  pub disks : new.disks ≡ old.disks

-- what is kept follows from these answers
pub record Follows (f : Answers) (n : Notes) : Type 0 where
  pub round : rounds.Follows (duty (setup_of n)) f n.round
  pub room : n.disks ≤ length n.readings
  pub readings : (e : ℕ) → e < n.disks → slice_index_or n.readings e None ≡ reading_of (f e)

-- The answers lead to this: they are a history of the beat, and what is kept follows from them.
pub record LeadsTo (s : Setup) (heard : List Answered) (n : Notes) : Type 0 where
  pub of : setup_of n ≡ s
  pub history : IsHistory s heard
  pub follows : Follows (on heard) n
