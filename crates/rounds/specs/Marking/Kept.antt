-- What a marking keeps, and when that is what follows from a list of answers.
use Rattle.std.specs.Prelude.{◌≡◌, ℕ, List}
use Rattle.disk.specs.Disk as device
use Rattle.torn_block.specs.Layout.{cluster_version}
use Rattle.paxos_block.specs.Places.{place_of, VoteOf, row_place}
use Rattle.attempt.specs.Answers.{Answered, Answers, on}
use Rattle.attempt.specs.DeviceCalls.{heard_of}
use Rattle.attempt.specs.declared.heard.Heard as code_heard
use Rattle.rounds.specs.Marking.History.{IsHistory}
use Rattle.rounds.specs.Marking.Notes.{Notes}
use Rattle.rounds.specs.Marking.Status.{Setup, End, Marked, NoMajority, duty}
use Rattle.rounds.specs.declared.marks.end.End as code_end
use Rattle.rounds.specs.declared.marks.end.End.TheVariants as end
use Rattle.rounds.specs.Kept as rounds
pub use Rattle.rounds.specs.Kept.{end_of_status}

-- what it marks
abbrev pub setup_of : Notes → Setup
setup_of n = record { host = n.host; slot = n.slot; disks = n.disks; value = n.value }

-- the call that is due, on the disk that is visited
abbrev pub call_due : Notes → ℕ × device.Call
call_due n =
    (n.disk, rounds.call_at n.round.stage (row_place cluster_version n.slot) (place_of cluster_version (VoteOf n.slot n.host)) n.round)

-- an answer to it
abbrev pub answer_of : Notes → code_heard.Heard (List ℕ) → Answered
answer_of n heard = record { disk = n.disk; heard = heard_of cluster_version heard }

abbrev pub end_of : code_end.End → End
end_of (end.Marked count) = Marked count
end_of end.NoMajority = NoMajority

-- it is of the same slot, by the same host on the same disks
abbrev pub IsSameMarking : Notes → Notes → Type 0
IsSameMarking old new = setup_of new ≡ setup_of old

-- what is kept follows from these answers
abbrev pub Follows : Answers → Notes → Type 0
Follows f n = rounds.Follows (duty (setup_of n)) f n.round

-- The answers lead to this: they are a history of the marking, and what is kept follows from them.
pub record LeadsTo (s : Setup) (heard : List Answered) (n : Notes) : Type 0 where
  pub of : setup_of n ≡ s
  pub history : IsHistory s heard
  pub follows : Follows (on heard) n
