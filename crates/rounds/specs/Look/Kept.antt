-- What a look keeps, and when that is what follows from a list of answers.
use Rattle.std.specs.Prelude.{◌≡◌, ◌<◌, ◌≤◌, ◌*◌, ◌+◌, ◌==◌, ℕ, zero, suc, false, not, nat_lt, List, [], ◌∷◌, Option, Some, None, if◌then◌else◌}
use Rattle.disk.specs.Disk as device
use Rattle.torn_block.specs.Layout.{cluster_version}
use Rattle.torn_block.specs.declared.layout.TheConstants.{DISKS, ROW_LENGTH}
use Rattle.paxos_block.specs.Places.{row_place}
use Rattle.attempt.specs.Answers.{Heard, Booted, Answered, Answers, on, all_good}
use Rattle.attempt.specs.Numbers.{count}
use Rattle.attempt.specs.DeviceCalls.{heard_of}
use Rattle.rounds.specs.Look.History.{IsHistory}
use Rattle.rounds.specs.Look.Status.{Setup, End, Decided, Unmarked, NoMajority, Status, Due, Ended, status, waits, mark_of, shows_no_mark}
use Rattle.rounds.specs.declared.looks.end.End as code_end
use Rattle.rounds.specs.declared.looks.end.End.TheVariants as end
use Rattle.rounds.specs.declared.looks.notes.Notes.{Notes}
use Rattle.rounds.specs.declared.looks.notes.Stage.{Stage}
use Rattle.rounds.specs.declared.looks.notes.Stage.TheVariants as stage
use Rattle.attempt.specs.declared.heard.Heard as code_heard
use Rattle.attempt.specs.declared.heard.Heard.TheVariants as answer

-- what it looks at
abbrev pub setup_of : Notes → Setup
setup_of n = record { slot = n.slot; disks = n.disks; first = n.first }

-- WHICH DISK

-- the disk that is asked behind so many others: the one to begin with, and then the others by rising number
abbrev pub disk_at : (first asked : ℕ) → ℕ
disk_at first zero = first
disk_at first (suc n) = if nat_lt n first then n else suc n

-- so many are asked before this disk
abbrev pub turn_of : (first disk : ℕ) → ℕ
turn_of first disk = if disk == first then 0 else if nat_lt disk first then disk + 1 else disk

-- the disk that is asked now
abbrev pub disk_of : Notes → ℕ
disk_of n = disk_at n.first n.asked

-- THE CALL THAT IS DUE

abbrev pub call_at : Stage → ℕ → device.Call
call_at stage.Attaching slot = device.Attach
call_at (stage.Reading boot) slot = device.Read boot.number (row_place cluster_version slot) ROW_LENGTH

abbrev pub call_due : Notes → ℕ × device.Call
call_due n = (disk_of n, call_at n.stage n.slot)

-- an answer to it
abbrev pub answer_of : Notes → code_heard.Heard (List ℕ) → Answered
answer_of n heard = record { disk = disk_of n; heard = heard_of cluster_version heard }

-- an answer of the kind that the call may get
abbrev pub FitsStage : Stage → code_heard.Heard (List ℕ) → Type 0
FitsStage stage (answer.Fault fault) = Unit {0}
FitsStage stage.Attaching (answer.Booted boot) = Unit {0}
FitsStage (stage.Reading boot) (answer.Told row) = Unit {0}
FitsStage stage other = ⊥

abbrev pub end_of : code_end.End → End
end_of (end.Decided disk value) = Decided disk value
end_of end.Unmarked = Unmarked
end_of end.NoMajority = NoMajority

-- WHAT IS KEPT AT ANY TIME

-- a disk that told a value is one of these
abbrev pub IsInside : ℕ → Option code_end.End → Type 0
IsInside disks (Some (end.Decided disk value)) = disk < disks
IsInside disks other = Unit {0}

pub record IsSound (n : Notes) : Type 0 where
  pub first : n.first < n.disks
  pub asks_one : n.asked < n.disks
  pub few : n.disks ≤ DISKS
  pub unmarked : n.unmarked ≤ n.asked
  pub told : IsInside n.disks n.end

-- it is a look at the same slot, over the same disks
abbrev pub IsSameLook : Notes → Notes → Type 0
IsSameLook old new = setup_of new ≡ setup_of old

-- WHAT FOLLOWS FROM THE ANSWERS

-- what the disk that is asked has answered
abbrev pub IsAt : Stage → List Heard → Type 0
IsAt stage.Attaching a = a ≡ []
IsAt (stage.Reading boot) a = a ≡ Booted boot.number ∷ []

-- a disk is done with, and has shown no mark
pub record IsPast (a : List Heard) : Type 0 where
  pub done : waits a ≡ false
  pub no_mark : mark_of a ≡ None

-- so many disks were asked; so many of them have shown a sound row without a mark, and the others have failed or shown damage
pub record AreAsked (s : Setup) (f : Answers) (asked unmarked : ℕ) : Type 0 where
  pub past : (d : ℕ) → d < s.disks → turn_of s.first d < asked → IsPast (f d)
  pub shown : count s.disks (λ d. shows_no_mark (f d)) ≡ unmarked
  pub failed : count s.disks (λ d. not (all_good (f d))) + unmarked ≡ asked

-- a call is due on the disk that is asked, and those behind it have answered nothing
pub record IsAsking (f : Answers) (n : Notes) : Type 0 where
  pub before : AreAsked (setup_of n) f n.asked n.unmarked
  pub ahead : (d : ℕ) → n.asked < turn_of n.first d → f d ≡ []
  pub few : 2 * n.unmarked ≤ n.disks
  pub enough : 2 * n.asked < n.disks + 2 * n.unmarked
  pub here : IsAt n.stage (f (disk_of n))

abbrev pub Stands : Answers → Notes → Option code_end.End → Type 0
Stands f n None = IsAsking f n
Stands f n (Some end) = status (setup_of n) f ≡ Ended (end_of end)

-- what is kept follows from these answers
abbrev pub Follows : Answers → Notes → Type 0
Follows f n = Stands f n n.end

-- The answers lead to this: they are a history of the look, and what is kept follows from them.
pub record LeadsTo (s : Setup) (heard : List Answered) (n : Notes) : Type 0 where
  pub of : setup_of n ≡ s
  pub history : IsHistory s heard
  pub follows : Follows (on heard) n

-- the end, if it has come
abbrev pub end_of_status : Status → Option End
end_of_status (Due d) = None
end_of_status (Ended end) = Some end
