-- A history of a marking by its last answer: nine calls a disk, and the call that is due.
use Rattle.std.proofs.Common.{ℕ, ◌*◌, ◌<◌, ◌≤◌, ◌≡◌, Some, List, [], length}
use Rattle.disk.specs.Disk as device
use Rattle.attempt.specs.Answers.{Answered, Answers, on}
use Rattle.attempt.specs.Numbers.{count}
use Rattle.rounds.specs.Marking.History.{IsHistory}
use Rattle.rounds.specs.Marking.Status.{Setup, End, Marked, NoMajority, Due, duty, status, is_marked, next_call}
use Rattle.rounds.proofs.Histories as rounds
use Rattle.rounds.proofs.Histories.{IsDue}

abbrev over : Setup → Answers → End
over s f = Marked (count s.disks (λ d. is_marked s (f d)))

pub due_is : (s : Setup) (f : Answers) (d : ℕ) → status s f ≡ Due d → IsDue (duty s) f d
due_is s = rounds.due_is (duty s) (over s) NoMajority

-- what is due is one of the nine calls
pub has_call : (s : Setup) (f : Answers) (d : ℕ) → status s f ≡ Due d → (call : device.Call) × (next_call s f ≡ Some (d, call))
has_call s = rounds.has_call (duty s) (over s) NoMajority

-- it is so at the start
pub starts : (s : Setup) → 1 ≤ s.disks → status s (on []) ≡ Due 0
starts s = rounds.starts (duty s) (over s) NoMajority

pub bound : (s : Setup) (heard : List Answered) → IsHistory s heard → length heard ≤ 9 * s.disks
bound s = rounds.bound (duty s) (over s) NoMajority

pub going : (s : Setup) (heard : List Answered) (d : ℕ) → IsHistory s heard → status s (on heard) ≡ Due d → length heard < 9 * s.disks
going s = rounds.going (duty s) (over s) NoMajority
