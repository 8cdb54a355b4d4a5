-- A history of a beat by its last answer: nine calls a disk, and the call that is due.
use Rattle.std.proofs.Common.{ℕ, ◌*◌, ◌<◌, ◌≤◌, ◌≡◌, Some, List, [], length}
use Rattle.disk.specs.Disk as device
use Rattle.torn_block.specs.Layout.{cluster_version}
use Rattle.paxos_block.specs.Row.{decoded_row}
use Rattle.attempt.specs.Answers.{heard_as as heard_by_attempts}
use Rattle.attempt.proofs.Hearing.{fits_by}
use Rattle.heartbeat.specs.Beat.{area_said}
use Rattle.rounds.specs.Beat.Answers.{Answered, Answers, heard_as, on}
use Rattle.rounds.specs.Beat.History.{Fits, IsHistory}
use Rattle.rounds.specs.Beat.Status.{Setup, Beaten, NoMajority, Due, duty, status, readings, next_call}
use Rattle.rounds.proofs.Histories as rounds
use Rattle.rounds.proofs.Histories.{IsDue}

pub due_is : (s : Setup) (f : Answers) (d : ℕ) → status s f ≡ Due d → IsDue (duty s) f d
due_is s = rounds.due_is (duty s) (λ f. Beaten (readings s f)) NoMajority

-- what is due is one of the nine calls
pub has_call : (s : Setup) (f : Answers) (d : ℕ) → status s f ≡ Due d → (call : device.Call) × (next_call s f ≡ Some (d, call))
has_call s = rounds.has_call (duty s) (λ f. Beaten (readings s f)) NoMajority

-- it is so at the start
pub starts : (s : Setup) → 1 ≤ s.disks → status s (on []) ≡ Due 0
starts s = rounds.starts (duty s) (λ f. Beaten (readings s f)) NoMajority

-- an answer of the kind that a call of an attempt may get is so for a beat too
pub fits_too : (call : device.Call) (answer : device.Answer) → Fits call (heard_by_attempts answer) → Fits call (heard_as answer)
fits_too call answer fits = fits_by (decoded_row cluster_version) area_said call answer fits

pub bound : (s : Setup) (heard : List Answered) → IsHistory s heard → length heard ≤ 9 * s.disks
bound s = rounds.bound (duty s) (λ f. Beaten (readings s f)) NoMajority

pub going : (s : Setup) (heard : List Answered) (d : ℕ) → IsHistory s heard → status s (on heard) ≡ Due d → length heard < 9 * s.disks
going s = rounds.going (duty s) (λ f. Beaten (readings s f)) NoMajority
