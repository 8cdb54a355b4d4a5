-- An attempt is served where the others rest, and most disks answer each of its calls: a spent block counts only where a write was due to it.
use Rattle.std.specs.Prelude.{not, ◌&&◌}
use Rattle.std.proofs.Common.{ℕ, ◌<◌, ◌≤◌, ◌≡◌, inl, inr, Bool, true, false, Option, None, List, length, refl, ap, ap₂, arith}
use Rattle.std.proofs.lemmas.Bool.{cases_lt, both_ways}
use Rattle.attempt.specs.Calls.{Phase, Opening, One, Two, start, goal}
use Rattle.attempt.specs.Answers.{Answered, Answers, on}
use Rattle.attempt.specs.Setup.{Setup}
use Rattle.attempt.specs.Visits.{waits, is_stuck, is_past, visited, is_left, are_enough}
use Rattle.attempt.specs.Standing.{IsIn}
use Rattle.attempt.specs.Status.{Status, Due, Ended, Committed, Decided, Empty, Outrun, NoMajority, BallotsSpent, status}
use Rattle.attempt.specs.History.{IsHistory}
use Rattle.attempt.specs.Laws.{OthersRest, IsServed}
use Rattle.attempt.proofs.Ends.{not_above, going}
use Rattle.attempt.proofs.Firsts.{none_below}
use Rattle.attempt.proofs.Visitors.{part_if, waiting_if}
use Rattle.attempt.proofs.Statuses.{HasFew, Tells, status_tells, enough_more}
use Rattle.attempt.proofs.Histories.{history_reached}
use Rattle.world_served.specs.Alone.{AnswersEach, MostAnswerEach}

-- A DISK THAT ANSWERS EACH CALL

unspent_by : (stuck : Bool) (at : Option ℕ) (d : ℕ) → at ≡ None → (stuck && is_past at d) ≡ false → stuck ≡ false
unspent_by true at d none is = (let past : is_past at d ≡ true = ap (λ (o : Option ℕ). is_past o d) none in absurd (both_ways (is_past at d) is past))
unspent_by false at d none is = refl

module _ (s : Setup) (f : Answers) (d : ℕ) (below : d < s.disks) (well : AnswersEach s f d) where
  -- a phase that is over was gone through there
  through : (p : Phase) → IsIn s p f → start p ≤ length (f d) → visited s p f ≡ None → goal p ≤ length (f d)
  through p come begun none =
      elim (cases_lt (length (f d)) (goal p)) [
        | inl short ↦
            absurd (both_ways (waits s p (f d)) (none_below s.disks (λ e. waits s p (f e)) none d below)
            (waiting_if s p (f d) (record { part = record { good = well.good; come = begun }; short = short; unspent = unspent_by (is_stuck s p (f d)) (visited s p f) d none (well.unspent p come) })))
        | inr over ↦ over
      ]

  -- it has come to each phase that the attempt has come to
  comes : (p : Phase) → IsIn s p f → start p ≤ length (f d)
  comes Opening come = omega arith
  comes One come = through Opening tt (omega arith) come.over
  comes Two come = through One (come.1).taken (through Opening tt (omega arith) (come.1).taken.over) (come.1).over

  -- and is left there
  stays_left : (p : Phase) → IsIn s p f → is_left s p f d ≡ true
  stays_left p come = ap₂ (λ (a b : Bool). a && not b) (part_if p (f d) (record { good = well.good; come = comes p come })) (well.unspent p come)

-- so an attempt does not lack a majority
not_few : (s : Setup) (f : Answers) → MostAnswerEach s f → ¬ HasFew s f
not_few s f good few =
    both_ways (are_enough s (is_left s few.phase f)) few.few
    (enough_more s good.those (is_left s few.phase f) (λ d l is. stays_left s f d l (good.each d l is) few.phase few.come) good.most)

-- THE END

served_by : (s : Setup) (heard : List Answered) → IsHistory s heard → OthersRest s (on heard) → MostAnswerEach s (on heard) → (st : Status) → status s (on heard) ≡ st → Tells s (on heard) st → IsServed s heard st
served_by s heard is rest good (Due p d) so tells = going s heard is p d so
served_by s heard is rest good (Ended (Committed value)) so tells = tt
served_by s heard is rest good (Ended (Decided value)) so tells = tt
served_by s heard is rest good (Ended Empty) so tells = tt
served_by s heard is rest good (Ended BallotsSpent) so tells = tt
served_by s heard is rest good (Ended (Outrun mbal)) so tells = not_above s (on heard) (history_reached s heard is) rest tells.phase tells.above
served_by s heard is rest good (Ended NoMajority) so tells = not_few s (on heard) good tells

-- an attempt that is left alone is served
pub served : (s : Setup) (heard : List Answered) → IsHistory s heard → OthersRest s (on heard) → MostAnswerEach s (on heard) → IsServed s heard (status s (on heard))
served s heard is rest good = served_by s heard is rest good (status s (on heard)) refl (status_tells s (on heard))
