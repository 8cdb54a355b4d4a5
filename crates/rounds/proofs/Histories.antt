-- A history of a round by its last answer: nine calls a disk, and the call that is due.
use Rattle.std.specs.Prelude.{nat_lt, option_map, if◌then◌else◌}
use Rattle.std.proofs.Common.{ℕ, ◌*◌, ◌<◌, ◌≤◌, ◌≡◌, Bool, true, false, Option, Some, None, List, [], length, refl, sym, ap, ◌∙◌, arith}
use Rattle.std.proofs.lemmas.Bool.{and_parts, ltb-true, lt-ltb}
use Rattle.disk.specs.Disk as device
use Rattle.attempt.specs.Calls.{Kind, seventeen}
use Rattle.attempt.specs.Heard.{Answered, Answers, IsAnswerTo, IsHistoryBy, on}
use Rattle.attempt.specs.NextCall.{with_disk}
use Rattle.attempt.specs.Numbers.{count}
use Rattle.attempt.proofs.Firsts.{some_below, below_some, count_all}
use Rattle.attempt.proofs.Hearing.{of_disk}
use Rattle.attempt.proofs.Moments.{get_some}
use Rattle.attempt.proofs.Totals.{total, total_bound, total_below, history_total, history_each}
use Rattle.rounds.proofs.Going.{early}
use Rattle.rounds.specs.Status.{Duty, Status, Due, Ended, status, visited, are_enough, waits, is_left, calls_on, read_in, due_or, call_on, call_by, next_in}

-- a call is due on a disk that waits, one of the round's
pub record IsDue {A : Type 0} (w : Duty A) (f : Answers A) (d : ℕ) : Type 0 where
  pub below : d < w.disks
  pub short : length (f d) < 9

visited_by : {E : Type 0} (enough : Bool) (visited : Option ℕ) (over too_few : E) (d : ℕ) → (if enough then due_or visited (Ended over) else Ended too_few) ≡ Due d → visited ≡ Some d
visited_by true None over too_few d is = absurd (cc)
visited_by true (Some e) over too_few d is = cc
visited_by false visited over too_few d is = absurd (cc)

at_most_nine : (t : Bool) → (if t then 9 else 3) ≤ 9
at_most_nine true = omega arith
at_most_nine false = omega arith

-- Its user ends it with one of these, as its disks have answered.
module _ {A E : Type 0} (w : Duty A) (over : Answers A → E) (too_few : E) where
  abbrev stands : Answers A → Status E
  stands f = status w (over f) too_few f

  abbrev next_call : Answers A → Option (ℕ × device.Call)
  next_call f = next_in w f (stands f)

  pub due_is : (f : Answers A) (d : ℕ) → stands f ≡ Due d → IsDue w f d
  due_is f d due =
      let found : visited w f ≡ Some d = visited_by (are_enough w f) (visited w f) (over f) too_few d due in
      let first = some_below w.disks (λ e. waits w (f e)) d found in
      let parts = and_parts (is_left w (f d)) (nat_lt (length (f d)) (calls_on w (f d))) first.passes in
      let less = ltb-true (length (f d)) (calls_on w (f d)) parts.1 in
      let most = at_most_nine (w.is_due (read_in (f d))) in
      record { below = first.below; short = omega arith }

  -- what is due is one of the nine calls
  pub has_call : (f : Answers A) (d : ℕ) → stands f ≡ Due d → (call : device.Call) × (next_call f ≡ Some (d, call))
  has_call f d due =
      let is = due_is f d due in
      let kind = get_some seventeen (length (f d)) (omega (arith, is.short)) in
      (call_by w (f d) kind.0, ap (next_in w f) due ∙ ap (λ (o : Option Kind). with_disk d (option_map (call_by w (f d)) o)) kind.1)

  -- an answer to the call that is due is of its disk
  answered_by : (f : Answers A) (st : Status E) (x : Answered A) → IsAnswerTo (next_in w f st) x → st ≡ Due x.disk
  answered_by f (Due d) x answers = ap Due (sym (of_disk d (call_on w (f d)) x answers))
  answered_by f (Ended end) x answers = absurd answers

  answer_due : (f : Answers A) (x : Answered A) → IsAnswerTo (next_call f) x → IsDue w f x.disk
  answer_due f x answers = due_is f x.disk (answered_by f (stands f) x answers)

  -- it is so at the start
  enough_by : (b : Bool) → b ≡ true → (o : Option ℕ) → o ≡ Some 0 → (rest : E) → (if b then due_or o (Ended rest) else Ended too_few) ≡ Due 0
  enough_by b enough o first rest = rw (enough, first) refl

  pub starts : 1 ≤ w.disks → stands (on []) ≡ Due 0
  starts some =
      enough_by (are_enough w (on [])) (lt-ltb w.disks (2 * count w.disks (λ d. true)) (let all = count_all w.disks in omega arith))
      (visited w (on [])) (below_some w.disks (λ d. waits w []) 0 (record { below = omega arith; passes = early (w.is_due None) 0 (omega arith); none = λ e l. absurd (omega arith) }))
      (over (on []))

  -- HOW MANY

  total_is : (heard : List (Answered A)) → IsHistoryBy next_call heard → length heard ≡ total w.disks (on heard)
  total_is heard is = history_total next_call w.disks (λ xs x answers. (answer_due (on xs) x answers).below) heard is

  each_is : (heard : List (Answered A)) → IsHistoryBy next_call heard → (e : ℕ) → length (on heard e) ≤ 9
  each_is heard is = history_each next_call 9 (λ xs x answers. (answer_due (on xs) x answers).short) heard is

  pub bound : (heard : List (Answered A)) → IsHistoryBy next_call heard → length heard ≤ 9 * w.disks
  bound heard is = omega (arith, total_bound w.disks 9 (on heard) (λ e l. each_is heard is e), total_is heard is)

  pub going : (heard : List (Answered A)) (d : ℕ) → IsHistoryBy next_call heard → stands (on heard) ≡ Due d → length heard < 9 * w.disks
  going heard d is due =
      let here = due_is (on heard) d due in
      omega (arith, total_below w.disks 9 (on heard) d (λ e l. each_is heard is e) here.below here.short, total_is heard is)
