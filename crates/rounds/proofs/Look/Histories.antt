-- A history of a look by its last answer: two calls a disk, and the call that is due.
use Rattle.std.specs.Prelude.{nat_lt, is_some, option_and_then, if◌then◌else◌}
use Rattle.std.proofs.Common.{ℕ, ◌*◌, ◌<◌, ◌≤◌, ◌≡◌, Bool, true, false, not, Option, Some, None, List, [], ◌∷◌, ◌++◌, length, refl, sym, subst, ap, ◌∙◌, arith, length-append}
use Rattle.std.proofs.lemmas.Bool.{and_parts, ltb-true, le-ltb}
use Rattle.disk.specs.Disk as device
use Rattle.torn_block.specs.Layout.{cluster_version}
use Rattle.torn_block.specs.declared.layout.TheConstants.{ROW_LENGTH}
use Rattle.paxos_block.specs.Places.{row_place}
use Rattle.attempt.specs.Answers.{Heard, Booted, Done, Told, Fault, Answered, Answers, on, is_bad, all_good, boot_of, told}
use Rattle.attempt.specs.History.{Fits, IsAnswerTo}
use Rattle.attempt.specs.Looking.{OnlyReads}
use Rattle.attempt.specs.Numbers.{first_below}
use Rattle.attempt.proofs.Firsts.{some_below}
use Rattle.attempt.proofs.Hearing.{by_history}
use Rattle.attempt.proofs.Lists.{good_more, get_last}
use Rattle.attempt.proofs.More.{by_disk, on_more}
use Rattle.attempt.proofs.Totals.{total, total_bound, total_below, history_total, history_each}
use Rattle.rounds.specs.Look.History.{IsHistory}
use Rattle.rounds.specs.Look.Status.{Setup, Status, Due, Ended, Unmarked, NoMajority, status, asking, visited, marked_on, are_unmarked, are_too_few, waits, mark_of, row_of, due_or, told_on, unless_told, call_on, next_in, next_call}

-- WHAT A STATUS SAYS

-- a call is due on the disk that is visited
told_due : (d e : ℕ) (o : Option (List ℕ)) (rest : Status) → told_on e o rest ≡ Due d → rest ≡ Due d
told_due d e None rest is = is
told_due d e (Some value) rest is = absurd (cc)

unless_due : (f : Answers) (d : ℕ) (o : Option ℕ) (rest : Status) → unless_told f o rest ≡ Due d → rest ≡ Due d
unless_due f d None rest is = is
unless_due f d (Some e) rest is = told_due d e (mark_of (f e)) rest is

asking_due : (d : ℕ) (b few : Bool) (o : Option ℕ) → (if b then Ended Unmarked else if few then Ended NoMajority else due_or o (Ended NoMajority)) ≡ Due d → o ≡ Some d
asking_due d true few o is = absurd (cc)
asking_due d false true o is = absurd (cc)
asking_due d false false None is = absurd (cc)
asking_due d false false (Some e) is = cc

-- THE CALL THAT IS DUE

-- one of the cluster's disks, with calls to come
pub record IsDue (s : Setup) (f : Answers) (d : ℕ) : Type 0 where
  pub below : d < s.disks
  pub good : all_good (f d) ≡ true
  pub short : length (f d) < 2

visited_is : (s : Setup) (f : Answers) (d : ℕ) (b : Bool) → waits (f s.first) ≡ b → s.first < s.disks → (if b then Some s.first else first_below s.disks (λ e. waits (f e))) ≡ Some d → (d < s.disks) × (waits (f d) ≡ true)
visited_is s f d true waiting first is =
    let same : s.first ≡ d = cc in
    (subst (λ (e : ℕ). e < s.disks) same first, subst (λ (e : ℕ). waits (f e) ≡ true) same waiting)
visited_is s f d false waiting first is = let found = some_below s.disks (λ e. waits (f e)) d is in (found.below, found.passes)

pub due_is : (s : Setup) (f : Answers) (d : ℕ) → s.first < s.disks → status s f ≡ Due d → IsDue s f d
due_is s f d first due =
    let there : visited s f ≡ Some d = asking_due d (are_unmarked s f) (are_too_few s f) (visited s f) (unless_due f d (marked_on s f) (asking s f) due) in
    let both = visited_is s f d (waits (f s.first)) refl first there in
    let parts = and_parts (all_good (f d)) (nat_lt (length (f d)) 2) both.1 in
    record { below = both.0; good = parts.0; short = ltb-true (length (f d)) 2 parts.1 }

pub has_call : (s : Setup) (f : Answers) (d : ℕ) → status s f ≡ Due d → (call : device.Call) × (next_call s f ≡ Some (d, call))
has_call s f d due = (call_on s (f d), ap (next_in s f) due)

-- an answer to the call that is due is of its disk, and fits it
pub record IsAnswerDue (s : Setup) (f : Answers) (x : Answered) : Type 0 where
  pub due : status s f ≡ Due x.disk
  pub fits : Fits (call_on s (f x.disk)) x.heard

answered_by : (s : Setup) (f : Answers) (st : Status) (x : Answered) → IsAnswerTo (next_in s f st) x → (st ≡ Due x.disk) × Fits (call_on s (f x.disk)) x.heard
answered_by s f (Due d) x answers = (ap Due (sym answers.0), subst (λ (e : ℕ). Fits (call_on s (f e)) x.heard) (sym answers.0) answers.1)
answered_by s f (Ended end) x answers = absurd answers

pub answer_due : (s : Setup) (f : Answers) (x : Answered) → IsAnswerTo (next_call s f) x → IsAnswerDue s f x
answer_due s f x answers = let both = answered_by s f (status s f) x answers in record { due = both.0; fits = both.1 }

-- NOTHING IS WRITTEN

reads_by : (b : Bool) (boot place len : ℕ) → OnlyReads (if b then device.Attach else device.Read boot place len)
reads_by true boot place len = tt
reads_by false boot place len = tt

reads_in : (s : Setup) (f : Answers) (d : ℕ) (call : device.Call) (st : Status) → next_in s f st ≡ Some (d, call) → OnlyReads call
reads_in s f d call (Due e) is =
    let pair : (e, call_on s (f e)) ≡ (d, call) = cc in
    let P : ℕ × device.Call → device.Call = λ p. p.1 in
    let same : call_on s (f e) ≡ call = ap P pair in
    subst OnlyReads same (reads_by (nat_lt (length (f e)) 1) (boot_of (f e)) (row_place cluster_version s.slot) ROW_LENGTH)
reads_in s f d call (Ended end) is = absurd (cc)

pub reads : (s : Setup) (f : Answers) (d : ℕ) (call : device.Call) → next_call s f ≡ Some (d, call) → OnlyReads call
reads s f d call is = reads_in s f d call (status s f) is

-- HOW MANY

module _ (s : Setup) (first : s.first < s.disks) where
  due_at : (xs : List Answered) (x : Answered) → IsAnswerTo (next_call s (on xs)) x → IsDue s (on xs) x.disk
  due_at xs x answers = due_is s (on xs) x.disk first (answer_due s (on xs) x answers).due

  total_is : (heard : List Answered) → IsHistory s heard → length heard ≡ total s.disks (on heard)
  total_is heard is = history_total (next_call s) s.disks (λ xs x answers. (due_at xs x answers).below) heard is

  pub each_is : (heard : List Answered) → IsHistory s heard → (e : ℕ) → length (on heard e) ≤ 2
  each_is heard is = history_each (next_call s) 2 (λ xs x answers. (due_at xs x answers).short) heard is

  pub bound : (heard : List Answered) → IsHistory s heard → length heard ≤ 2 * s.disks
  bound heard is = omega (arith, total_bound s.disks 2 (on heard) (λ e l. each_is heard is e), total_is heard is)

  pub going : (heard : List Answered) (d : ℕ) → IsHistory s heard → status s (on heard) ≡ Due d → length heard < 2 * s.disks
  going heard d is due =
      let here = due_is s (on heard) d first due in
      omega (arith, total_below s.disks 2 (on heard) d (λ e l. each_is heard is e) here.below here.short, total_is heard is)

  -- WHAT A DISK HAS SAID

  -- where both its answers are good, the second is a row
  abbrev pub IsRead : List Heard → Type 0
  IsRead a = all_good a ≡ true → 2 ≤ length a → is_some (row_of a) ≡ true

  -- the answer to a read is a row, if it is good
  row_told : (boot place len : ℕ) (x : Heard) → Fits (device.Read boot place len) x → is_bad x ≡ false → is_some (told x) ≡ true
  row_told boot place len (Told (Some row)) fits good = refl
  row_told boot place len (Told None) fits good = absurd (cc)
  row_told boot place len (Fault fault) fits good = absurd (cc)
  row_told boot place len (Booted b) fits good = absurd fits
  row_told boot place len Done fits good = absurd fits

  read_next : (a : List Heard) (x : Heard) → length a < 2 → Fits (call_on s a) x → IsRead (a ++ x ∷ [])
  read_next a x short fits good long =
      let one : length a ≡ 1 = omega (arith, length-append a (x ∷ []), long) in
      let late : nat_lt (length a) 1 ≡ false = le-ltb (length a) 1 (omega arith) in
      let read = subst (λ (b : Bool). Fits (if b then device.Attach else device.Read (boot_of a) (row_place cluster_version s.slot) ROW_LENGTH) x) late fits in
      let parts = and_parts (all_good a) (not (is_bad x)) (sym (good_more a x) ∙ good) in
      ap (λ (o : Option Heard). is_some (option_and_then told o)) (get_last a x 1 (sym one))
      ∙ row_told (boot_of a) (row_place cluster_version s.slot) ROW_LENGTH x read (not_true (is_bad x) parts.1)
    where
      not_true : (b : Bool) → not b ≡ true → b ≡ false
      not_true true is = absurd (cc)
      not_true false is = refl

  all_read_next : (xs : List Answered) (x : Answered) → ((e : ℕ) → IsRead (on xs e)) → IsAnswerTo (next_call s (on xs)) x → (e : ℕ) → IsRead (on (xs ++ x ∷ []) e)
  all_read_next xs x before answers =
      let is = answer_due s (on xs) x answers in
      subst (λ (f : Answers). (e : ℕ) → IsRead (f e)) (sym (on_more xs x))
      (by_disk (on xs) x.disk x.heard (λ e a. IsRead a) (read_next (on xs x.disk) x.heard (due_at xs x answers).short is.fits) (λ e off. before e))

  pub all_read : (heard : List Answered) → IsHistory s heard → (e : ℕ) → IsRead (on heard e)
  all_read heard is = by_history (next_call s) (λ l. (e : ℕ) → IsRead (on l e)) all_read_next (λ e good long. absurd (omega arith)) heard is
