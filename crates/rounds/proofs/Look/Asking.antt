-- How a look goes on with an answer: what is kept follows from the answers with one more.
use Rattle.std.specs.Prelude.{◌&&◌, ◌-◌, nat_lt, is_some, if◌then◌else◌, option_and_then}
use Rattle.std.specs.Option.{option_map}
use Rattle.std.proofs.Common.{ℕ, zero, suc, ◌+◌, ◌*◌, ◌<◌, ◌≤◌, ◌≡◌, ◌≢◌, Bool, true, false, cond, not, Option, Some, None, List, [], ◌∷◌, ◌++◌, length, refl, sym, subst, ap, ◌∙◌, arith, inl, inr}
use Rattle.std.proofs.lemmas.Bool.{cases_eq, cases_lt, lt-ltb, le-ltb, le-leb, lt-leb}
use Rattle.disk.specs.Disk as device
use Rattle.disk.specs.declared.boot.Boot.{Boot}
use Rattle.torn_block.specs.Layout.{cluster_version}
use Rattle.paxos_block.specs.Row.{DecodedBlock}
use Rattle.paxos_block.specs.Votes.{marked_in}
use Rattle.attempt.specs.Answers.{Heard, Booted, Done, Told, Fault, Answers, more, is_bad, all_good}
use Rattle.attempt.specs.Numbers.{count, first_below}
use Rattle.attempt.proofs.Firsts.{below_none, below_some, count_same}
use Rattle.attempt.proofs.Lists.{bad_more}
use Rattle.attempt.proofs.More.{more_here, more_there}
use Rattle.rounds.specs.Look.Status.{Setup, Due, Ended, Decided, Unmarked, NoMajority, status, asking, visited, marked_on, are_unmarked, are_too_few, waits, mark_of, shows_no_mark, row_of, due_or, told_on, unless_told, call_on, next_in, next_call}
use Rattle.rounds.specs.Look.Kept.{AreAsked, IsAsking, IsPast, IsAt, Follows, Stands, setup_of, disk_at, disk_of, turn_of, call_at, call_due, end_of, end_of_status}
use Rattle.rounds.specs.declared.looks.end.End as code_end
use Rattle.rounds.specs.declared.looks.notes.Notes.{Notes}
use Rattle.rounds.specs.declared.looks.notes.Stage.{Stage}
use Rattle.rounds.specs.declared.looks.notes.Stage.TheVariants as stage
use Rattle.rounds.proofs.Look.Counting.{count_one_more}
use Rattle.rounds.proofs.Look.Turns.{turn_at, turn_first, disk_of_turn, at_inside, lower_before}

-- WHERE IT STANDS

module _ (s : Setup) (f : Answers) where
  -- where no disk has shown a mark
  pub no_mark_seen : ((d : ℕ) → d < s.disks → mark_of (f d) ≡ None) → marked_on s f ≡ None
  no_mark_seen none = below_none s.disks (λ d. is_some (mark_of (f d))) (λ d l. ap (λ (o : Option (List ℕ)). is_some o) (none d l))

  pub by_asking : marked_on s f ≡ None → status s f ≡ asking s f
  by_asking none = ap (λ (o : Option ℕ). unless_told f o (asking s f)) none

  asking_by : (b : Bool) → are_unmarked s f ≡ b → asking s f ≡ (if b then Ended Unmarked else if are_too_few s f then Ended NoMajority else due_or (visited s f) (Ended NoMajority))
  asking_by b is = ap (λ (t : Bool). if t then Ended Unmarked else if are_too_few s f then Ended NoMajority else due_or (visited s f) (Ended NoMajority)) is

  pub ends_unmarked : marked_on s f ≡ None → are_unmarked s f ≡ true → status s f ≡ Ended Unmarked
  ends_unmarked none most = by_asking none ∙ asking_by true most

  few_by : (b : Bool) → are_too_few s f ≡ b → (if are_too_few s f then Ended NoMajority else due_or (visited s f) (Ended NoMajority)) ≡ (if b then Ended NoMajority else due_or (visited s f) (Ended NoMajority))
  few_by b is = ap (λ (t : Bool). if t then Ended NoMajority else due_or (visited s f) (Ended NoMajority)) is

  pub gives_up : marked_on s f ≡ None → are_unmarked s f ≡ false → are_too_few s f ≡ true → status s f ≡ Ended NoMajority
  gives_up none few failed = by_asking none ∙ asking_by false few ∙ few_by true failed

  pub goes_on : (d : ℕ) → marked_on s f ≡ None → are_unmarked s f ≡ false → are_too_few s f ≡ false → visited s f ≡ Some d → status s f ≡ Due d
  goes_on d none few enough next = by_asking none ∙ asking_by false few ∙ few_by false enough ∙ ap (λ (v : Option ℕ). due_or v (Ended NoMajority)) next

  pub one_tells : (d : ℕ) (value : List ℕ) → marked_on s f ≡ Some d → mark_of (f d) ≡ Some value → status s f ≡ Ended (Decided d value)
  one_tells d value there mark =
      ap (λ (o : Option ℕ). unless_told f o (asking s f)) there ∙ ap (λ (o : Option (List ℕ)). told_on d o (asking s f)) mark

-- A DISK THAT IS DONE WITH

module _ (s : Setup) (f : Answers) (asked unmarked : ℕ) (are : AreAsked s f asked unmarked) (ahead : (d : ℕ) → asked ≤ turn_of s.first d → f d ≡ []) where
  all_unmarked : (d : ℕ) → d < s.disks → mark_of (f d) ≡ None
  all_unmarked d l = elim (cases_lt (turn_of s.first d) asked) [
    | inl before ↦ (are.past d l before).no_mark
    | inr later ↦ ap mark_of (ahead d later) ∙ refl
  ]

  most_by : s.disks < 2 * unmarked → are_unmarked s f ≡ true
  most_by most = lt-ltb s.disks (2 * count s.disks (λ d. shows_no_mark (f d))) (let c = are.shown in omega arith)

  many_by : 2 * unmarked ≤ s.disks → are_unmarked s f ≡ false
  many_by few = le-ltb s.disks (2 * count s.disks (λ d. shows_no_mark (f d))) (let c = are.shown in omega arith)

  failed_by : s.disks ≤ 2 * (asked - unmarked) → are_too_few s f ≡ true
  failed_by many = le-leb s.disks (2 * count s.disks (λ d. not (all_good (f d)))) (let c = are.failed in omega arith)

  pub is_unmarked : s.disks < 2 * unmarked → status s f ≡ Ended Unmarked
  is_unmarked most = ends_unmarked s f (no_mark_seen s f all_unmarked) (most_by most)

  pub is_over : 2 * unmarked ≤ s.disks → s.disks ≤ 2 * (asked - unmarked) → status s f ≡ Ended NoMajority
  is_over few many = gives_up s f (no_mark_seen s f all_unmarked) (many_by few) (failed_by many)

-- A CALL IS DUE

module _ (f : Answers) (n : Notes) (is : IsAsking f n) (first : n.first < n.disks) (asks : n.asked < n.disks) where
  abbrev of : Setup
  of = setup_of n

  pub asks_inside : disk_of n < n.disks
  asks_inside = at_inside n.first n.disks n.asked first asks

  -- the disk that is asked has answered no more than its boot number
  short_by : (st : Stage) (a : List Heard) → IsAt st a → (waits a ≡ true) × (mark_of a ≡ None) × (shows_no_mark a ≡ false) × (all_good a ≡ true)
  short_by stage.Attaching a at = (ap waits at ∙ refl, ap mark_of at ∙ refl, ap shows_no_mark at ∙ refl, ap all_good at ∙ refl)
  short_by (stage.Reading boot) a at = (ap waits at ∙ refl, ap mark_of at ∙ refl, ap shows_no_mark at ∙ refl, ap all_good at ∙ refl)

  pub short : (waits (f (disk_of n)) ≡ true) × (mark_of (f (disk_of n)) ≡ None) × (shows_no_mark (f (disk_of n)) ≡ false) × (all_good (f (disk_of n)) ≡ true)
  short = short_by n.stage (f (disk_of n)) is.here

  -- another disk has shown no mark
  pub unmarked_there : (d : ℕ) → d < n.disks → d ≢ disk_of n → mark_of (f d) ≡ None
  unmarked_there d l off = elim (cases_lt (turn_of n.first d) n.asked) [
    | inl before ↦ (is.before.past d l before).no_mark
    | inr later ↦ elim (cases_eq (turn_of n.first d) n.asked) [
      | inl same ↦ absurd (off (disk_of_turn n.first d n.asked same))
      | inr other ↦ ap mark_of (is.ahead d (omega arith)) ∙ refl
    ]
  ]

  unmarked_all : (d : ℕ) → d < n.disks → mark_of (f d) ≡ None
  unmarked_all d l = elim (cases_eq d (disk_of n)) [
    | inl same ↦ ap (λ (e : ℕ). mark_of (f e)) same ∙ short.1
    | inr off ↦ unmarked_there d l off
  ]

  visited_at : (k : ℕ) → n.asked ≡ k → visited of f ≡ Some (disk_at n.first k)
  visited_at zero at =
      ap (λ (t : Bool). if t then Some n.first else first_below n.disks (λ d. waits (f d))) (ap (λ (k : ℕ). waits (f (disk_at n.first k))) (sym at) ∙ short.0)
  visited_at (suc k) at =
      let begun = is.before.past n.first first (let zero_is = turn_first n.first in omega (arith, zero_is, at)) in
      ap (λ (t : Bool). if t then Some n.first else first_below n.disks (λ d. waits (f d))) begun.done
      ∙ below_some n.disks (λ d. waits (f d)) (disk_at n.first (suc k))
      (record {
        below = at_inside n.first n.disks (suc k) first (omega (arith, at));
        passes = ap (λ (j : ℕ). waits (f (disk_at n.first j))) (sym at) ∙ short.0;
        none = λ e l. (is.before.past e (let inside = at_inside n.first n.disks (suc k) first (omega (arith, at)) in omega arith) (let before = lower_before n.first k e l in omega (arith, at))).done;
      })

  pub due_here : status of f ≡ Due (disk_of n)
  due_here =
      goes_on of f (disk_of n) (no_mark_seen of f unmarked_all)
      (le-ltb n.disks (2 * count n.disks (λ d. shows_no_mark (f d))) (let c = is.before.shown in let few = is.few in omega arith))
      (lt-leb n.disks (2 * count n.disks (λ d. not (all_good (f d)))) (let c = is.before.failed in let enough = is.enough in omega arith))
      (visited_at n.asked refl)

  -- and this is the call
  call_by : (st : Stage) (a : List Heard) → IsAt st a → call_on of a ≡ call_at st n.slot
  call_by stage.Attaching a at = ap (call_on of) at ∙ refl
  call_by (stage.Reading boot) a at = ap (call_on of) at ∙ refl

  pub call_is : next_call of f ≡ Some (call_due n)
  call_is = ap (next_in of f) due_here ∙ ap (λ (c : device.Call). Some (disk_of n, c)) (call_by n.stage (f (disk_of n)) is.here)

  -- ONE ANSWER MORE

  module _ (x : Heard) where
    abbrev g : Answers
    g = more f (disk_of n) x

    here : g (disk_of n) ≡ f (disk_of n) ++ x ∷ []
    here = more_here f (disk_of n) x

    there : (e : ℕ) → e ≢ disk_of n → g e ≡ f e
    there e off = more_there f (disk_of n) x e off

    off_turn : (e : ℕ) → turn_of n.first e ≢ n.asked → e ≢ disk_of n
    off_turn e other = λ same. other (ap (turn_of n.first) same ∙ turn_at n.first n.asked)

    past_before : (e : ℕ) → e < n.disks → turn_of n.first e < n.asked → IsPast (g e)
    past_before e l before = subst IsPast (sym (there e (off_turn e (λ same. absurd (omega arith))))) (is.before.past e l before)

    pub ahead_still : (e : ℕ) → n.asked < turn_of n.first e → g e ≡ []
    ahead_still e later = there e (off_turn e (λ same. absurd (omega arith))) ∙ is.ahead e later

    shown_there : (e : ℕ) → e ≢ disk_of n → shows_no_mark (g e) ≡ shows_no_mark (f e)
    shown_there e off = ap shows_no_mark (there e off)

    shown_by : (b : Bool) → shows_no_mark (f (disk_of n) ++ x ∷ []) ≡ b → count n.disks (λ e. shows_no_mark (g e)) ≡ n.unmarked + cond b 1 0
    shown_by true shows =
        count_one_more n.disks (λ e. shows_no_mark (f e)) (λ e. shows_no_mark (g e)) (disk_of n) asks_inside short.2 (ap shows_no_mark here ∙ shows) shown_there
        ∙ ap (λ (k : ℕ). k + 1) is.before.shown
    shown_by false shows =
        count_same n.disks (λ e. shows_no_mark (g e)) (λ e. shows_no_mark (f e))
        (λ e l. elim (cases_eq e (disk_of n)) [
          | inl same ↦ ap (λ (d : ℕ). shows_no_mark (g d)) same ∙ ap shows_no_mark here ∙ shows ∙ sym short.2 ∙ ap (λ (d : ℕ). shows_no_mark (f d)) (sym same)
          | inr off ↦ shown_there e off
        ])
        ∙ is.before.shown ∙ omega arith

    bad_there : (e : ℕ) → e ≢ disk_of n → not (all_good (g e)) ≡ not (all_good (f e))
    bad_there e off = ap (λ (a : List Heard). not (all_good a)) (there e off)

    failed_by_it : (b : Bool) → not (all_good (f (disk_of n) ++ x ∷ [])) ≡ b → count n.disks (λ e. not (all_good (g e))) + n.unmarked ≡ n.asked + cond b 1 0
    failed_by_it true bad =
        let more = count_one_more n.disks (λ e. not (all_good (f e))) (λ e. not (all_good (g e))) (disk_of n) asks_inside (ap not short.3) (ap (λ (a : List Heard). not (all_good a)) here ∙ bad) bad_there in
        let was = is.before.failed in
        omega (arith, more, was)
    failed_by_it false bad =
        let same = count_same n.disks (λ e. not (all_good (g e))) (λ e. not (all_good (f e)))
        (λ e l. elim (cases_eq e (disk_of n)) [
          | inl same ↦ ap (λ (d : ℕ). not (all_good (g d))) same ∙ ap (λ (a : List Heard). not (all_good a)) here ∙ bad ∙ sym (ap not short.3) ∙ ap (λ (d : ℕ). not (all_good (f d))) (sym same)
          | inr off ↦ bad_there e off
        ]) in
        let was = is.before.failed in
        omega (arith, same, was)

    -- the answer was not the last on its disk
    pub stays : (st : Stage) → shows_no_mark (f (disk_of n) ++ x ∷ []) ≡ false → not (all_good (f (disk_of n) ++ x ∷ [])) ≡ false → IsAt st (f (disk_of n) ++ x ∷ []) → IsAsking g (record n { stage = st })
    stays st shows good at = record {
      before = record { past = past_before; shown = shown_by false shows ∙ omega arith; failed = failed_by_it false good ∙ omega arith };
      ahead = ahead_still;
      few = is.few;
      enough = is.enough;
      here = subst (IsAt st) (sym here) at;
    }

    -- it was: a sound row without a mark, or a bad answer
    pub passes : (b : Bool) → IsPast (f (disk_of n) ++ x ∷ []) → shows_no_mark (f (disk_of n) ++ x ∷ []) ≡ b → not (all_good (f (disk_of n) ++ x ∷ [])) ≡ not b → (unmarked : ℕ) → unmarked ≡ n.unmarked + cond b 1 0 → AreAsked of g (n.asked + 1) unmarked
    passes b done shows good unmarked is_so = record {
      past = λ e l before. elim (cases_lt (turn_of n.first e) n.asked) [
        | inl sooner ↦ past_before e l sooner
        | inr now ↦
            (let at = disk_of_turn n.first e n.asked (omega arith) in
            subst (λ (d : ℕ). IsPast (g d)) (sym at) (subst IsPast (sym here) done))
      ];
      shown = shown_by b shows ∙ sym is_so;
      failed = together b (failed_by_it (not b) good) is_so;
    }
      where
        together : (t : Bool) → count n.disks (λ e. not (all_good (g e))) + n.unmarked ≡ n.asked + cond (not t) 1 0 → unmarked ≡ n.unmarked + cond t 1 0 → count n.disks (λ e. not (all_good (g e))) + unmarked ≡ n.asked + 1
        together true failed shown = omega (arith, failed, shown)
        together false failed shown = omega (arith, failed, shown)

    -- a mark was seen
    pub tells : (value : List ℕ) → mark_of (f (disk_of n) ++ x ∷ []) ≡ Some value → status of g ≡ Ended (Decided (disk_of n) value)
    tells value mark =
        let seen : mark_of (g (disk_of n)) ≡ Some value = ap mark_of here ∙ mark in
        one_tells of g (disk_of n) value
        (below_some n.disks (λ d. is_some (mark_of (g d))) (disk_of n)
        (record {
          below = asks_inside;
          passes = ap (λ (o : Option (List ℕ)). is_some o) seen;
          none = λ e l. ap (λ (o : Option (List ℕ)). is_some o) (ap mark_of (there e (λ same. absurd (omega arith))) ∙ unmarked_there e (let inside = asks_inside in omega arith) (λ same. absurd (omega arith)));
        }))
        seen

-- WHAT AN ANSWER MAKES OF WHAT IS KEPT

module _ (f : Answers) (n : Notes) (is : Follows f n) (going : n.end ≡ None) (first : n.first < n.disks) (asks : n.asked < n.disks) where
  pub v : IsAsking f n
  v = subst (Stands f n) going is

  at : (st : Stage) → n.stage ≡ st → IsAt st (f (disk_of n))
  at st same = subst (λ (q : Stage). IsAt q (f (disk_of n))) same v.here

  -- the disk was attached
  pub attaches : n.stage ≡ stage.Attaching → (boot : Boot) → Follows (more f (disk_of n) (Booted boot.number)) (record n { stage = stage.Reading boot })
  attaches st boot =
      let x : Heard = Booted boot.number in
      let now : f (disk_of n) ++ x ∷ [] ≡ x ∷ [] = ap (λ (a : List Heard). a ++ x ∷ []) (at stage.Attaching st) in
      subst (Stands (more f (disk_of n) x) (record n { stage = stage.Reading boot })) (sym going)
      (stays f n v first asks x (stage.Reading boot) (ap shows_no_mark now ∙ refl) (ap (λ (a : List Heard). not (all_good a)) now ∙ refl) now)

  -- a bad answer
  bad_row : (x : Heard) → is_bad x ≡ true → option_and_then (marked_in cluster_version) (row_of (Done ∷ x ∷ [])) ≡ None
  bad_row (Booted boot) bad = absurd (cc)
  bad_row Done bad = absurd (cc)
  bad_row (Told None) bad = refl
  bad_row (Told (Some row)) bad = absurd (cc)
  bad_row (Fault fault) bad = refl

  bad_shows : (x : Heard) → is_bad x ≡ true → shows_no_mark (Done ∷ x ∷ []) ≡ false
  bad_shows (Booted boot) bad = absurd (cc)
  bad_shows Done bad = absurd (cc)
  bad_shows (Told None) bad = refl
  bad_shows (Told (Some row)) bad = absurd (cc)
  bad_shows (Fault fault) bad = refl

  bad_by : (x : Heard) → is_bad x ≡ true → (st : Stage) → IsAt st (f (disk_of n)) → (mark_of (f (disk_of n) ++ x ∷ []) ≡ None) × (shows_no_mark (f (disk_of n) ++ x ∷ []) ≡ false)
  bad_by x bad stage.Attaching here =
      let now : f (disk_of n) ++ x ∷ [] ≡ x ∷ [] = ap (λ (a : List Heard). a ++ x ∷ []) here in
      (ap mark_of now ∙ refl, ap shows_no_mark now ∙ refl)
  bad_by x bad (stage.Reading boot) here =
      let now : f (disk_of n) ++ x ∷ [] ≡ Booted boot.number ∷ x ∷ [] = ap (λ (a : List Heard). a ++ x ∷ []) here in
      (ap mark_of now ∙ bad_row x bad, ap shows_no_mark now ∙ bad_shows x bad)

  pub drops : (x : Heard) → is_bad x ≡ true → AreAsked (setup_of n) (more f (disk_of n) x) (n.asked + 1) n.unmarked
  drops x bad =
      let both = bad_by x bad n.stage v.here in
      passes f n v first asks x false
      (record { done = ap (λ (b : Bool). b && nat_lt (length (f (disk_of n) ++ x ∷ [])) 2) (bad_more (f (disk_of n)) x bad); no_mark = both.0 })
      both.1 (ap not (bad_more (f (disk_of n)) x bad)) n.unmarked (omega arith)

  pub ahead : (x : Heard) (e : ℕ) → n.asked < turn_of n.first e → more f (disk_of n) x e ≡ []
  ahead x = ahead_still f n v first asks x

  -- a row was read
  module _ (boot : Boot) (st : n.stage ≡ stage.Reading boot) (row : List DecodedBlock) where
    abbrev told : Heard
    told = Told (Some row)

    two_are : f (disk_of n) ++ told ∷ [] ≡ Booted boot.number ∷ told ∷ []
    two_are = ap (λ (a : List Heard). a ++ told ∷ []) (at (stage.Reading boot) st)

    pub sees : (value : List ℕ) → marked_in cluster_version row ≡ Some value → status (setup_of n) (more f (disk_of n) told) ≡ Ended (Decided (disk_of n) value)
    sees value mark = tells f n v first asks told value (ap mark_of two_are ∙ mark)

    pub sees_none : marked_in cluster_version row ≡ None → (unmarked : ℕ) → unmarked ≡ n.unmarked + 1 → AreAsked (setup_of n) (more f (disk_of n) told) (n.asked + 1) unmarked
    sees_none none unmarked is_so =
        passes f n v first asks told true
        (record { done = ap waits two_are ∙ refl; no_mark = ap mark_of two_are ∙ none })
        (ap shows_no_mark two_are ∙ ap (λ (o : Option (List ℕ)). not (is_some o)) none)
        (ap (λ (a : List Heard). not (all_good a)) two_are ∙ refl)
        unmarked is_so

-- how it stands
pub status_is : (f : Answers) (n : Notes) → Follows f n → n.first < n.disks → n.asked < n.disks → option_map end_of n.end ≡ end_of_status (status (setup_of n) f)
status_is f n is first asks = go n.end refl
  where
    go : (e : Option code_end.End) → n.end ≡ e → option_map end_of e ≡ end_of_status (status (setup_of n) f)
    go None going = sym (ap end_of_status (due_here f n (subst (Stands f n) going is) first asks))
    go (Some end) ended = sym (ap end_of_status (subst (Stands f n) ended is))
