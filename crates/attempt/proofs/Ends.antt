-- How an attempt ends that is answered: in how many calls, and by which ends.
use Rattle.std.specs.Prelude.{nat_lt, if◌then◌else◌}
use Rattle.std.proofs.Common.{ℕ, zero, suc, ◌*◌, ◌<◌, ◌≤◌, ◌≡◌, ◌≢◌, ◌==◌, inl, inr, true, false, Option, Some, None, List, length, is_some, refl, sym, subst, ap, ◌∙◌, arith}
use Rattle.std.proofs.lemmas.Bool.{cases_lt, both_ways, lt-ltb, ltb-true}
use Rattle.torn_block.specs.Layout.{Version, hosts_in}
use Rattle.paxos_block.specs.Row.{DecodedBlock}
use Rattle.paxos_block.specs.Votes.{says_in, greatest, highest_mbal, highest_mbal_of_others}
use Rattle.paxos_block.proofs.VoteLemmas.{above, greatest_is_greatest}
use Rattle.attempt.specs.Calls.{Phase, Opening, One, Two, start, goal}
use Rattle.attempt.specs.Answers.{Heard, Answered, Answers, on, row_in}
use Rattle.attempt.specs.Setup.{Setup}
use Rattle.attempt.specs.Numbers.{count}
use Rattle.attempt.specs.Proposal.{top_in, highest, ballot, others_top, others_mbal, proposal, decided}
use Rattle.attempt.specs.Visits.{waits, visited, is_left, are_enough}
use Rattle.attempt.specs.Standing.{IsIn}
use Rattle.attempt.specs.Status.{Status, Due, Ended, Committed, Decided, Empty, Outrun, NoMajority, BallotsSpent, status}
use Rattle.attempt.specs.History.{IsHistory}
use Rattle.attempt.specs.Laws.{AnswersWell, AllAnswerWell, MostAnswerWell, OthersRest, IsServed}
use Rattle.attempt.proofs.Firsts.{none_below}
use Rattle.attempt.proofs.Lists.{by_eq, row_none}
use Rattle.attempt.proofs.Visitors.{waiting_is, waiting_if, left_if}
use Rattle.attempt.proofs.Statuses.{IsDueAt, IsOver, HasFew, HasNone, HasChosen, HasDecided, Tells, told_by, status_tells, enough_more}
use Rattle.attempt.proofs.OneDisk.{IsDisk}
use Rattle.attempt.proofs.Histories.{IsReached, history_reached, visit, all_counted}
use Rattle.attempt.proofs.Totals.{total_bound, total_below, total_exact}

-- DISKS THAT ANSWER WELL

-- who answers well and waits no longer has made all calls of the phase
through : (s : Setup) (p : Phase) (a : List Heard) → AnswersWell s a → start p ≤ length a → waits s p a ≡ false → goal p ≤ length a
through s p a well come still =
    elim (cases_lt (length a) (goal p)) [
      | inl short ↦
          absurd (both_ways (waits s p a) still (waiting_if s p a (record { part = record { good = well.good; come = come }; short = short; unspent = well.unspent p })))
      | inr over ↦ over
    ]

module _ (s : Setup) (f : Answers) (d : ℕ) (below : d < s.disks) (well : AnswersWell s (f d)) where
  -- on a disk that answers well a phase that is over was gone through
  through_on : (p : Phase) → start p ≤ length (f d) → visited s p f ≡ None → goal p ≤ length (f d)
  through_on p come none = through s p (f d) well come (none_below s.disks (λ e. waits s p (f e)) none d below)

  -- it has come to each phase that the attempt has come to
  comes : (p : Phase) → IsIn s p f → start p ≤ length (f d)
  comes Opening come = omega arith
  comes One come = through_on Opening (omega arith) come.over
  comes Two come = through_on One (through_on Opening (omega arith) (come.1).taken.over) (come.1).over

  -- and is left there
  stays_left : (p : Phase) → IsIn s p f → is_left s p f d ≡ true
  stays_left p come = left_if s p (visited s p f) f d (record { good = well.good; come = comes p come }) (well.unspent p)

  -- and has made all calls of a phase that is over
  makes_all : (p : Phase) → IsOver s p f → goal p ≤ length (f d)
  makes_all p over = through_on p (comes p over.come) over.visits

-- with a majority of them there are always enough
enough_well : (s : Setup) (f : Answers) (p : Phase) → MostAnswerWell s f → IsIn s p f → are_enough s (is_left s p f) ≡ true
enough_well s f p good come = enough_more s good.those (is_left s p f) (λ d l is. stays_left s f d l (good.each d l is) p come) good.most

-- so an attempt does not lack them
not_few : (s : Setup) (f : Answers) → MostAnswerWell s f → ¬ HasFew s f
not_few s f good few = both_ways (are_enough s (is_left s few.phase f)) few.few (enough_well s f few.phase good few.come)

-- all of n pass a test that all pass
count_all : (n : ℕ) → count n (λ d. true) ≡ n
count_all zero = refl
count_all (suc n) = omega (arith, count_all n)

-- all disks are a majority where there is a disk
pub most_well : (s : Setup) (f : Answers) → 1 ≤ s.disks → AllAnswerWell s f → MostAnswerWell s f
most_well s f some well =
    record {
      those = λ d. true;
      most = lt-ltb s.disks (2 * count s.disks (λ d. true)) (omega (arith, count_all s.disks));
      each = λ d l is. well d l;
    }

-- THE OTHER HOSTS

-- what bounds each value bounds the greatest
greatest_bound : (n : ℕ) (g : ℕ → ℕ) (most : ℕ) → ((e : ℕ) → e < n → g e ≤ most) → greatest n g ≤ most
greatest_bound zero g most each = omega arith
greatest_bound (suc n) g most each = omega (arith, greatest_bound n g most (λ e l. each e (omega arith)), each n (omega arith))

-- where a phase has a row, so has the opening
has_passed : (p : Phase) (a : List Heard) (row : List DecodedBlock) → IsDisk a → goal Opening < goal p → row_in p a ≡ Some row → is_some (row_in Opening a) ≡ true
has_passed p a row disk later is =
    elim (cases_lt (length a) (goal p)) [
      | inl short ↦ (let none = row_none p a short in absurd (cc))
      | inr over ↦ disk.passed Opening (omega arith)
    ]

-- whichever the phase is
opened_too : (p : Phase) (a : List Heard) (row : List DecodedBlock) → IsDisk a → row_in p a ≡ Some row → is_some (row_in Opening a) ≡ true
opened_too Opening a row disk is = ap is_some is
opened_too One a row disk is = has_passed One a row disk (omega arith) is
opened_too Two a row disk is = has_passed Two a row disk (omega arith) is

-- a row that has the mbal of other hosts that an earlier one had has no greater mbal of another host
rest_top : (v : Version) (host : ℕ) (first later : List DecodedBlock) → ((g : ℕ) → g ≢ host → (says_in later g).mbal ≡ (says_in first g).mbal) → highest_mbal_of_others v host later ≤ highest_mbal v first
rest_top v host first later same =
    greatest_bound (hosts_in v) (λ g. if g == host then 0 else (says_in later g).mbal) (highest_mbal v first) (λ g l.
    by_eq (λ t. (if t then 0 else (says_in later g).mbal) ≤ highest_mbal v first) g host (λ e. omega arith) (λ off.
    let one : (says_in first g).mbal ≤ highest_mbal v first = greatest_is_greatest (hosts_in v) (λ k. (says_in first k).mbal) g l in
    subst (λ (mbal : ℕ). mbal ≤ highest_mbal v first) (sym (same g off)) one))

module _ (s : Setup) (f : Answers) (reached : IsReached s f) (rest : OthersRest s f) (p : Phase) where
  -- what a phase's row of a disk shows of other hosts, its opening's row showed
  top_row : (d : ℕ) (o first : Option (List DecodedBlock)) → row_in p (f d) ≡ o → row_in Opening (f d) ≡ first → others_top s.version s.host o ≤ top_in s.version first
  top_row d None first is before = omega arith
  top_row d (Some later) (Some first) is before = rest_top s.version s.host first later (λ g off. rest p d g first later before is off)
  top_row d (Some later) None is before = absurd (both_ways (is_some (row_in Opening (f d))) (ap is_some before) (opened_too p (f d) later (reached.disk d) is))

  -- so their greatest mbal is below the ballot
  under : others_mbal s p f ≤ highest s f
  under =
      let each = greatest_bound s.disks (λ d. others_top s.version s.host (row_in p (f d))) (greatest s.disks (λ d. top_in s.version (row_in Opening (f d))))
      (λ e l. (let at = greatest_is_greatest s.disks (λ d. top_in s.version (row_in Opening (f d))) e l in omega (arith, top_row e (row_in p (f e)) (row_in Opening (f e)) refl refl))) in
      omega arith

  -- and they do not outrun it
  pub not_above : ¬ (nat_lt (ballot s f) (others_mbal s p f) ≡ true)
  not_above is = let over = above s.version s.host (highest s f) in let less = ltb-true (ballot s f) (others_mbal s p f) is in absurd (omega (arith, under))

-- COUNTING CALLS

-- a phase is over within seventeen calls
pub ends_at : (p : Phase) → goal p ≤ 17
ends_at Opening = omega arith
ends_at One = omega arith
ends_at Two = omega arith

module _ (s : Setup) (heard : List Answered) (is : IsHistory s heard) where
  abbrev f : Answers
  f = on heard

  -- where the history has led
  reached : IsReached s f
  reached = history_reached s heard is

  -- each disk gave at most seventeen answers
  at_most : (e : ℕ) → length (f e) ≤ 17
  at_most e = omega (arith, reached.behind e, ends_at reached.phase)

  -- all gave at most seventeen a disk
  pub bound : length heard ≤ 17 * s.disks
  bound = omega (arith, all_counted s heard is, total_bound s.disks 17 f (λ e l. at_most e))

  -- fewer while the calls of a disk are not through
  going_at : (p : Phase) (d : ℕ) → IsDueAt s p d f → length heard < 17 * s.disks
  going_at p d due =
      let first = visit s p d f due in
      let waiting = waiting_is s p (f d) first.passes in
      let fewer : length (f d) < 17 = omega (arith, waiting.short, ends_at p) in
      omega (arith, all_counted s heard is, total_below s.disks 17 f d (λ e l. at_most e) first.below fewer)

  -- so while a call is due
  pub going : (p : Phase) (d : ℕ) → status s f ≡ Due p d → length heard < 17 * s.disks
  going p d due = going_at p d (told_by s f (Due p d) due)

  -- where all answer well, all calls are made of an attempt whose proposal is chosen
  pub committed : (value : List ℕ) → AllAnswerWell s f → status s f ≡ Ended (Committed value) → length heard ≡ 17 * s.disks
  committed value well ended =
      let chosen : HasChosen s value f = told_by s f (Ended (Committed value)) ended in
      all_counted s heard is
      ∙ total_exact s.disks 17 f (λ d l. (let all = makes_all s f d l (well d l) Two chosen.over in omega (arith, at_most d)))

  -- without a proposal phase 2 was not come to
  before_two : (p : Phase) → proposal s f ≡ None → IsIn s p f → goal p ≤ 10
  before_two Opening none come = omega arith
  before_two One none come = omega arith
  before_two Two none come = let some = (come.1).is in absurd (cc)

  -- and ten a disk of one that finds none
  pub empty : AllAnswerWell s f → status s f ≡ Ended Empty → length heard ≡ 10 * s.disks
  empty well ended =
      let none : HasNone s f = told_by s f (Ended Empty) ended in
      all_counted s heard is
      ∙ total_exact s.disks 10 f (λ d l. (
      let all = makes_all s f d l (well d l) One none.over in
      let last = before_two reached.phase none.none reached.come in
      omega (arith, reached.behind d)))

  -- where something is decided phase 1 was not come to
  before_one : (p : Phase) (value : List ℕ) → decided s f ≡ Some value → IsIn s p f → goal p ≤ 3
  before_one Opening value some come = omega arith
  before_one One value some come = let none = come.undecided in absurd (cc)
  before_one Two value some come = let none = (come.1).taken.undecided in absurd (cc)

  -- and three a disk of one to which a marked block tells the value
  pub decides : (value : List ℕ) → AllAnswerWell s f → status s f ≡ Ended (Decided value) → length heard ≡ 3 * s.disks
  decides value well ended =
      let told : HasDecided s value f = told_by s f (Ended (Decided value)) ended in
      all_counted s heard is
      ∙ total_exact s.disks 3 f (λ d l. (
      let all = makes_all s f d l (well d l) Opening told.over in
      let last = before_one reached.phase value told.decided_is reached.come in
      omega (arith, reached.behind d)))

  -- where most answer well, there is a majority
  pub majority : MostAnswerWell s f → ¬ (status s f ≡ Ended NoMajority)
  majority good ended = not_few s f good (told_by s f (Ended NoMajority) ended)

  -- where the others rest too, none of the other ends comes
  served_by : OthersRest s f → MostAnswerWell s f → (st : Status) → Tells s f st → IsServed s heard st
  served_by rest good (Due p d) tells = going_at p d tells
  served_by rest good (Ended (Committed value)) tells = tt
  served_by rest good (Ended (Decided value)) tells = tt
  served_by rest good (Ended Empty) tells = tt
  served_by rest good (Ended BallotsSpent) tells = tt
  served_by rest good (Ended (Outrun mbal)) tells = not_above s f reached rest tells.phase tells.above
  served_by rest good (Ended NoMajority) tells = not_few s f good tells

  -- an attempt that is left alone is served
  pub served : OthersRest s f → MostAnswerWell s f → IsServed s heard (status s f)
  served rest good = served_by rest good (status s f) (status_tells s f)
