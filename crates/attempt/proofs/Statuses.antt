-- The status of an attempt, case by case: what it tells, and what it follows from.
use Rattle.std.specs.Prelude.{nat_lt, if◌then◌else◌}
use Rattle.std.proofs.Common.{arith, length, ◌≤◌, ℕ, ◌*◌, ◌<◌, ◌≡◌, Bool, true, false, Option, Some, None, List, refl, sym, subst, ap, ap₂, ◌∙◌, arith}
use Rattle.std.proofs.lemmas.Bool.{lt-ltb, ltb-true}
use Rattle.paxos_block.specs.declared.ballot.TheConstants.{LAST_BALLOT}
use Rattle.attempt.specs.Calls.{Phase, Opening, One, Two, start}
use Rattle.attempt.specs.Answers.{Heard, Answers, more}
use Rattle.attempt.specs.Setup.{Setup}
use Rattle.attempt.specs.Numbers.{count}
use Rattle.attempt.specs.Visits.{takes_part, visited, is_left, is_left_at, are_enough}
use Rattle.attempt.specs.Proposal.{ballot, proposal, decided, others_mbal}
use Rattle.attempt.specs.Status.{Status, Due, Ended, Committed, Decided, Empty, Outrun, NoMajority, BallotsSpent, next_or, through, unless_outrun, proposing, voting, promising, balloting, unless_decided, status}
use Rattle.attempt.specs.Standing.{IsIn, NotOutrun, HasBallot, HasProposal}
use Rattle.attempt.proofs.Firsts.{count_below}
use Rattle.attempt.proofs.Rows.{AreSameRows, ballot_same, decided_same, others_same, proposal_same, rows_kept}
use Rattle.attempt.proofs.Visitors.{visited_kept, part_is, part_if, part_before, not_stuck, left_is, left_if}

-- WHERE AN ATTEMPT STANDS

-- a call of a phase is due on a disk
pub record IsDueAt (s : Setup) (p : Phase) (d : ℕ) (f : Answers) : Type 0 where
  pub come : IsIn s p f
  pub not_outrun : NotOutrun s p f
  pub visits : visited s p f ≡ Some d
  pub enough : are_enough s (is_left s p f) ≡ true

-- all calls of a phase were made on enough disks
pub record IsOver (s : Setup) (p : Phase) (f : Answers) : Type 0 where
  pub come : IsIn s p f
  pub not_outrun : NotOutrun s p f
  pub visits : visited s p f ≡ None
  pub enough : are_enough s (is_left s p f) ≡ true

-- in a phase too few disks are left
pub record HasFew (s : Setup) (f : Answers) : Type 0 where
  pub phase : Phase
  pub come : IsIn s phase f
  pub not_outrun : NotOutrun s phase f
  pub few : are_enough s (is_left s phase f) ≡ false

-- another host is faster in phase 1 or 2
pub record IsOutrun (s : Setup) (mbal : ℕ) (f : Answers) : Type 0 where
  pub phase : Phase
  pub come : IsIn s phase f
  pub above : nat_lt (ballot s f) (others_mbal s phase f) ≡ true
  pub mbal_is : others_mbal s phase f ≡ mbal

-- the opening is over, and a marked block tells the value
pub record HasDecided (s : Setup) (value : List ℕ) (f : Answers) : Type 0 where
  pub over : IsOver s Opening f
  pub decided_is : decided s f ≡ Some value

-- the opening is over, and there is no ballot
pub record HasSpent (s : Setup) (f : Answers) : Type 0 where
  pub over : IsOver s Opening f
  pub undecided : decided s f ≡ None
  pub spent : nat_lt LAST_BALLOT (ballot s f) ≡ true

-- phase 1 is over, and there is no proposal
pub record HasNone (s : Setup) (f : Answers) : Type 0 where
  pub over : IsOver s One f
  pub none : proposal s f ≡ None

-- phase 2 is over with its proposal
pub record HasChosen (s : Setup) (value : List ℕ) (f : Answers) : Type 0 where
  pub over : IsOver s Two f
  pub proposal_is : proposal s f ≡ Some value

-- what a status tells
abbrev pub Tells : Setup → Answers → Status → Type 0
Tells s f (Due p d) = IsDueAt s p d f
Tells s f (Ended (Committed value)) = HasChosen s value f
Tells s f (Ended (Decided value)) = HasDecided s value f
Tells s f (Ended Empty) = HasNone s f
Tells s f (Ended (Outrun mbal)) = IsOutrun s mbal f
Tells s f (Ended NoMajority) = HasFew s f
Tells s f (Ended BallotsSpent) = HasSpent s f

-- DISKS LEFT

-- a disk that takes part in a phase is left in the phases before
left_before : (s : Setup) (p q : Phase) (at : Option ℕ) (f : Answers) (d : ℕ) → start q < start p → takes_part p (f d) ≡ true → is_left_at at s q f d ≡ true
left_before s p q at f d less takes =
    let is = part_is p (f d) takes in
    left_if s q at f d (part_before p q (f d) (omega arith) is) (not_stuck s q (f d) (omega (arith, is.come)))

-- where more disks pass, enough do
pub enough_more : (s : Setup) (g h : ℕ → Bool) → ((d : ℕ) → d < s.disks → g d ≡ true → h d ≡ true) → are_enough s g ≡ true → are_enough s h ≡ true
enough_more s g h more enough =
    let less = count_below s.disks g h more in
    let half : s.disks < 2 * count s.disks g = ltb-true s.disks (2 * count s.disks g) enough in
    lt-ltb s.disks (2 * count s.disks h) (omega arith)

-- enough disks take part where enough are left
pub enough_part : (s : Setup) (p : Phase) (f : Answers) → are_enough s (is_left s p f) ≡ true → are_enough s (λ d. takes_part p (f d)) ≡ true
enough_part s p f = enough_more s (is_left s p f) (λ d. takes_part p (f d)) (λ d l left. part_if p (f d) (left_is s p (visited s p f) f d left))

-- enough disks are left in the phases before
abbrev pub EnoughBefore : Setup → Phase → Answers → Type 0
EnoughBefore s Opening f = Unit {0}
EnoughBefore s One f = are_enough s (is_left s Opening f) ≡ true
EnoughBefore s Two f = (are_enough s (is_left s Opening f) ≡ true) × (are_enough s (is_left s One f) ≡ true)

-- enough disks take part: enough were left in each phase before
left_enough : (s : Setup) (p q : Phase) (f : Answers) → start q < start p → are_enough s (λ d. takes_part p (f d)) ≡ true → are_enough s (is_left s q f) ≡ true
left_enough s p q f less = enough_more s (λ d. takes_part p (f d)) (is_left s q f) (λ d l takes. left_before s p q (visited s q f) f d less takes)

-- so it is where enough take part in this one
pub enough_before : (s : Setup) (p : Phase) (f : Answers) → are_enough s (λ d. takes_part p (f d)) ≡ true → EnoughBefore s p f
enough_before s Opening f enough = tt
enough_before s One f enough = left_enough s One Opening f (omega arith) enough
enough_before s Two f enough = (left_enough s Two Opening f (omega arith) enough, left_enough s Two One f (omega arith) enough)

-- WHAT A STATUS TELLS

module _ (s : Setup) (f : Answers) (P : Status → Type 0) where
  -- a phase ends the attempt, or has a call due, or is over
  through_by : (p : Phase) (rest : Status) → (are_enough s (is_left s p f) ≡ false → P (Ended NoMajority)) → ((d : ℕ) → visited s p f ≡ Some d → are_enough s (is_left s p f) ≡ true → P (Due p d)) → (visited s p f ≡ None → are_enough s (is_left s p f) ≡ true → P rest) → P (through s p f rest)
  through_by p rest few here done = go (are_enough s (is_left s p f)) refl (visited s p f) refl
    where
      go : (t : Bool) → are_enough s (is_left s p f) ≡ t → (o : Option ℕ) → visited s p f ≡ o → P (if t then next_or p o rest else Ended NoMajority)
      go false e o eo = few e
      go true e (Some d) eo = here d eo e
      go true e None eo = done eo e

  -- another host is faster, or not
  outrun_by : (p : Phase) (rest : Status) → (nat_lt (ballot s f) (others_mbal s p f) ≡ true → P (Ended (Outrun (others_mbal s p f)))) → (nat_lt (ballot s f) (others_mbal s p f) ≡ false → P rest) → P (unless_outrun s p f rest)
  outrun_by p rest out on = go (nat_lt (ballot s f) (others_mbal s p f)) refl
    where
      go : (t : Bool) → nat_lt (ballot s f) (others_mbal s p f) ≡ t → P (if t then Ended (Outrun (others_mbal s p f)) else rest)
      go true e = out e
      go false e = on e

module _ (s : Setup) (f : Answers) where
  -- a phase tells of itself, and then what comes after it
  tells_through : (p : Phase) (rest : Status) → IsIn s p f → NotOutrun s p f → (IsOver s p f → Tells s f rest) → Tells s f (through s p f rest)
  tells_through p rest come not_outrun next =
      through_by s f (Tells s f) p rest
      (λ few. record { phase = p; come = come; not_outrun = not_outrun; few = few })
      (λ d visits enough. record { come = come; not_outrun = not_outrun; visits = visits; enough = enough })
      (λ visits enough. next (record { come = come; not_outrun = not_outrun; visits = visits; enough = enough }))

  -- phase 2
  tells_voting : (value : List ℕ) → proposal s f ≡ Some value → IsOver s One f → Tells s f (voting s f value)
  tells_voting value is over =
      let come : IsIn s Two f = (value, record { taken = over.come; over = over.visits; not_outrun = over.not_outrun; is = is }) in
      outrun_by s f (Tells s f) Two (through s Two f (Ended (Committed value)))
      (λ above. record { phase = Two; come = come; above = above; mbal_is = refl })
      (λ below. tells_through Two (Ended (Committed value)) come below (λ done. record { over = done; proposal_is = is }))

  -- the proposal
  tells_proposing : IsOver s One f → (o : Option (List ℕ)) → proposal s f ≡ o → Tells s f (proposing o (voting s f))
  tells_proposing over None is = record { over = over; none = is }
  tells_proposing over (Some value) is = tells_voting value is over

  -- phase 1
  tells_promising : HasBallot s f → Tells s f (promising s f)
  tells_promising come =
      outrun_by s f (Tells s f) One (through s One f (proposing (proposal s f) (voting s f)))
      (λ above. record { phase = One; come = come; above = above; mbal_is = refl })
      (λ below. tells_through One (proposing (proposal s f) (voting s f)) come below (λ over. tells_proposing over (proposal s f) refl))

  -- the ballot
  tells_ballot : IsOver s Opening f → decided s f ≡ None → (t : Bool) → nat_lt LAST_BALLOT (ballot s f) ≡ t → Tells s f (if t then Ended BallotsSpent else promising s f)
  tells_ballot over none true is = record { over = over; undecided = none; spent = is }
  tells_ballot over none false is = tells_promising (record { over = over.visits; undecided = none; fits = is })

  -- what is decided
  tells_decided : IsOver s Opening f → (o : Option (List ℕ)) → decided s f ≡ o → Tells s f (unless_decided o (balloting s f))
  tells_decided over None is = tells_ballot over is (nat_lt LAST_BALLOT (ballot s f)) refl
  tells_decided over (Some value) is = record { over = over; decided_is = is }

  -- the status tells where the attempt stands
  pub status_tells : Tells s f (status s f)
  status_tells = tells_through Opening (unless_decided (decided s f) (balloting s f)) tt tt (λ over. tells_decided over (decided s f) refl)

  -- and so any status that it is
  pub told_by : (st : Status) → status s f ≡ st → Tells s f st
  told_by st is = subst (Tells s f) is status_tells

  -- where a call is due
  pub due_is : (p : Phase) (d : ℕ) → status s f ≡ Due p d → IsDueAt s p d f
  due_is p d is = told_by (Due p d) is

-- WHAT A STATUS FOLLOWS FROM

module _ (s : Setup) (f : Answers) where
  -- a phase, by its two tests
  through_is : (p : Phase) (rest : Status) (enough : Bool) (at : Option ℕ) → are_enough s (is_left s p f) ≡ enough → visited s p f ≡ at → through s p f rest ≡ (if enough then next_or p at rest else Ended NoMajority)
  through_is p rest enough at is here = ap₂ (λ (t : Bool) (o : Option ℕ). if t then next_or p o rest else Ended NoMajority) is here

  -- the other hosts, by theirs
  outrun_is : (p : Phase) (rest : Status) (above : Bool) → nat_lt (ballot s f) (others_mbal s p f) ≡ above → unless_outrun s p f rest ≡ (if above then Ended (Outrun (others_mbal s p f)) else rest)
  outrun_is p rest above is = ap (λ (t : Bool). if t then Ended (Outrun (others_mbal s p f)) else rest) is

  -- the ballot, by its own
  ballot_is : (spent : Bool) → nat_lt LAST_BALLOT (ballot s f) ≡ spent → balloting s f ≡ (if spent then Ended BallotsSpent else promising s f)
  ballot_is spent is = ap (λ (t : Bool). if t then Ended BallotsSpent else promising s f) is

  -- what is decided, by what is
  decided_is : (o : Option (List ℕ)) → decided s f ≡ o → unless_decided (decided s f) (balloting s f) ≡ unless_decided o (balloting s f)
  decided_is o is = ap (λ (value : Option (List ℕ)). unless_decided value (balloting s f)) is

  -- what comes after a phase
  abbrev rest : (p : Phase) → IsIn s p f → Status
  rest Opening come = unless_decided (decided s f) (balloting s f)
  rest One come = proposing (proposal s f) (voting s f)
  rest Two come = Ended (Committed come.0)

  -- a phase, and what comes after it
  abbrev standing : (p : Phase) → IsIn s p f → Status
  standing Opening come = through s Opening f (rest Opening come)
  standing One come = unless_outrun s One f (through s One f (rest One come))
  standing Two come = unless_outrun s Two f (through s Two f (rest Two come))

  -- behind the opening stands phase 1
  to_promising : HasBallot s f → are_enough s (is_left s Opening f) ≡ true → status s f ≡ promising s f
  to_promising come enough = through_is Opening (rest Opening tt) true None enough come.over ∙ decided_is None come.undecided ∙ ballot_is false come.fits

  -- behind phase 1 stands phase 2
  to_voting : (value : List ℕ) → HasProposal s f value → are_enough s (is_left s One f) ≡ true → promising s f ≡ voting s f value
  to_voting value come enough =
      outrun_is One (through s One f (rest One come.taken)) false come.not_outrun
      ∙ through_is One (rest One come.taken) true None enough come.over
      ∙ ap (λ (o : Option (List ℕ)). proposing o (voting s f)) come.is

  -- with enough disks in the phases before, the status is that of the phase
  stands : (p : Phase) (come : IsIn s p f) → EnoughBefore s p f → status s f ≡ standing p come
  stands Opening come enough = refl
  stands One come enough = to_promising come enough
  stands Two come enough = to_promising (come.1).taken enough.0 ∙ to_voting come.0 come.1 enough.1

  -- where no other host is faster, the phase itself counts
  not_outrun_is : (p : Phase) (come : IsIn s p f) → NotOutrun s p f → standing p come ≡ through s p f (rest p come)
  not_outrun_is Opening come below = refl
  not_outrun_is One come below = outrun_is One (through s One f (rest One come)) false below
  not_outrun_is Two come below = outrun_is Two (through s Two f (rest Two come)) false below

  -- so the status goes by the phase
  goes : (p : Phase) (come : IsIn s p f) → NotOutrun s p f → EnoughBefore s p f → status s f ≡ through s p f (rest p come)
  goes p come below enough = stands p come enough ∙ not_outrun_is p come below

  -- a call is due
  pub due_if : (p : Phase) (d : ℕ) → IsDueAt s p d f → status s f ≡ Due p d
  due_if p d is = goes p is.come is.not_outrun (enough_before s p f (enough_part s p f is.enough)) ∙ through_is p (rest p is.come) true (Some d) is.enough is.visits

  -- a phase is over
  over : (p : Phase) (is : IsOver s p f) → status s f ≡ rest p is.come
  over p is = goes p is.come is.not_outrun (enough_before s p f (enough_part s p f is.enough)) ∙ through_is p (rest p is.come) true None is.enough is.visits

  -- there is no ballot
  pub spent : HasSpent s f → status s f ≡ Ended BallotsSpent
  spent is = over Opening is.over ∙ decided_is None is.undecided ∙ ballot_is true is.spent

  -- a marked block tells the value
  pub decides : (value : List ℕ) → HasDecided s value f → status s f ≡ Ended (Decided value)
  decides value is = over Opening is.over ∙ decided_is (Some value) is.decided_is

  -- there is no proposal
  pub empty : HasNone s f → status s f ≡ Ended Empty
  empty is = over One is.over ∙ ap (λ (o : Option (List ℕ)). proposing o (voting s f)) is.none

  -- the proposal is chosen
  pub committed : (value : List ℕ) → HasChosen s value f → status s f ≡ Ended (Committed value)
  committed value is = over Two is.over ∙ ap (λ (v : List ℕ). Ended (Committed v)) same
    where
      both : Some (is.over.come).0 ≡ Some value
      both = sym (is.over.come).1.is ∙ is.proposal_is

      same : (is.over.come).0 ≡ value
      same = cc

  -- another host is faster in phase 1
  pub outrun_one : HasBallot s f → EnoughBefore s One f → nat_lt (ballot s f) (others_mbal s One f) ≡ true → status s f ≡ Ended (Outrun (others_mbal s One f))
  outrun_one come enough above = stands One come enough ∙ outrun_is One (through s One f (rest One come)) true above

  -- another host is faster in phase 2
  pub outrun_two : IsIn s Two f → EnoughBefore s Two f → nat_lt (ballot s f) (others_mbal s Two f) ≡ true → status s f ≡ Ended (Outrun (others_mbal s Two f))
  outrun_two come enough above = stands Two come enough ∙ outrun_is Two (through s Two f (rest Two come)) true above

  -- too few are left where enough were before
  few_in : (p : Phase) (come : IsIn s p f) → NotOutrun s p f → are_enough s (is_left s p f) ≡ false → EnoughBefore s p f → status s f ≡ Ended NoMajority
  few_in p come below is enough = goes p come below enough ∙ through_is p (rest p come) false (visited s p f) is refl

  -- or too few were already in the opening
  few_one : HasBallot s f → NotOutrun s One f → are_enough s (is_left s One f) ≡ false → (t : Bool) → are_enough s (is_left s Opening f) ≡ t → status s f ≡ Ended NoMajority
  few_one come below is true enough = few_in One come below is enough
  few_one come below is false few = few_in Opening tt tt few tt

  -- or in phase 1
  few_two : (come : IsIn s Two f) → NotOutrun s Two f → are_enough s (is_left s Two f) ≡ false → (t u : Bool) → are_enough s (is_left s Opening f) ≡ t → are_enough s (is_left s One f) ≡ u → status s f ≡ Ended NoMajority
  few_two come below is false u few other = few_in Opening tt tt few tt
  few_two come below is true false enough few = few_in One (come.1).taken (come.1).not_outrun few enough
  few_two come below is true true enough more = few_in Two come below is (enough, more)

  -- so wherever too few are left
  few_by : (p : Phase) → IsIn s p f → NotOutrun s p f → are_enough s (is_left s p f) ≡ false → status s f ≡ Ended NoMajority
  few_by Opening come below is = few_in Opening come below is tt
  few_by One come below is = few_one come below is (are_enough s (is_left s Opening f)) refl
  few_by Two come below is = few_two come below is (are_enough s (is_left s Opening f)) (are_enough s (is_left s One f)) refl refl

  -- too few disks are left
  pub few : HasFew s f → status s f ≡ Ended NoMajority
  few is = few_by is.phase is.come is.not_outrun is.few

-- ONE ANSWER MORE

module _ (s : Setup) (f : Answers) (d : ℕ) (x : Heard) where
  -- the ballot stays
  ballot_kept : start One ≤ length (f d) → HasBallot s f → HasBallot s (more f d x)
  ballot_kept l come =
      record {
        over = visited_kept s f d x Opening l come.over;
        undecided = decided_same s (more f d x) f (rows_kept f d x Opening l) ∙ come.undecided;
        fits = ap (nat_lt LAST_BALLOT) (ballot_same s (more f d x) f (rows_kept f d x Opening l)) ∙ come.fits;
      }

  -- so does the proposal
  proposal_kept : (value : List ℕ) → start Two ≤ length (f d) → HasProposal s f value → HasProposal s (more f d x) value
  proposal_kept value l come =
      let opening : AreSameRows Opening (more f d x) f = rows_kept f d x Opening (omega arith) in
      let one : AreSameRows One (more f d x) f = rows_kept f d x One l in
      record {
        taken = ballot_kept (omega arith) come.taken;
        over = visited_kept s f d x One l come.over;
        not_outrun = ap₂ nat_lt (ballot_same s (more f d x) f opening) (others_same s (more f d x) f One one) ∙ come.not_outrun;
        is = proposal_same s (more f d x) f opening one ∙ come.is;
      }

  -- an attempt that has come to a phase stays in it with an answer of the phase
  pub in_kept : (p : Phase) → start p ≤ length (f d) → IsIn s p f → IsIn s p (more f d x)
  in_kept Opening l come = tt
  in_kept One l come = ballot_kept l come
  in_kept Two l come = (come.0, proposal_kept come.0 l come.1)
