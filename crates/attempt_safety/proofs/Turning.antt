-- What follows an answer: the attempt goes on, comes to its next phase, or ends; and so does the machine.
use Rattle.std.specs.List.{All}
use Rattle.std.proofs.Common.{ℕ, ◌-◌, ◌%◌, ◌<◌, ◌≤◌, ◌≡◌, ◌≢◌, inl, inr, true, Option, Some, None, List, [], ◌∷◌, length, refl, sym, subst, ap, ◌∙◌, arith}
use Rattle.std.proofs.lemmas.Bool.{eq-eqb}
use Rattle.std.proofs.lemmas.List.Elements.{All-nil, All-cons}
use Rattle.torn_block.specs.Layout.{Version, hosts_in}
use Rattle.paxos_block.proofs.VoteLemmas.{above, owned}
use Rattle.attempt.specs.Calls.{Phase, Opening, One, Two, start, goal}
use Rattle.attempt.specs.Answers.{Answers}
use Rattle.attempt.specs.Setup.{Setup}
use Rattle.attempt.specs.Visits.{takes_part, visited, is_left, are_enough}
use Rattle.attempt.specs.Proposal.{highest, ballot, own, best, or_else, proposal}
use Rattle.attempt.specs.Standing.{IsIn, HasBallot}
use Rattle.attempt.specs.Status.{Status, Due, Ended, Committed, Decided, Empty, Outrun, NoMajority, BallotsSpent}
use Rattle.attempt.specs.Chosen.{Chooses}
use Rattle.attempt.specs.Prepared.{Proposes}
use Rattle.attempt.proofs.Lists.{row_none}
use Rattle.attempt.proofs.Rows.{best_none}
use Rattle.attempt.proofs.Visitors.{IsPart, part_is, part_if, part_before, left_is, left_over}
use Rattle.attempt.proofs.Statuses.{IsDueAt, IsOver, HasNone, HasChosen, Tells, enough_before, enough_part}
use Rattle.attempt.proofs.Preparing.{in_phase_two, one_is_over, proposes_or_not}
use Rattle.attempt.proofs.OneDisk.{IsDisk}
use Rattle.agreement.specs.Majority.{IsMajority}
use Rattle.agreement.specs.State.{Cell, Mind, owner_of, put, seen, read_one, read_two, first_asking}
use Rattle.agreement.specs.State.Mind.{One as OneMind, Two as TwoMind}
use Rattle.agreement.specs.Event.{Event, is_at, MayPropose, AllAllowed, after, run}
use Rattle.agreement.specs.Event.Event.{Takes, Proposes as MakesProposal}
use Rattle.agreement.specs.Chosen.{IsProposing, IsCommitted}
use Rattle.agreement.proofs.Puts.{put_same, put_other, all_put}
use Rattle.attempt_safety.specs.Cluster.{IsOfCluster}
use Rattle.attempt_safety.specs.Machine.{Machine, stage_at, top, opened, asking, mind_in}
use Rattle.attempt_safety.specs.Follows.{StandsIn, Agrees}
use Rattle.attempt_safety.specs.Leads.{IsOfAttempt}
use Rattle.attempt_safety.proofs.Accepting.{commits_by, not_yet}
use Rattle.attempt_safety.proofs.Counting.{majority_more, enough_one}

-- THE TURN

-- at most one event of the attempt, after which the machine agrees with the status
pub record Turns (s : Setup) (g : Answers) (m : Machine) (st : Status) : Type 0 where
  pub events : List (Event (List ℕ))
  pub few : length events ≤ 1
  pub own : All (IsOfAttempt s g) events
  pub allowed : AllAllowed s.disks m events
  pub agrees : Agrees s g (run m events) st
  pub proposing : (value : List ℕ) → Proposes s g value → IsProposing (run m events) s.host (ballot s g) value
  pub commits : (value : List ℕ) → Chooses s g value → IsCommitted s.disks (run m events) s.host (ballot s g) value
  pub minds : (h : ℕ) → h ≢ s.host → (run m events).mind h ≡ m.mind h
  pub cells : (h d : ℕ) → (run m events).cell h d ≡ m.cell h d

-- what is proposed is the value of the vote that was found, if one was
or_found : (found input : Option (List ℕ)) (value : List ℕ) → or_else found input ≡ Some value → MayPropose found value
or_found None input value is = tt
or_found (Some found) input value is = cc

-- where nothing was found, it is the input
or_input : (found input : Option (List ℕ)) (value v : List ℕ) → or_else found input ≡ Some value → found ≡ None → value ≡ v → input ≡ Some v
or_input None input value v is none same = cc
or_input (Some found) input value v is none same = absurd (cc)

-- where nothing is proposed, none was
or_none : (found input : Option (List ℕ)) → or_else found input ≡ None → found ≡ None
or_none None input is = refl
or_none (Some found) input is = absurd (cc)

-- THE END OF A PHASE

module _ (s : Setup) (g : Answers) (m : Machine) (p : Phase) (stands : StandsIn s p g m) (behind : (e : ℕ) → length (g e) ≤ goal p) where
  -- a phase is over where it has come to that many answers on the disks left
  majority_at : (stage : ℕ) → stage_at (goal p) ≡ stage → visited s p g ≡ None → are_enough s (is_left s p g) ≡ true → IsMajority s.disks (is_at stage (m.cell s.host))
  majority_at stage is none enough =
      majority_more s (is_left s p g) (is_at stage (m.cell s.host))
      (λ e l left. (
      let part : IsPart p (g e) = left_is s p (visited s p g) g e left in
      let all = left_over s p g e none l left in
      let exact : length (g e) ≡ goal p = (let most = behind e in omega arith) in
      eq-eqb (m.cell s.host e).stage stage (stands.stages e (part_if p (g e) part) ∙ ap stage_at exact ∙ is)))
      enough

  -- no later phase has disks
  none_later : (q : Phase) → goal p < start q → ¬ (are_enough s (λ e. takes_part q (g e)) ≡ true)
  none_later q later enough =
      let one = enough_one s (λ e. takes_part q (g e)) enough in
      let come = (part_is q (g one.disk) one.passes).come in
      let most = behind one.disk in
      absurd (omega arith)

  -- nor is one over
  pub none_over : (q : Phase) → goal p < goal q → ¬ IsOver s q g
  none_over q later over =
      let one = enough_one s (is_left s q g) over.enough in
      let all = left_over s q g one.disk over.visits one.below one.passes in
      let most = behind one.disk in
      absurd (omega arith)

-- what a phase owes where nothing happens: behind phase 1 there is no proposal
abbrev NoneIn : Phase → Setup → Answers → Type 0
NoneIn Opening s g = Unit {0}
NoneIn One s g = (value : List ℕ) → Proposes s g value → ⊥
NoneIn Two s g = Unit {0}

-- in phase 2 the host knows its proposal
pub knows_two : (s : Setup) (g : Answers) (value : List ℕ) → proposal s g ≡ Some value → mind_in s Two g ≡ TwoMind (record { ballot = ballot s g; value = value })
knows_two s g value is = rw is refl

module _ (s : Setup) (g : Answers) (disk : (e : ℕ) → IsDisk (g e)) (of_cluster : IsOfCluster s) (m : Machine) where
  -- the ballot is the host's
  owner : owner_of (ballot s g) ≡ s.host
  owner = ap (λ (v : Version). (ballot s g - 1) % hosts_in v) (sym of_cluster.version) ∙ owned s.version s.host (highest s g) of_cluster.is_host

  -- in the opening nothing is proposed
  none_opening : StandsIn s Opening g m → ((e : ℕ) → length (g e) ≤ goal Opening) → (value : List ℕ) → ¬ Proposes s g value
  none_opening stands behind value p = none_over s g m Opening stands behind One (omega arith) (one_is_over s g value p)

  -- what is proposed where nothing happens, was
  proposing_in : (p : Phase) → NoneIn p s g → StandsIn s p g m → ((e : ℕ) → length (g e) ≤ goal p) → (value : List ℕ) → Proposes s g value → IsProposing m s.host (ballot s g) value
  proposing_in Opening none stands behind value p = absurd (none_opening stands behind value p)
  proposing_in One none stands behind value p = absurd (none value p)
  proposing_in Two none stands behind value p = stands.mind ∙ knows_two s g value p.has.is

  early : (p : Phase) → goal p < 17 → ((e : ℕ) → length (g e) ≤ goal p) → (value : List ℕ) → (n : Machine) → Chooses s g value → IsCommitted s.disks n s.host (ballot s g) value
  early p less behind value n chooses = absurd (not_yet s g disk n (λ e. (let most = behind e in omega arith)) value chooses)

  -- a host's cells put where they were
  put_again : (h d : ℕ) → put m.cell s.host (m.cell s.host) h d ≡ m.cell h d
  put_again h d =
      all_put (λ k (row : ℕ → Cell (List ℕ)). row d ≡ m.cell k d) m.cell s.host (m.cell s.host) refl (λ k off. refl) h

  -- the opening is over: the ballot is taken
  takes : StandsIn s Opening g m → ((e : ℕ) → length (g e) ≤ goal Opening) → HasBallot s g → are_enough s (is_left s Opening g) ≡ true → (st : Status) → ((n : Machine) → StandsIn s One g n → Agrees s g n st) → Turns s g m st
  takes stands behind come enough st agrees =
      let e : Event (List ℕ) = Takes s.host (opened s g) (ballot s g) in
      let none : best s g ≡ own s g = best_none s g s.disks (λ e l. row_none One (g e) (let most = behind e in omega arith)) in
      let knows : OneMind (first_asking (opened s g) (ballot s g)) ≡ mind_in s One g = rw none refl in
      let over : highest s g < ballot s g = above s.version s.host (highest s g) in
      let less : top s g < ballot s g = omega arith in
      let stands_one : StandsIn s One g (after m e) =
      record {
        mind = put_same m.mind s.host (OneMind (first_asking (opened s g) (ballot s g))) ∙ knows;
        stages = λ d takes. ap (λ (c : Cell (List ℕ)). c.stage) (put_again s.host d)
            ∙ stands.stages d (part_if Opening (g d) (part_before One Opening (g d) (omega arith) (part_is One (g d) takes)));
      } in
      record {
        events = e ∷ [];
        few = omega arith;
        own = All-cons (IsOfAttempt s g) e [] (record { host = refl; input = λ value puts. absurd puts; proposes = λ value puts. absurd puts }) (All-nil (IsOfAttempt s g));
        allowed = ((stands.mind, owner, less, majority_at s g m Opening stands behind seen refl come.over enough), tt);
        agrees = agrees (after m e) stands_one;
        proposing = λ value p. absurd (none_opening stands behind value p);
        commits = λ value. early Opening (omega arith) behind value (after m e);
        minds = λ h off. put_other m.mind s.host (OneMind (first_asking (opened s g) (ballot s g))) h off;
        cells = λ h d. put_again h d;
      }

  -- phase 1 is over: the proposal is made
  module _ (stands : StandsIn s One g m) (behind : (e : ℕ) → length (g e) ≤ goal One) (value : List ℕ) (proposes : Proposes s g value) where
    abbrev made : Event (List ℕ)
    made = MakesProposal s.host (asking s g) value

    abbrev votes : Mind (List ℕ)
    votes = TwoMind (record { ballot = ballot s g; value = value })

    -- it is the only one
    one_value : (other : List ℕ) → Proposes s g other → votes ≡ TwoMind (record { ballot = ballot s g; value = other })
    one_value other p =
        let both : Some value ≡ Some other = sym proposes.has.is ∙ p.has.is in
        let same : value ≡ other = cc in
        ap (λ (v : List ℕ). TwoMind (record { ballot = ballot s g; value = v })) same

    makes : (st : Status) → ((n : Machine) → StandsIn s Two g n → Agrees s g n st) → Turns s g m st
    makes st agrees =
        let stands_two : StandsIn s Two g (after m made) =
        record {
          mind = put_same m.mind s.host votes ∙ sym (knows_two s g value proposes.has.is);
          stages = λ d takes. stands.stages d (part_if One (g d) (part_before Two One (g d) (omega arith) (part_is Two (g d) takes)));
        } in
        record {
          events = made ∷ [];
          few = omega arith;
          own = All-cons (IsOfAttempt s g) made [] (record { host = refl; input = λ v puts. or_input (best s g).inp s.input value v proposes.has.is puts.0 puts.1; proposes = λ v puts. subst (Proposes s g) puts.1 proposes }) (All-nil (IsOfAttempt s g));
          allowed = ((record { asking = stands.mind; majority = majority_at s g m One stands behind read_one refl proposes.has.over proposes.majority }, or_found (best s g).inp s.input value proposes.has.is), tt);
          agrees = agrees (after m made) stands_two;
          proposing = λ other p. put_same m.mind s.host votes ∙ one_value other p;
          commits = λ other. early One (omega arith) behind other (after m made);
          minds = λ h off. put_other m.mind s.host votes h off;
          cells = λ h d. refl;
        }

    -- whatever the status then
    agrees_then : (st : Status) → Tells s g st → (n : Machine) → StandsIn s Two g n → Agrees s g n st
    agrees_then (Due Opening e) tells n next = let over = proposes.has.taken.over in let visits = tells.visits in absurd (cc)
    agrees_then (Due One e) tells n next = let over = proposes.has.over in let visits = tells.visits in absurd (cc)
    agrees_then (Due Two e) tells n next = next
    agrees_then (Ended (Committed other)) tells n next = absurd (none_over s g m One stands behind Two (omega arith) tells.over)
    agrees_then (Ended (Decided other)) tells n next = tt
    agrees_then (Ended Empty) tells n next = let is = proposes.has.is in let none = tells.none in absurd (cc)
    agrees_then (Ended (Outrun mbal)) tells n next = tt
    agrees_then (Ended NoMajority) tells n next = tt
    agrees_then (Ended BallotsSpent) tells n next = tt

  -- in phase 2 the machine commits what is chosen
  chosen : StandsIn s Two g m → ((e : ℕ) → length (g e) ≤ goal Two) → (value : List ℕ) → Chooses s g value → IsCommitted s.disks m s.host (ballot s g) value
  chosen stands behind =
      commits_by s g disk m behind stands.mind
      (λ e l all is. (let exact : length (g e) ≡ 17 = (let most = behind e in omega (arith, all.all)) in
      stands.stages e (part_if Two (g e) (record { good = all.good; come = omega arith })) ∙ ap stage_at exact))

  chosen_in : (p : Phase) → StandsIn s p g m → ((e : ℕ) → length (g e) ≤ goal p) → (value : List ℕ) → Chooses s g value → IsCommitted s.disks m s.host (ballot s g) value
  chosen_in Opening stands behind value = early Opening (omega arith) behind value m
  chosen_in One stands behind value = early One (omega arith) behind value m
  chosen_in Two stands behind value = chosen stands behind value

  -- nothing happens
  at_once : (p : Phase) → NoneIn p s g → StandsIn s p g m → ((e : ℕ) → length (g e) ≤ goal p) → (st : Status) → Agrees s g m st → Turns s g m st
  at_once p none stands behind st agrees =
      record {
        events = [];
        few = omega arith;
        own = All-nil (IsOfAttempt s g);
        allowed = tt;
        agrees = agrees;
        proposing = proposing_in p none stands behind;
        commits = chosen_in p stands behind;
        minds = λ h off. refl;
        cells = λ h d. refl;
      }

  -- FROM A PHASE TO A STATUS

  to_due : (p q : Phase) (e : ℕ) → NoneIn p s g → StandsIn s p g m → ((e : ℕ) → length (g e) ≤ goal p) → IsIn s p g → IsDueAt s q e g → Turns s g m (Due q e)
  to_due Opening Opening e none stands behind come due = at_once Opening none stands behind (Due Opening e) stands
  to_due Opening One e none stands behind come due = takes stands behind due.come (enough_before s One g (enough_part s One g due.enough)) (Due One e) (λ n next. next)
  to_due Opening Two e none stands behind come due = absurd (none_later s g m Opening stands behind Two (omega arith) (enough_part s Two g due.enough))
  to_due One Opening e none stands behind come due = let over = come.over in let visits = due.visits in absurd (cc)
  to_due One One e none stands behind come due = at_once One none stands behind (Due One e) stands
  to_due One Two e none stands behind come due = absurd (none (due.come).0 (in_phase_two s g (due.come).0 (due.come).1 due.enough))
  to_due Two Opening e none stands behind come due = let over = (come.1).taken.over in let visits = due.visits in absurd (cc)
  to_due Two One e none stands behind come due = let over = (come.1).over in let visits = due.visits in absurd (cc)
  to_due Two Two e none stands behind come due = at_once Two none stands behind (Due Two e) stands

  to_committed : (p : Phase) (value : List ℕ) → NoneIn p s g → StandsIn s p g m → ((e : ℕ) → length (g e) ≤ goal p) → HasChosen s value g → Turns s g m (Ended (Committed value))
  to_committed Opening value none stands behind is = absurd (none_over s g m Opening stands behind Two (omega arith) is.over)
  to_committed One value none stands behind is = absurd (none_over s g m One stands behind Two (omega arith) is.over)
  to_committed Two value none stands behind is =
      at_once Two none stands behind (Ended (Committed value))
      (record { proposing = stands.mind ∙ knows_two s g value is.proposal_is; majority = majority_at s g m Two stands behind read_two refl is.over.visits is.over.enough })

  to_empty : (p : Phase) → NoneIn p s g → StandsIn s p g m → ((e : ℕ) → length (g e) ≤ goal p) → IsIn s p g → HasNone s g → Turns s g m (Ended Empty)
  to_empty Opening none stands behind come is = absurd (none_over s g m Opening stands behind One (omega arith) is.over)
  to_empty One none stands behind come is =
      at_once One none stands behind (Ended Empty)
      (record {
        asking = asking s g;
        prepared = record { asking = stands.mind; majority = majority_at s g m One stands behind read_one refl is.over.visits is.over.enough };
        no_input = or_none (best s g).inp s.input is.none;
      })
  to_empty Two none stands behind come is = let some = (come.1).is in let nothing = is.none in absurd (cc)

  -- where it makes no proposal, the machine comes to whatever status the attempt has
  to_status : (p : Phase) (st : Status) → NoneIn p s g → StandsIn s p g m → ((e : ℕ) → length (g e) ≤ goal p) → IsIn s p g → Tells s g st → Turns s g m st
  to_status p (Due q e) none stands behind come tells = to_due p q e none stands behind come tells
  to_status p (Ended (Committed value)) none stands behind come tells = to_committed p value none stands behind tells
  to_status p (Ended (Decided value)) none stands behind come tells = at_once p none stands behind (Ended (Decided value)) tt
  to_status p (Ended Empty) none stands behind come tells = to_empty p none stands behind come tells
  to_status p (Ended (Outrun mbal)) none stands behind come tells = at_once p none stands behind (Ended (Outrun mbal)) tt
  to_status p (Ended NoMajority) none stands behind come tells = at_once p none stands behind (Ended NoMajority) tt
  to_status p (Ended BallotsSpent) none stands behind come tells = at_once p none stands behind (Ended BallotsSpent) tt

  -- so it does in each phase; at the end of phase 1 it makes its proposal, if it has one, whatever comes of it
  pub turn : (p : Phase) (st : Status) → StandsIn s p g m → ((e : ℕ) → length (g e) ≤ goal p) → IsIn s p g → Tells s g st → Turns s g m st
  turn Opening st stands behind come tells = to_status Opening st tt stands behind come tells
  turn One st stands behind come tells = elim (proposes_or_not s g come) [
    | inl made ↦ makes stands behind made.0 made.1 st (agrees_then stands behind made.0 made.1 st tells)
    | inr none ↦ to_status One st none stands behind come tells
  ]
  turn Two st stands behind come tells = to_status Two st tt stands behind come tells
