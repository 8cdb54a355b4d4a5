-- What an attempt commits is chosen, and what is chosen is chosen in the machine.
use Rattle.std.specs.Prelude.{not}
use Rattle.std.proofs.Common.{ℕ, ◌<◌, ◌≤◌, ◌≡◌, true, List, ◌∷◌, [], ◌++◌, ap, ◌∙◌, arith}
use Rattle.std.proofs.lemmas.Bool.{le-ltb, ltb-false}
use Rattle.paxos_block.specs.Votes.{highest_mbal_of_others}
use Rattle.paxos_block.proofs.VoteLemmas.{greatest_is_greatest}
use Rattle.attempt.specs.Calls.{Two}
use Rattle.attempt.specs.Answers.{Answered, on, row_in}
use Rattle.attempt.specs.Setup.{Setup}
use Rattle.attempt.specs.Visits.{visited, is_left}
use Rattle.attempt.specs.Proposal.{ballot, others_top, others_mbal}
use Rattle.attempt.specs.Status.{Ended, Committed, status}
use Rattle.attempt.specs.History.{IsHistory}
use Rattle.attempt.specs.Chosen.{accepts_in, accepts, Chooses}
use Rattle.attempt.specs.Prepared.{Proposes}
use Rattle.attempt.proofs.Visitors.{left_is, left_over}
use Rattle.attempt.proofs.Statuses.{HasChosen, told_by, enough_more}
use Rattle.attempt.proofs.Histories.{IsReached, history_reached}
use Rattle.agreement.specs.Event.{Event, state_after}
use Rattle.agreement.specs.Chosen.{IsProposed, IsChosenBy}
use Rattle.agreement.proofs.Runs.{holds_reached}
use Rattle.agreement.proofs.Agreeing.{telling, commits_chosen}
use Rattle.attempt_safety.specs.Leads.{Leads}
use Rattle.attempt_safety.proofs.Writes.{some_of}

module _ (s : Setup) (heard : List Answered) (value : List ℕ) (history : IsHistory s heard) (is : HasChosen s value (on heard)) where
  reached : IsReached s (on heard)
  reached = history_reached s heard history

  -- each disk left accepts
  left_accepts : (d : ℕ) → d < s.disks → is_left s Two (on heard) d ≡ true → accepts s (on heard) d ≡ true
  left_accepts d below left =
      let part = left_is s Two (visited s Two (on heard)) (on heard) d left in
      let all = left_over s Two (on heard) d is.over.visits below left in
      let row = some_of (row_in Two (on heard d)) ((reached.disk d).read Two part.good all) in
      let most = greatest_is_greatest s.disks (λ e. others_top s.version s.host (row_in Two (on heard e))) d below in
      let here : others_top s.version s.host (row_in Two (on heard d)) ≡ highest_mbal_of_others s.version s.host row.0 = ap (others_top s.version s.host) row.1 in
      let under : others_mbal s Two (on heard) ≤ ballot s (on heard) = ltb-false (ballot s (on heard)) (others_mbal s Two (on heard)) is.over.not_outrun in
      ap (accepts_in s.version s.host (ballot s (on heard))) row.1 ∙ ap not (le-ltb (ballot s (on heard)) (highest_mbal_of_others s.version s.host row.0) (omega arith))

  chooses : Chooses s (on heard) value
  chooses =
      record {
        proposes = record { taken = (is.over.come).1.taken; over = (is.over.come).1.over; not_outrun = (is.over.come).1.not_outrun; is = is.proposal_is };
        majority = enough_more s (is_left s Two (on heard)) (accepts s (on heard)) left_accepts is.over.enough;
      }

-- what an attempt commits is chosen
pub committed : (s : Setup) (heard : List Answered) (value : List ℕ) → IsHistory s heard → status s (on heard) ≡ Ended (Committed value) → Chooses s (on heard) value
committed s heard value history ended = chooses s heard value history (told_by s (on heard) (Ended (Committed value)) ended)

-- what is chosen is chosen in the machine
pub chosen : (s : Setup) (early : List (Event (List ℕ))) (heard : List Answered) (x : Answered) (value : List ℕ) (leads : Leads s early heard x) → Chooses s (on (heard ++ x ∷ [])) value
    → IsChosenBy s.disks (state_after (early ++ leads.events)) (ballot s (on (heard ++ x ∷ []))) value
chosen s early heard x value leads chooses =
    commits_chosen s.disks (state_after (early ++ leads.events)) (holds_reached s.disks (early ++ leads.events) leads.is_run)
    s.host (ballot s (on (heard ++ x ∷ []))) value (leads.arrives.commits value chooses)

-- and what is proposed is proposed there, by its ballot
pub proposed : (s : Setup) (early : List (Event (List ℕ))) (heard : List Answered) (x : Answered) (value : List ℕ) (leads : Leads s early heard x) → Proposes s (on (heard ++ x ∷ [])) value
    → IsProposed (state_after (early ++ leads.events)).proposed (ballot s (on (heard ++ x ∷ []))) value
proposed s early heard x value leads proposes =
    (telling s.disks (state_after (early ++ leads.events)) (holds_reached s.disks (early ++ leads.events) leads.is_run)
    s.host (ballot s (on (heard ++ x ∷ []))) value (leads.arrives.proposing value proposes)).proposal
