-- The machine's host and the attempt, with one answer more.
use Rattle.std.proofs.Common.{not, ℕ, ◌+◌, ◌≤◌, ◌≡◌, ◌≢◌, true, false, None, List, [], ◌∷◌, ◌++◌, length, refl, sym, ap, ap₂, ◌∙◌}
use Rattle.std.proofs.lemmas.Bool.{and_parts, not-true}
use Rattle.paxos_block.specs.Saying.{Said as PBlock}
use Rattle.paxos_block.proofs.VoteLemmas.{greatest_same}
use Rattle.attempt.specs.Calls.{Phase, Opening, One, Two, start}
use Rattle.attempt.specs.Answers.{Heard, Answers, is_bad, all_good, told, row_in, more}
use Rattle.attempt.specs.Setup.{Setup}
use Rattle.attempt.specs.Proposal.{top_in}
use Rattle.attempt.specs.Visits.{takes_part}
use Rattle.attempt.proofs.Lists.{length_more, good_more}
use Rattle.attempt.proofs.More.{by_disk}
use Rattle.attempt.proofs.Visitors.{IsPart, part_is, part_if}
use Rattle.attempt.proofs.Rows.{AreSameRows, ballot_same, own_same, best_same, proposal_same, rows_stay}
use Rattle.agreement.specs.State.Mind.{Opening as OpeningMind}
use Rattle.attempt_safety.specs.Machine.{Machine, vote_said, stage_at, top, mind_in}
use Rattle.attempt_safety.specs.Follows.{StandsIn}

-- THE SAME ROWS, THE SAME MIND

module _ (s : Setup) (f g : Answers) (opening : AreSameRows Opening f g) where
  pub top_same : top s f ≡ top s g
  top_same = greatest_same s.disks (λ d. top_in s.version (row_in Opening (f d))) (λ d. top_in s.version (row_in Opening (g d))) (λ e l. ap (top_in s.version) (opening e))

  pub mind_same : AreSameRows One f g → (p : Phase) → mind_in s p f ≡ mind_in s p g
  mind_same one Opening = ap₂ (λ (n : ℕ) (own : PBlock). OpeningMind (record { top = n; own = vote_said own })) top_same (own_same s f g opening s.disks)
  mind_same one One = rw (ballot_same s f g opening, own_same s f g opening s.disks, best_same s f g opening one s.disks) refl
  mind_same one Two = rw (ballot_same s f g opening, proposal_same s f g opening one) refl

-- ONE ANSWER MORE

-- a disk that takes part with the answer took part before it, and the answer is good
pub record TookPart (p : Phase) (a : List Heard) (x : Heard) : Type 0 where
  pub part : IsPart p a
  pub good : is_bad x ≡ false

-- so it is with each answer to a call of the phase
pub took_part : (p : Phase) (a : List Heard) (x : Heard) → start p ≤ length a → takes_part p (a ++ x ∷ []) ≡ true → TookPart p a x
took_part p a x come takes =
    let both = and_parts (all_good a) (not (is_bad x)) (sym (good_more a x) ∙ (part_is p (a ++ x ∷ []) takes).good) in
    record { part = record { good = both.0; come = come }; good = not-true (is_bad x) both.1 }

module _ (s : Setup) (p : Phase) (f : Answers) (d : ℕ) (x : Heard) (m : Machine) (come : start p ≤ length (f d)) (stands : StandsIn s p f m) where
  -- another machine, with the new mind, and the new stage on this disk
  pub stands_more : (new : Machine) → new.mind s.host ≡ mind_in s p (more f d x) → (is_bad x ≡ false → (new.cell s.host d).stage ≡ stage_at (length (f d) + 1))
      → ((e : ℕ) → e ≢ d → (new.cell s.host e).stage ≡ (m.cell s.host e).stage) → StandsIn s p (more f d x) new
  stands_more new knows here there =
      record {
        mind = knows;
        stages = by_disk f d x (λ e a. takes_part p a ≡ true → (new.cell s.host e).stage ≡ stage_at (length a))
            (λ takes. here (took_part p (f d) x come takes).good ∙ ap stage_at (sym (length_more (f d) x)))
            (λ e off takes. there e off ∙ stands.stages e takes);
      }

  -- the mind, where the answer tells no row
  pub mind_stays : told x ≡ None → m.mind s.host ≡ mind_in s p (more f d x)
  mind_stays none = stands.mind ∙ sym (mind_same s (more f d x) f (rows_stay f d x none Opening) (rows_stay f d x none One) p)

  -- no row, and no new stage: the machine stays as it is
  pub stands_quiet : told x ≡ None → all_good (f d) ≡ true → (is_bad x ≡ false → stage_at (length (f d) + 1) ≡ stage_at (length (f d))) → StandsIn s p (more f d x) m
  stands_quiet none good level = stands_more m (mind_stays none) (λ fine. stands.stages d (part_if p (f d) (record { good = good; come = come })) ∙ sym (level fine)) (λ e off. refl)
