-- What is chosen by an attempt's answers is committed in the machine.
use Rattle.std.proofs.Common.{ℕ, ◌<◌, ◌≤◌, ◌≡◌, inl, inr, true, None, List, length, refl, ap, ◌∙◌, arith}
use Rattle.std.proofs.lemmas.Bool.{cases_lt, cases_Bool, both_ways, eq-eqb}
use Rattle.attempt.specs.Calls.{Two}
use Rattle.attempt.specs.Answers.{Answers, all_good, row_in}
use Rattle.attempt.specs.Setup.{Setup}
use Rattle.attempt.specs.Proposal.{ballot}
use Rattle.attempt.specs.Chosen.{accepts_in, accepts, Chooses}
use Rattle.attempt.proofs.Lists.{row_none}
use Rattle.attempt.proofs.OneDisk.{IsDisk}
use Rattle.agreement.specs.State.{read_two}
use Rattle.agreement.specs.State.Mind.{Two as TwoMind}
use Rattle.agreement.specs.Event.{is_at}
use Rattle.agreement.specs.Chosen.{IsCommitted}
use Rattle.attempt_safety.specs.Machine.{Machine, mind_in}
use Rattle.attempt_safety.proofs.Counting.{majority_more, enough_one}

module _ (s : Setup) (g : Answers) (disk : (e : ℕ) → IsDisk (g e)) where
  -- a disk that accepts the ballot has given all its answers, good ones
  pub record Accepted (e : ℕ) : Type 0 where
    pub good : all_good (g e) ≡ true
    pub all : 17 ≤ length (g e)

  accepted : (e : ℕ) → length (g e) ≤ 17 → accepts s g e ≡ true → Accepted e
  accepted e most is =
      record {
        good = elim (cases_Bool (all_good (g e))) [
          | inl good ↦ good
          | inr bad ↦ absurd (no_row ((disk e).unread Two bad most))
        ];
        all = elim (cases_lt (length (g e)) 17) [
          | inl short ↦ absurd (no_row (row_none Two (g e) short))
          | inr all ↦ all
        ];
      }
    where
      no_row : row_in Two (g e) ≡ None → ⊥
      no_row none = both_ways (accepts s g e) (ap (accepts_in s.version s.host (ballot s g)) none) is

  module _ (m : Machine) where
    -- in phase 2, where the machine has come as far on each disk that accepts
    pub commits_by : (behind : (e : ℕ) → length (g e) ≤ 17) → m.mind s.host ≡ mind_in s Two g
        → ((e : ℕ) → e < s.disks → Accepted e → accepts s g e ≡ true → (m.cell s.host e).stage ≡ read_two)
        → (value : List ℕ) → Chooses s g value → IsCommitted s.disks m s.host (ballot s g) value
    commits_by behind knows stages value chooses =
        let is = chooses.proposes.is in
        let mind : mind_in s Two g ≡ TwoMind (record { ballot = ballot s g; value = value }) = rw is refl in
        record {
          proposing = knows ∙ mind;
          majority = majority_more s (accepts s g) (is_at read_two (m.cell s.host))
              (λ e l is. eq-eqb (m.cell s.host e).stage read_two (stages e l (accepted e (behind e) is) is)) chooses.majority;
        }

    -- before phase 2 nothing is chosen
    pub not_yet : ((e : ℕ) → length (g e) < 17) → (value : List ℕ) → ¬ Chooses s g value
    not_yet short value chooses =
        let one = enough_one s (accepts s g) chooses.majority in
        let all = (accepted one.disk (let l = short one.disk in omega arith) one.passes).all in
        let l = short one.disk in absurd (omega arith)
