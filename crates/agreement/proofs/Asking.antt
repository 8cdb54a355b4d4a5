-- Phase 1: a host reads the other hosts' blocks on a disk.
use Rattle.std.proofs.Common.{ℕ, ◌<◌, ◌≤◌, ◌≢◌, inl, inr, sym, ap, ◌∙◌, arith}
use Rattle.std.proofs.lemmas.Bool.{cases_eq}
use Rattle.agreement.specs.State.{owner_of, Vote, Block, read_one, Asking, with_best, State}
use Rattle.agreement.specs.State.Mind.{One}
use Rattle.agreement.specs.Event.{write_one, IsOthers, Allowed, after}
use Rattle.agreement.specs.Event.Event.{ReadsOne}
use Rattle.agreement.proofs.Invariant.{Holds, IsBacked, IsOf, IsAsked, IsAsking}
use Rattle.agreement.proofs.Frames.{keeps_read, stage_at, mind_at}
use Rattle.agreement.proofs.Reading.{last_vote, row_next, finds}
use Rattle.agreement.proofs.Writing.{write_passed}

module _ {Value : Type 0} (disks : ℕ) (s : State Value) (i : Holds disks s) where
  -- The last vote found covers all that is accepted on the disk.
  pub keeps_reads_one : (h d : ℕ) (row : ℕ → Block Value) (a : Asking Value) (best : Vote Value) → Allowed disks s (ReadsOne h d row a best) → Holds disks (after s (ReadsOne h d row a best))
  keeps_reads_one h d row a best (is, stage, is_row, last) =
      keeps_read disks s i h d read_one (One (with_best a best))
      (record {
        owned = mind.owned;
        own = mind.own;
        best = adopted.0;
        from_own = omega (arith, mind.from_own, last.kept);
        below = adopted.1;
        fresh = mind.fresh;
      })
      (λ k. let was = cell d (omega arith) in record {
        stage = omega arith;
        write = write_passed (write_one a) (s.cell h d) was.write read_one (omega arith) (omega arith);
        found = λ l b acc lt. finds disks s i h d row a best is stage is_row last b acc;
      })
      (λ e k. let was = cell e k in record {
        stage = was.stage;
        write = was.write;
        found = λ l b acc lt. let low = was.found l b acc lt in omega (arith, low, last.kept);
      })
    where
      mind : IsAsking s.proposed h a
      mind = mind_at disks s i h (One a) is

      cell : (e : ℕ) → 1 ≤ (s.cell h e).stage → IsAsked s.accepted e a (s.cell h e)
      cell e = stage_at disks s i h e (One a) is

      -- a ballot of another host, not above this one, is below it
      less : (g b : ℕ) → g ≢ h → b ≤ a.ballot → IsOf g b → b < a.ballot
      less g b other low (inl none) = omega (arith, mind.below)
      less g b other low (inr theirs) = elim (cases_eq b a.ballot) [
        | inl same ↦ absurd (other (sym theirs ∙ (ap owner_of same ∙ mind.owned)))
        | inr differs ↦ omega arith
      ]

      -- the vote that it goes on with is for a proposal of a lesser ballot
      adopted : IsBacked s.proposed best × (best.bal < a.ballot)
      adopted = last_vote (λ v. IsBacked s.proposed v × (v.bal < a.ballot)) (IsOthers h row) a.best best last
          (mind.best, mind.below)
          (λ x (g, within, other, same).
          let b = (row_next disks s i h d a.ballot row is_row g within other).block in
          let low = is_row.below g within other in
          rw same (b.vote.backed, less g (row g).bal other (omega (arith, b.low, low)) b.vote.owned))
