-- The opening: a host reads its own blocks, and takes a ballot.
use Rattle.std.proofs.Common.{ℕ, ◌<◌, ◌≤◌, ◌≡◌, Some, refl, arith}
use Rattle.std.proofs.lemmas.Bool.{eqb-true}
use Rattle.agreement.specs.State.{owner_of, seen, Opened, first_asking, Proposal, State}
use Rattle.agreement.specs.State.Mind.{Opening, One}
use Rattle.agreement.specs.Event.{is_at, Allowed, after}
use Rattle.agreement.specs.Event.Event.{Sees, Takes}
use Rattle.agreement.proofs.Invariant.{Holds, IsVoteOf, IsSeen, IsOpened}
use Rattle.agreement.proofs.Majorities.{majorities_meet}
use Rattle.agreement.proofs.Frames.{keeps_host, keeps_read, stage_at, mind_at}
use Rattle.agreement.proofs.Reading.{last_vote}

module _ {Value : Type 0} (disks : ℕ) (s : State Value) (i : Holds disks s) where
  -- What the host knows then is not below the block that it has read.
  pub keeps_sees : (h d : ℕ) (old new : Opened Value) → Allowed disks s (Sees h d old new) → Holds disks (after s (Sees h d old new))
  keeps_sees h d old new (is, sees) =
      keeps_read disks s i h d seen (Opening new)
      (record { own = own.0; low = own.1 })
      (λ k. record { stage = omega arith; mbal = sees.top_reached; bal = sees.own.reached (s.cell h d).confirmed refl; settled = sees.settled })
      (λ e k.
      let was : IsSeen old (s.cell h e) = stage_at disks s i h e (Opening old) is k in
      record { stage = was.stage; mbal = omega (arith, was.mbal, sees.top_kept); bal = omega (arith, was.bal, sees.own.kept); settled = was.settled })
    where
      mind : IsOpened s.proposed h old
      mind = mind_at disks s i h (Opening old) is

      -- the new last vote is the host's, and not above the new top
      own : IsVoteOf s.proposed h new.own × (new.own.bal ≤ new.top)
      own = last_vote (λ v. IsVoteOf s.proposed h v × (v.bal ≤ new.top)) (λ x. x ≡ (s.cell h d).confirmed) old.own new.own sees.own
          (mind.own, omega (arith, mind.low, sees.top_kept))
          (λ x same. let b = (i.registers h d).confirmed in rw same (b.vote, omega (arith, b.low, sees.top_reached)))

  -- The ballot is new, since the disks that were read share one with those of any earlier proposal of the host.
  pub keeps_takes : (h : ℕ) (o : Opened Value) (ballot : ℕ) → Allowed disks s (Takes h o ballot) → Holds disks (after s (Takes h o ballot))
  keeps_takes h o ballot (is, owned, above, most) =
      keeps_host disks s i h (One (first_asking o ballot)) (s.cell h)
      (record {
        owned = owned;
        own = mind.own;
        best = mind.own.backed;
        from_own = omega arith;
        below = omega (arith, mind.low, above);
        fresh = fresh;
      })
      (i.registers h)
      (λ d k. let was = cell d k in record {
        stage = omega (arith, was.stage);
        write = record {
          mbal = omega (arith, was.mbal, above);
          bal = was.bal;
          alone = λ x e. let rest = was.settled in absurd (cc);
          wrote_mbal = λ l. absurd (omega (arith, was.stage));
          wrote_bal = λ l. absurd (omega (arith, was.stage));
        };
        found = λ l. absurd (omega (arith, was.stage));
      })
    where
      mind : IsOpened s.proposed h o
      mind = mind_at disks s i h (Opening o) is

      cell : (d : ℕ) → seen ≤ (s.cell h d).stage → IsSeen o (s.cell h d)
      cell d = stage_at disks s i h d (Opening o) is

      -- Each ballot that the host proposed by was promised on a disk that it has now read.
      fresh : (b : ℕ) (p : Proposal Value) → s.proposed b ≡ Some p → owner_of b ≡ h → b < ballot
      fresh b p proposed mine =
          let both = majorities_meet disks p.on (is_at seen (s.cell h)) (i.proposals b p proposed).majority most in
          let at : (s.cell h both.disk).stage ≡ seen = eqb-true _ _ both.second in
          let low = (i.registers h both.disk).promised b p proposed both.first mine in
          let known = cell both.disk (omega arith) in
          omega (arith, low, known.mbal, above)
