-- Phase 1 is complete, and the host proposes a value.
use Rattle.std.proofs.Common.{ℕ, ◌<◌, ◌≤◌, ◌≡◌, ◌≢◌, ◌⊎◌, inl, inr, true, Some, refl, sym, subst, ◌∙◌, arith}
use Rattle.std.proofs.lemmas.Bool.{eqb-true}
use Rattle.agreement.specs.State.{owner_of, put, read_one, Asking, Telling, Mind, Proposal, State}
use Rattle.agreement.specs.State.Mind.{Idle, Opening, One, Two}
use Rattle.agreement.specs.Event.{MayPropose, proposal_of, Allowed, after}
use Rattle.agreement.specs.Event.Event.{Proposes}
use Rattle.agreement.specs.Chosen.{IsProposed}
use Rattle.agreement.proofs.Invariant.{Proposals, Holds, IsBacked, IsInStage, IsMind, IsAsked, IsAsking, IsSafeAt}
use Rattle.agreement.proofs.Puts.{put_same, all_put}
use Rattle.agreement.proofs.Frames.{stage_at, mind_at}
use Rattle.agreement.proofs.Growing.{proposed_stays, backed_stays, vote_stays, block_stays, next_stays}

-- ballot b, which had none, gets the proposal q
module _ {Value : Type 0} (proposed : Proposals Value) (b : ℕ) (q : Proposal Value) (fresh : (p : Proposal Value) → proposed b ≡ Some p → ⊥) where
  -- the proposals then
  abbrev pub now : Proposals Value
  now = put proposed b (Some q)

  -- what was proposed stays so
  pub stays : (e : ℕ) (p : Proposal Value) → proposed e ≡ Some p → now e ≡ Some p
  stays = all_put (λ e o. (p : Proposal Value) → proposed e ≡ Some p → o ≡ Some p) proposed b (Some q) (λ p is. absurd (fresh p is)) (λ e ne p is. is)

  -- what holds of each proposal
  pub all_now : (P : ℕ → Proposal Value → Type 0) → P b q → ((e : ℕ) (p : Proposal Value) → proposed e ≡ Some p → P e p) → (e : ℕ) (p : Proposal Value) → now e ≡ Some p → P e p
  all_now P here there = all_put (λ e o. (p : Proposal Value) → o ≡ Some p → P e p) proposed b (Some q) (λ p is. let same : q ≡ p = cc in subst (P b) same here) (λ e ne. there e)

  -- at the other hosts
  mind_stays : (g : ℕ) (m : Mind Value) → owner_of b ≢ g → IsMind proposed g m → IsMind now g m
  mind_stays g Idle ne k = tt
  mind_stays g (Opening o) ne k = record { own = vote_stays stays k.own; low = k.low }
  mind_stays g (One a) ne k = record {
    owned = k.owned;
    own = vote_stays stays k.own;
    best = backed_stays stays k.best;
    from_own = k.from_own;
    below = k.below;
    fresh = all_now (λ e p. owner_of e ≡ g → e < a.ballot) (λ own. absurd (ne own)) k.fresh;
  }
  mind_stays g (Two t) ne k = record {
    owned = k.owned;
    proposal = proposed_stays stays k.proposal;
    last = all_now (λ e p. owner_of e ≡ g → e ≤ t.ballot) (λ own. absurd (ne own)) k.last;
  }

-- The value is that of the last vote, if there is one.
same_value : {Value : Type 0} (proposed : Proposals Value) (a : Asking Value) (value : Value) → IsBacked proposed a.best → MayPropose a.best.inp value → (a.best.bal ≡ 0) ⊎ IsProposed proposed a.best.bal value
same_value proposed a value (inl none) may = inl none.0
same_value proposed a value (inr (v, is, k)) may =
    let same : value ≡ v = subst (λ o. MayPropose o value) is may in
    inr (record { proposal = k.proposal; is = k.is; value = k.value ∙ sym same })

module _ {Value : Type 0} (disks : ℕ) (s : State Value) (i : Holds disks s) (h : ℕ) (a : Asking Value) (value : Value) where
  -- the ballot of a host in phase 1 has no proposal
  pub is_fresh : s.mind h ≡ One a → (p : Proposal Value) → s.proposed a.ballot ≡ Some p → ⊥
  is_fresh is p made = let m : IsAsking s.proposed h a = mind_at disks s i h (One a) is in let lt = m.fresh a.ballot p made m.owned in omega arith

  -- The new proposal is safe at its ballot; what was proposed before is as it was.
  pub keeps_proposes : Allowed disks s (Proposes h a value) → Holds disks (after s (Proposes h a value))
  keeps_proposes (prepared, may) = record {
    registers = λ g d. let r = i.registers g d in record {
      confirmed = block_stays grow r.confirmed;
      writing = λ x e. next_stays grow (r.writing x e);
      kept = r.kept;
      promised = all_now s.proposed a.ballot q fresh (λ b p. p.on d ≡ true → owner_of b ≡ g → b ≤ (s.cell g d).confirmed.mbal) (promised g d) r.promised;
    };
    stages = all_put (λ g m. (d : ℕ) → IsInStage s.accepted d m (s.cell g d)) s.mind h (Two t) told (λ g ne. i.stages g);
    minds = all_put (λ g m. IsMind (now s.proposed a.ballot q fresh) g m) s.mind h (Two t)
        (record {
          owned = mind.owned;
          proposal = record { proposal = q; is = put_same s.proposed a.ballot (Some q); value = refl };
          last = all_now s.proposed a.ballot q fresh (λ b p. owner_of b ≡ h → b ≤ a.ballot) (λ own. omega arith) (λ b p made own. let lt = mind.fresh b p made own in omega arith);
        })
        (λ g ne. mind_stays s.proposed a.ballot q fresh g (s.mind g) (λ own. ne (sym own ∙ mind.owned)) (i.minds g));
    proposals = all_now s.proposed a.ballot q fresh (λ b p. IsSafeAt disks (now s.proposed a.ballot q fresh) s.accepted b p) safe
        (λ b p made. let k = i.proposals b p made in record {
          positive = k.positive;
          majority = k.majority;
          same = elim k.same [ inl none ↦ inl none | inr from ↦ inr (proposed_stays grow from) ];
          below = k.below;
          between = k.between;
        });
  }
    where
      mind : IsAsking s.proposed h a
      mind = mind_at disks s i h (One a) prepared.asking

      q : Proposal Value
      q = proposal_of a value (s.cell h)

      t : Telling Value
      t = record { ballot = a.ballot; value = value }

      fresh : (p : Proposal Value) → s.proposed a.ballot ≡ Some p → ⊥
      fresh = is_fresh prepared.asking

      grow : (e : ℕ) (p : Proposal Value) → s.proposed e ≡ Some p → now s.proposed a.ballot q fresh e ≡ Some p
      grow = stays s.proposed a.ballot q fresh

      asked : (d : ℕ) → 1 ≤ (s.cell h d).stage → IsAsked s.accepted d a (s.cell h d)
      asked d = stage_at disks s i h d (One a) prepared.asking

      -- on the disks of its phase 1 the ballot is written
      promised : (g d : ℕ) → q.on d ≡ true → owner_of a.ballot ≡ g → a.ballot ≤ (s.cell g d).confirmed.mbal
      promised g d on own =
          let four : (s.cell h d).stage ≡ read_one = eqb-true _ _ on in
          let low : a.ballot ≤ (s.cell h d).confirmed.mbal = (asked d (omega arith)).write.wrote_mbal (omega arith) in
          subst (λ x. a.ballot ≤ (s.cell x d).confirmed.mbal) (sym mind.owned ∙ own) low

      -- nothing is written yet in phase 2
      told : (d : ℕ) → IsInStage s.accepted d (Two t) (s.cell h d)
      told d k =
          let was = asked d (omega arith) in
          record {
            write = record {
              mbal = was.write.mbal;
              bal = omega (arith, was.write.bal, mind.from_own, mind.below);
              alone = λ x e. (let two = (was.write.alone x e).0 in absurd (omega (arith, two)));
              wrote_mbal = λ l. absurd (omega (arith, was.stage));
              wrote_bal = λ l. absurd (omega (arith, was.stage));
            };
            told = λ l. absurd (omega (arith, was.stage));
          }

      safe : IsSafeAt disks (now s.proposed a.ballot q fresh) s.accepted a.ballot q
      safe = record {
        positive = omega (arith, mind.below);
        majority = prepared.majority;
        same = elim (same_value s.proposed a value mind.best may) [ inl none ↦ inl none | inr from ↦ inr (proposed_stays grow from) ];
        below = mind.below;
        between = λ d e on acc lt.
            let four : (s.cell h d).stage ≡ read_one = eqb-true _ _ on in
            (asked d (omega arith)).found (omega arith) e acc lt;
      }
