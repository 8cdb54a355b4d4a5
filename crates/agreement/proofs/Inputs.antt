-- Whatever is proposed was put in: by the host itself, or it was adopted, and so proposed before.
use Rattle.std.proofs.Common.{ℕ, ◌≡◌, inl, inr, List, [], ◌∷◌, refl, sym, subst}
use Rattle.agreement.specs.State.{Asking, State, start}
use Rattle.agreement.specs.State.Mind.{One}
use Rattle.agreement.specs.Event.{Event, MayPropose, proposal_of, Allowed, AllAllowed, IsRun, after, run, state_after}
use Rattle.agreement.specs.Event.Event.{Proposes}
use Rattle.agreement.specs.Chosen.{IsProposed, PutsIn, IsInput}
use Rattle.agreement.specs.Claims.{OnlyInputs}
use Rattle.agreement.proofs.Invariant.{Holds, IsBacked, IsAsking}
use Rattle.agreement.proofs.Frames.{mind_at}
use Rattle.agreement.proofs.Proposing.{is_fresh, all_now}
use Rattle.agreement.proofs.Runs.{holds_at_start, holds_after}

module _ {Value : Type 0} (Good : Value → Type 0) (disks : ℕ) where
  -- all that is proposed is good
  abbrev AllGood : State Value → Type 0
  AllGood s = (b : ℕ) (v : Value) → IsProposed s.proposed b v → Good v

  -- a host proposes a value that it puts in, or one that was proposed
  good_proposal : (s : State Value) (h : ℕ) (a : Asking Value) (value : Value) → Holds disks s → AllGood s → Allowed disks s (Proposes h a value)
      → ((v : Value) → PutsIn (Proposes h a value) v → Good v) → Good value
  good_proposal s h a value i good (prepared, may) puts = by_vote mind.best
    where
      mind : IsAsking s.proposed h a
      mind = mind_at disks s i h (One a) prepared.asking

      by_vote : IsBacked s.proposed a.best → Good value
      by_vote (inl none) = puts value (none.1, refl)
      by_vote (inr (found, is, k)) = let same : value ≡ found = subst (λ o. MayPropose o value) is may in subst Good (sym same) (good a.best.bal found k)

  -- so each event keeps them good, and each run
  good_after : (s : State Value) (e : Event Value) → Holds disks s → Allowed disks s e → AllGood s → ((v : Value) → PutsIn e v → Good v) → AllGood (after s e)
  good_after s (Proposes h a value) i may good puts = λ b v k. subst Good k.value
      (all_now s.proposed a.ballot (proposal_of a value (s.cell h)) (is_fresh disks s i h a value may.0.asking) (λ c p. Good p.value)
      (good_proposal s h a value i good may puts) (λ c p made. good c p.value (record { proposal = p; is = made; value = refl }))
      b k.proposal k.is)
  good_after s other i may good puts = good

  good_run : (s : State Value) (es : List (Event Value)) → Holds disks s → AllAllowed disks s es → AllGood s → ((v : Value) → IsInput es v → Good v) → AllGood (run s es)
  good_run s [] i may good puts = good
  good_run s (e ∷ es) i may good puts =
      good_run (after s e) es (holds_after disks s e i may.0) may.1 (good_after s e i may.0 good (λ v k. puts v (inl k))) (λ v k. puts v (inr k))

pub only_inputs : {Value : Type 0} (disks : ℕ) (events : List (Event Value)) → IsRun disks events → OnlyInputs events (state_after events)
only_inputs disks events is_run =
    good_run (IsInput events) disks start events (holds_at_start disks) is_run (λ b v k. absurd (let made = k.is in cc)) (λ v k. k)
