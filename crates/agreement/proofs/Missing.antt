-- An attempt that finds no vote shows that nothing had been chosen when it began.
use Rattle.std.proofs.Common.{ℕ, suc, ◌≤◌, ◌≡◌, inl, inr, true, List, ◌∷◌, ◌++◌, sym, subst, arith}
use Rattle.std.proofs.lemmas.Bool.{eqb-true}
use Rattle.agreement.specs.State.{put, Cell, away, seen, read_one, read_two, Mind, none_opened, first_asking, with_best, State, start}
use Rattle.agreement.specs.State.Mind.{Idle, Opening, One, Two}
use Rattle.agreement.specs.Event.{Event, at_rest, at_stage, all_away, being_written, is_at, Allowed, AllAllowed, after, run, IsRun, state_after}
use Rattle.agreement.specs.Event.Event.{Settles, Crashes, Stops, Starts, Drops, Sees, Takes, Begins, Confirms, ReadsOne, Proposes, ReadsTwo}
use Rattle.agreement.specs.Chosen.{IsEmpty}
use Rattle.agreement.specs.Claims.{NoneChosen}
use Rattle.agreement.proofs.Invariant.{Accepted, Holds, IsSeen, IsAsking}
use Rattle.agreement.proofs.Majorities.{Shared, majorities_meet}
use Rattle.agreement.proofs.Puts.{all_put, all_put2, put_same}
use Rattle.agreement.proofs.Frames.{stage_at, mind_at}
use Rattle.agreement.proofs.Reading.{finds}
use Rattle.agreement.proofs.Writing.{write_stage}
use Rattle.agreement.proofs.Runs.{holds_after, grows_after, holds_run, holds_reached}
use Rattle.agreement.proofs.Steps.{state_by-append, may_early, may_late, kept_by}

-- what was accepted before is so now
abbrev pub StillAccepted : {Value : Type 0} → Accepted → State Value → Type 0
StillAccepted before s = (b d : ℕ) → before b d ≡ true → s.accepted b d ≡ true

module _ {Value : Type 0} (before : Accepted) where
  -- In phase 1, on each disk that it has read, the last vote found is not below what had been accepted there before.
  abbrev pub FoundBy : Mind Value → (ℕ → Cell Value) → Type 0
  FoundBy Idle cells = Unit {0}
  FoundBy (Opening o) cells = Unit {0}
  FoundBy (One a) cells = (d b : ℕ) → (cells d).stage ≡ read_one → before b d ≡ true → b ≤ a.best.bal
  FoundBy (Two t) cells = Unit {0}

  -- the same of a host of a state
  abbrev pub Found : State Value → ℕ → Type 0
  Found s h = FoundBy (s.mind h) (s.cell h)

  -- no more disks are read in phase 1 than were
  fewer : (m : Mind Value) (old new : ℕ → Cell Value) → ((d : ℕ) → (new d).stage ≡ read_one → (old d).stage ≡ read_one) → FoundBy m old → FoundBy m new
  fewer Idle old new less f = tt
  fewer (Opening o) old new less f = tt
  fewer (One a) old new less f = λ d b read acc. f d b (less d read) acc
  fewer (Two t) old new less f = tt

  module _ (s : State Value) where
    -- a disk of host k gets another stage, but not by a read of phase 1
    one_disk : (k d : ℕ) (c : Cell Value) → (c.stage ≡ read_one → (s.cell k d).stage ≡ read_one) → (h : ℕ) → Found s h → FoundBy (s.mind h) (put s.cell k (put (s.cell k) d c) h)
    one_disk k d c less = all_put (λ h cells. Found s h → FoundBy (s.mind h) cells) s.cell k (put (s.cell k) d c)
        (fewer (s.mind k) (s.cell k) (put (s.cell k) d c) (all_put (λ e x. x.stage ≡ read_one → (s.cell k e).stage ≡ read_one) (s.cell k) d c less (λ e ne was. was)))
        (λ g ne f. f)

    -- host k gets another mind and other stages
    one_host : (k : ℕ) (m : Mind Value) (cells : ℕ → Cell Value) → (Found s k → FoundBy m cells) → (h : ℕ) → Found s h → FoundBy (put s.mind k m h) (put s.cell k cells h)
    one_host k m cells here = all_put2 (λ h n row. Found s h → FoundBy n row) s.mind s.cell k m cells here (λ g ne f. f)

  module _ (disks : ℕ) where
    -- Each event keeps that: a read of phase 1 finds all that was accepted, and no other event makes one more disk read.
    found_after : (s : State Value) (e : Event Value) → Holds disks s → Allowed disks s e → StillAccepted before s → (h : ℕ) → Found s h → Found (after s e) h
    found_after s (Settles k d x) i a still h = one_disk s k d (at_rest x (s.cell k d).stage) (λ was. was) h
    found_after s (Crashes d left) i a still h =
        fewer (s.mind h) (s.cell h) (put (s.cell h) d (at_rest (left h) (s.cell h d).stage))
        (all_put (λ e x. x.stage ≡ read_one → (s.cell h e).stage ≡ read_one) (s.cell h) d (at_rest (left h) (s.cell h d).stage) (λ was. was) (λ e ne was. was))
    found_after s (Stops k) i a still h = one_host s k Idle (all_away (s.cell k)) (λ f. tt) h
    found_after s (Starts k) i a still h = one_host s k (Opening none_opened) (all_away (s.cell k)) (λ f. tt) h
    found_after s (Drops k d) i a still h = one_disk s k d (at_stage (s.cell k d) away) (λ read. absurd (omega arith)) h
    found_after s (Sees k d old new) i a still h = one_host s k (Opening new) (put (s.cell k) d (at_stage (s.cell k d) seen)) (λ f. tt) h
    found_after s (Takes k o ballot) i a still h = one_host s k (One (first_asking o ballot)) (s.cell k)
        (λ f d b read acc.
        let was : IsSeen o (s.cell k d) = stage_at disks s i k d (Opening o) a.0 (omega arith) in
        absurd (omega (arith, was.stage))) h
    found_after s (Begins k d w) i a still h = one_disk s k d (being_written (s.cell k d) w)
        (λ read. elim (write_stage w (s.mind k) a.0) [ inl one ↦ absurd (omega arith) | inr two ↦ absurd (omega arith) ]) h
    found_after s (Confirms k d w) i a still h = one_disk s k d (at_rest w.block (suc w.stage))
        (λ read. elim (write_stage w (s.mind k) a.0) [ inl one ↦ absurd (omega arith) | inr two ↦ absurd (omega arith) ]) h
    found_after s (ReadsOne k d row t best) i a still h = one_host s k (One (with_best t best)) (put (s.cell k) d (at_stage (s.cell k d) read_one))
        (λ f.
        let was : FoundBy (One t) (s.cell k) = subst (λ m. FoundBy m (s.cell k)) a.0 f in
        all_put (λ e x. (b : ℕ) → x.stage ≡ read_one → before b e ≡ true → b ≤ best.bal) (s.cell k) d (at_stage (s.cell k d) read_one)
        (λ b read acc. finds disks s i k d row t best a.0 a.1 a.2 a.3 b (still b d acc))
        (λ e ne b read acc. let low = was e b read acc in omega (arith, low, a.3.kept))) h
    found_after s (Proposes k t value) i a still h =
        all_put (λ g m. Found s g → FoundBy m (s.cell g)) s.mind k (Two (record { ballot = t.ballot; value = value })) (λ f. tt) (λ g ne f. f) h
    found_after s (ReadsTwo k d row t) i a still h = one_disk s k d (at_stage (s.cell k d) read_two) (λ read. absurd (omega arith)) h

    -- and so does each run
    found_run : (s : State Value) (es : List (Event Value)) → Holds disks s → AllAllowed disks s es → StillAccepted before s → (h : ℕ) → Found s h → Found (run s es) h
    found_run s es i a still h f =
        (kept_by after (Allowed disks) (λ t. Holds disks t × StillAccepted before t × Found t h)
        (λ t e (j, u, g) may. (holds_after disks t e j may, λ b d acc. (grows_after disks t e j may).accepted b d (u b d acc), found_after t e j may u h g))
        s es (i, still, f) a).2

-- An attempt begins at s; t is the state in which it finds that there is no vote.
pub nothing_chosen : {Value : Type 0} (disks : ℕ) (s : State Value) (h : ℕ) (es : List (Event Value)) → Holds disks s → AllAllowed disks (after s (Starts h)) es
    → IsEmpty disks (run (after s (Starts h)) es) h → NoneChosen disks s
nothing_chosen {Value} disks s h es i allowed empty (v, (b, chosen)) = elim mind.best [
  | inl none ↦ (let low = found both.disk b (eqb-true _ _ both.first) both.second in
      let positive = (i.proposals b chosen.proposed.proposal chosen.proposed.is).positive in
      omega (arith, low, none.0, positive))
  | inr some ↦ (let no_input = empty.no_input in let input = some.1 in cc)
]
  where
    begun : State Value
    begun = after s (Starts h)

    t : State Value
    t = run begun es

    j : Holds disks begun
    j = holds_after disks s (Starts h) i tt

    mind : IsAsking t.proposed h empty.asking
    mind = mind_at disks t (holds_run disks begun es j allowed) h (One empty.asking) empty.prepared.asking

    at_first : Found s.accepted begun h
    at_first = subst (λ m. FoundBy s.accepted m (begun.cell h)) (sym (put_same s.mind h (Opening none_opened))) tt

    found : FoundBy s.accepted (One empty.asking) (t.cell h)
    found = subst (λ m. FoundBy s.accepted m (t.cell h)) empty.prepared.asking (found_run s.accepted disks begun es j allowed (λ b d acc. acc) h at_first)

    both : Shared (is_at read_one (t.cell h)) (s.accepted b)
    both = majorities_meet disks (is_at read_one (t.cell h)) (s.accepted b) empty.prepared.majority chosen.majority

-- the same of a place of a run
pub nothing_missed : {Value : Type 0} (disks : ℕ) (early late : List (Event Value)) (h : ℕ) → IsRun disks (early ++ Starts h ∷ late)
    → IsEmpty disks (state_after (early ++ Starts h ∷ late)) h → NoneChosen disks (state_after early)
nothing_missed disks early late h is_run empty =
    nothing_chosen disks (state_after early) h late (holds_reached disks early (may_early after (Allowed disks) start early (Starts h ∷ late) is_run))
    (may_late after (Allowed disks) start early (Starts h ∷ late) is_run).1
    (subst (λ s. IsEmpty disks s h) (state_by-append after start early (Starts h ∷ late)) empty)
