-- What a restart may leave of a sector that was written, or was to be, and is not synced.
use Rattle.std.specs.Prelude.{◌≡◌, ◌⊎◌, ℕ, List, [], ◌∷◌, Contains}
use Rattle.std.proofs.Common.{refl, sym, subst, arith, inl, inr}
use Rattle.std.proofs.lemmas.Bool.{cases_eq}
use Rattle.sectors.specs.Moments.{changed}
use Rattle.sector_runs.specs.Device.{Device, Restarts, noted}
use Rattle.sector_runs.specs.Steps.{WritesMayBeUndone}
use Rattle.sector_runs.proofs.Sectors.{changed_here, changed_there, noted_here}

-- of two and more the first and the second are among them
among : (first second left : List ℕ) (rest : List (List ℕ)) → (left ≡ first) ⊎ (left ≡ second) → Contains (first ∷ second ∷ rest) left
among first second left rest (inl is) = (0, omega arith, sym is)
among first second left rest (inr is) = (1, omega arith, sym is)

-- the sector has had what was there, and what was to be put there
has_had : (s : ℕ) (bytes left : List ℕ) (old : Device) → (left ≡ old.now s) ⊎ (left ≡ bytes) → Contains (noted s bytes old s) left
has_had s bytes left old is = subst (λ (l : List (List ℕ)). Contains l left) (sym (noted_here s bytes old)) (among (old.now s) bytes left (old.since s) is)

-- so a restart may leave that
left_over : (old new : Device) (s : ℕ) (bytes left : List ℕ) → new.since ≡ noted s bytes old → (left ≡ old.now s) ⊎ (left ≡ bytes) → (after : Device) × Restarts new after × (after.now ≡ changed s left new.now)
left_over old new s bytes left since is =
    (record { now = changed s left new.now; since = λ t. []; gone = new.gone }, record { kept = kept; since = refl; gone = refl }, refl)
  where
    here : Contains (new.since s) (changed s left new.now s)
    here =
        subst (λ (l : List ℕ). Contains (new.since s) l) (sym (changed_here s left new.now))
        (subst (λ (f : ℕ → List (List ℕ)). Contains (f s) left) (sym since) (has_had s bytes left old is))

    kept : (t : ℕ) → (changed s left new.now t ≡ new.now t) ⊎ Contains (new.since t) (changed s left new.now t)
    kept t =
        elim (cases_eq s t) [
          | inl same ↦ inr (subst (λ (n : ℕ). Contains (new.since n) (changed s left new.now n)) same here)
          | inr differ ↦ inl (changed_there s t left new.now differ)
        ]

pub writes_may_be_undone : WritesMayBeUndone
writes_may_be_undone old new s bytes left (inl put) is = left_over old new s bytes left put.1 is
writes_may_be_undone old new s bytes left (inr tried) is = left_over old new s bytes left tried.1 is
