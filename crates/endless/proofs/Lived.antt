-- A recovery that misses nothing of an epoch is not of one that was whole before it began.
use Rattle.std.specs.Prelude.{◌-◌, slice_get}
use Rattle.std.proofs.Common.{ℕ, zero, suc, ◌≡◌, ◌+◌, ◌≤◌, ◌<◌, Some, List, [], ◌∷◌, length, refl, subst, arith}
use Rattle.lock_command.specs.Command.{spelling}
use Rattle.paxos_block.specs.Shape.{Shape}
use Rattle.host.specs.Host.{Memory}
use Rattle.world.specs.Chosen.{IsRecovery}
use Rattle.world_safety.specs.Tracks.{IsChosenBefore, IsTrue, IsTrueOf}
use Rattle.world_safety.proofs.Claims.Recovering.{misses_nothing}
use Rattle.world_safety.proofs.Runs.Knowing.{chosen_upto}
use Rattle.world_safety.proofs.Runs.Tracks.{all_true}
use Rattle.endless.specs.Lived.{Lived, part, now, RunsIn, IsWholeBy, IsLived, RecoveriesAreOfTheLast}
use Rattle.endless.proofs.Places.{now_rises}

-- the last item of a list
last_of : {A : Type 0} (items : List A) (n : ℕ) → length items ≡ suc n → (item : A) × (slice_get items n ≡ Some item)
last_of [] n is = absurd (omega (arith, is))
last_of (x ∷ items) zero is = (x, refl)
last_of (x ∷ items) (suc n) is = last_of items n (omega (arith, is))

module _ (c : Shape) (lived : List Lived) (some : 1 ≤ c.slots) (is : IsLived c lived) where
  -- of an epoch that is whole by a place the last slot was chosen before each later one
  last_chosen : (e i : ℕ) → IsWholeBy c lived e i → (value : List ℕ) × IsChosenBefore c (part e lived) (now e i lived) (c.slots - 1) value
  last_chosen e i whole =
      let run = is.is_run e in
      let p = now e whole.place lived in
      let known : IsTrue c (part e lived) p whole.host whole.memory = subst (IsTrueOf c (part e lived) p whole.host) whole.runs (all_true c (part e lived) run p whole.host) in
      let long = whole.whole in
      let item = last_of whole.memory.learned (c.slots - 1) (omega (arith, long, some)) in
      let there : slice_get whole.memory.learned (c.slots - 1) ≡ Some item.0 = item.1 in
      (spelling item.0, chosen_upto c (part e lived) p (now e i lived) (c.slots - 1) (spelling item.0) (now_rises e whole.place i lived whole.by) (known.learned (c.slots - 1) item.0 there).1)

  module _ (i j e h n : ℕ) (recovers : IsRecovery c (part e lived) (now e i lived) j h n) (less : n < c.slots) where
    not_whole : IsWholeBy c lived e i → ⊥
    not_whole whole =
        let chosen = last_chosen e i whole in
        let holds = misses_nothing c (part e lived) (is.is_run e) (now e i lived) j h n (c.slots - 1) chosen.0 recovers chosen.1 in
        omega (arith, holds, less, some)

    whole_later : (k f : ℕ) → k ≤ i → IsWholeBy c lived f k → IsWholeBy c lived f i
    whole_later k f order whole = record { place = whole.place; by = (let b = whole.by in omega (arith, b, order)); host = whole.host; memory = whole.memory; runs = whole.runs; whole = whole.whole }

    nobody : (f d k g : ℕ) (memory : Memory) → d ≡ f + suc e → k ≤ i → RunsIn c lived k d g memory → ⊥
    nobody zero d k g memory far order runs =
        let next : d ≡ suc e = omega (arith, far) in
        not_whole (whole_later k e order (is.in_turn k e g memory (subst (λ (x : ℕ). RunsIn c lived k x g memory) next runs)))
    nobody (suc f) d k g memory far order runs =
        let next : d ≡ suc (f + suc e) = omega (arith, far) in
        let whole = is.in_turn k (f + suc e) g memory (subst (λ (x : ℕ). RunsIn c lived k x g memory) next runs) in
        nobody f (f + suc e) whole.place whole.host whole.memory refl (let b = whole.by in omega (arith, b, order)) whole.runs

pub recoveries_are_of_the_last : RecoveriesAreOfTheLast
recoveries_are_of_the_last c lived some is i j e h n recovers less k f g memory order runs = nobody c lived some is i j e h n recovers less f (f + suc e) k g memory refl order runs
