-- There is a last epoch in which somebody is, and each one before it was learned whole.
use Rattle.std.specs.Prelude.{◌-◌, take}
use Rattle.std.proofs.Common.{ℕ, zero, suc, ◌≡◌, ◌+◌, ◌≤◌, ◌<◌, ◌⊎◌, Bool, cond, List, [], ◌∷◌, length, refl, sym, ◌∙◌, ap, subst, inl, inr, arith}
use Rattle.std.proofs.lemmas.Bool.{cases_lt, ne_eqb}
use Rattle.torn_block.specs.declared.layout.TheConstants.{HOSTS}
use Rattle.paxos_block.specs.Shape.{Shape}
use Rattle.host.specs.Host.{Memory, Host, Stopped, Running}
use Rattle.world.specs.Entry.{of_host, host_after}
use Rattle.world.specs.World.{IsRun}
use Rattle.world.specs.Chosen.{at}
use Rattle.world_safety.specs.Tied.{HostAt, IsRunning}
use Rattle.world_safety.proofs.Runs.Tracks.{moves_at, tied_at}
use Rattle.endless.specs.Lived.{Lived, In, Crash, Loss, part, now, RunsIn, IsWholeBy}
use Rattle.endless.proofs.Places.{now_within, place_for}

-- in later epochs nothing is done by hosts
abbrev bound : List Lived → ℕ
bound [] = 0
bound (In epoch entry ∷ lived) = suc epoch + bound lived
bound (Crash disk left ∷ lived) = bound lived
bound (Loss disk ∷ lived) = bound lived

quiet : (c : Shape) (e h : ℕ) (lived : List Lived) (n : ℕ) → bound lived ≤ e → host_after c h Stopped (of_host h (take n (part e lived))) ≡ Stopped
quiet c e h [] zero later = refl
quiet c e h [] (suc n) later = refl
quiet c e h (Crash disk left ∷ lived) zero later = refl
quiet c e h (Crash disk left ∷ lived) (suc n) later = quiet c e h lived n later
quiet c e h (Loss disk ∷ lived) zero later = refl
quiet c e h (Loss disk ∷ lived) (suc n) later = quiet c e h lived n later
quiet c e h (In epoch entry ∷ lived) n later =
    let other = ne_eqb epoch e (λ same. omega (arith, later, same)) in
    ap (λ (b : Bool). host_after c h Stopped (of_host h (take n (cond b (entry ∷ part e lived) (part e lived))))) other ∙ quiet c e h lived n (omega (arith, later))

runs_or_not : (host : Host) → ((m : Memory) × (host ≡ Running m)) ⊎ ((m : Memory) → host ≡ Running m → ⊥)
runs_or_not Stopped = inr (λ m is. cc)
runs_or_not (Running m) = inl (m, refl)

-- what holds of some number below n, or of none
some_below : (P : ℕ → Type 0) → ((k : ℕ) → P k ⊎ (P k → ⊥)) → (n : ℕ) → ((k : ℕ) × P k) ⊎ ((k : ℕ) → k < n → P k → ⊥)
some_below P tells zero = inr (λ k less is. omega (arith, less))
some_below P tells (suc n) = elim (tells n) [
  | inl is ↦ inl (n, is)
  | inr not ↦
      elim (some_below P tells n) [
        | inl found ↦ inl found
        | inr none ↦ inr (λ k less is. elim (cases_lt k n) [
          | inl below ↦ none k below is
          | inr not_below ↦ (let same : k ≡ n = omega (arith, less, not_below) in not (subst P same is))
        ])
      ]
]

module _ (c : Shape) (lived : List Lived) (run : (e : ℕ) → IsRun c (part e lived)) (in_turn : (i e h : ℕ) (memory : Memory) → RunsIn c lived i (suc e) h memory → IsWholeBy c lived e i) where
  -- somebody runs at a place of the epoch
  abbrev IsIn : ℕ → ℕ → ℕ → Type 0
  IsIn e n h = (m : Memory) × ((at c (part e lived) n).host h ≡ Running m)

  below_hosts : (e n h : ℕ) → IsIn e n h → h < HOSTS
  below_hosts e n h is =
      let running : IsRunning c (at c (part e lived) n) (moves_at c (part e lived) (run e) n) h is.0 =
      subst (HostAt c (at c (part e lived) n) (moves_at c (part e lived) (run e) n) h) is.1 ((tied_at c (part e lived) (run e) n).hosts h) in
      running.below

  some_host : (e n : ℕ) → ((h : ℕ) × IsIn e n h) ⊎ (((h : ℕ) × IsIn e n h) → ⊥)
  some_host e n = elim (some_below (IsIn e n) (λ h. tells h) HOSTS) [
    | inl found ↦ inl found
    | inr none ↦ inr (λ is. none is.0 (below_hosts e n is.0 is.1) is.1)
  ]
    where
      tells : (h : ℕ) → IsIn e n h ⊎ (IsIn e n h → ⊥)
      tells h = elim (runs_or_not ((at c (part e lived) n).host h)) [ inl is ↦ inl is | inr not ↦ inr (λ is. not is.0 is.1) ]

  pub record IsSomewhere (e : ℕ) : Type 0 where
    pub place : ℕ
    pub host : ℕ
    pub memory : Memory
    pub runs : RunsIn c lived place e host memory

  somewhere : (e : ℕ) → IsSomewhere e ⊎ ((i h : ℕ) (memory : Memory) → RunsIn c lived i e h memory → ⊥)
  somewhere e = elim (some_below (λ n. (h : ℕ) × IsIn e n h × (n ≤ length (part e lived))) tells (suc (length (part e lived)))) [
    | inl found ↦
        (let k = place_for e lived found.0 found.1.2 in
        inl (record { place = k.0; host = found.1.0; memory = found.1.1.0; runs = ap (λ (n : ℕ). (at c (part e lived) n).host found.1.0) k.1 ∙ found.1.1.1 }))
    | inr none ↦ inr (λ i h memory runs. let within = now_within e i lived in none (now e i lived) (omega (arith, within)) (h, (memory, runs), within))
  ]
    where
      tells : (n : ℕ) → ((h : ℕ) × IsIn e n h × (n ≤ length (part e lived))) ⊎ (((h : ℕ) × IsIn e n h × (n ≤ length (part e lived))) → ⊥)
      tells n = elim (cases_lt (length (part e lived)) n) [
        | inl past ↦ inr (λ is. let within = is.2 in omega (arith, past, within))
        | inr within ↦ elim (some_host e n) [ inl is ↦ inl (is.0, is.1, within) | inr not ↦ inr (λ is. not (is.0, is.1)) ]
      ]

  -- an epoch before one in which somebody is was learned whole
  whole_before : (d e f i h : ℕ) (memory : Memory) → f ≡ d + suc e → RunsIn c lived i f h memory → (j : ℕ) × IsWholeBy c lived e j
  whole_before zero e f i h memory far runs =
      let next : f ≡ suc e = omega (arith, far) in
      (i, in_turn i e h memory (subst (λ (x : ℕ). RunsIn c lived i x h memory) next runs))
  whole_before (suc d) e f i h memory far runs =
      let next : f ≡ suc (d + suc e) = omega (arith, far) in
      let whole = in_turn i (d + suc e) h memory (subst (λ (x : ℕ). RunsIn c lived i x h memory) next runs) in
      whole_before d e (d + suc e) whole.place whole.host whole.memory refl whole.runs

  pub record IsLast (last : ℕ) : Type 0 where
    pub whole : (e : ℕ) → e < last → (i : ℕ) × IsWholeBy c lived e i
    pub none : (i e h : ℕ) (memory : Memory) → RunsIn c lived i e h memory → e ≤ last

  last_below : (b : ℕ) → ((i e h : ℕ) (memory : Memory) → RunsIn c lived i e h memory → e < b) → (last : ℕ) × IsLast last
  last_below zero below = (0, record { whole = λ e less. absurd (omega (arith, less)); none = λ i e h memory runs. let less = below i e h memory runs in omega (arith, less) })
  last_below (suc b) below = elim (somewhere b) [
    | inl is ↦ (
      b,
      record {
        whole = λ e less. whole_before (b - suc e) e b is.place is.host is.memory (omega (arith, less)) is.runs;
        none = λ i e h memory runs. let less = below i e h memory runs in omega (arith, less);
      },
    )
    | inr nobody ↦
        last_below b (λ i e h memory runs. elim (cases_lt e b) [
          | inl less ↦ less
          | inr not_less ↦
              (let less = below i e h memory runs in
              let same : e ≡ b = omega (arith, less, not_less) in
              absurd (nobody i h memory (subst (λ (x : ℕ). RunsIn c lived i x h memory) same runs)))
        ])
  ]

  all_below : (i e h : ℕ) (memory : Memory) → RunsIn c lived i e h memory → e < bound lived
  all_below i e h memory runs = elim (cases_lt e (bound lived)) [
    | inl less ↦ less
    | inr later ↦ absurd (let stopped : Running memory ≡ Stopped = sym runs ∙ quiet c e h lived (now e i lived) later in cc)
  ]

  pub last_epoch : (last : ℕ) × IsLast last
  last_epoch = last_below (bound lived) all_below
