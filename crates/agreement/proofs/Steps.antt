-- Runs of anything: a run of two parts, and what every step keeps.
use Rattle.std.proofs.Common.{◌≡◌, List, [], ◌∷◌, ◌++◌, refl}
use Rattle.agreement.specs.Run.{state_by, AllMay}

module _ {State Step : Type 0} (after : State → Step → State) where
  -- the second part goes on where the first ends
  pub state_by-append : (s : State) (early late : List Step) → state_by after s (early ++ late) ≡ state_by after (state_by after s early) late
  state_by-append s [] late = refl
  state_by-append s (e ∷ early) late = state_by-append (after s e) early late

  module _ (May : State → Step → Type 0) where
    -- each part is a run, and two parts that are make one
    pub may_early : (s : State) (early late : List Step) → AllMay after May s (early ++ late) → AllMay after May s early
    may_early s [] late a = tt
    may_early s (e ∷ early) late a = (a.0, may_early (after s e) early late a.1)

    pub may_late : (s : State) (early late : List Step) → AllMay after May s (early ++ late) → AllMay after May (state_by after s early) late
    may_late s [] late a = a
    may_late s (e ∷ early) late a = may_late (after s e) early late a.1

    pub may_both : (s : State) (early late : List Step) → AllMay after May s early → AllMay after May (state_by after s early) late → AllMay after May s (early ++ late)
    may_both s [] late a b = b
    may_both s (e ∷ early) late a b = (a.0, may_both (after s e) early late a.1 b)

    -- what each step keeps, a run keeps
    pub kept_by : (P : State → Type 0) → ((s : State) (e : Step) → P s → May s e → P (after s e)) → (s : State) (es : List Step) → P s → AllMay after May s es → P (state_by after s es)
    kept_by P keeps s [] i a = i
    kept_by P keeps s (e ∷ es) i a = kept_by P keeps (after s e) es (keeps s e i a.0) a.1
