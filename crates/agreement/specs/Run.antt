-- Runs of anything: one thing happens after another, and each may happen where it stands.
use Rattle.std.specs.Prelude.{List, [], ◌∷◌}

-- the state after all of them
abbrev pub state_by : {State Step : Type 0} → (State → Step → State) → State → List Step → State
state_by after s [] = s
state_by after s (e ∷ es) = state_by after (after s e) es

-- each may happen in the state after those before it
abbrev pub AllMay : {State Step : Type 0} → (State → Step → State) → (State → Step → Type 0) → State → List Step → Type 0
AllMay after May s [] = Unit {0}
AllMay after May s (e ∷ es) = May s e × AllMay after May (after s e) es
