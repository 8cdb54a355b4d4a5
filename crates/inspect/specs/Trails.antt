-- A trail of clients, the circle that it closes, and the same circle begun at another place.
use Rattle.std.specs.Prelude.{◌≡◌, ℕ, List, [], ◌∷◌, ◌++◌}
use Rattle.inspect.specs.Blocked.{Chain}

-- Each leads to the next, and this one stands last: whatever it leads to closes the chain.
abbrev pub IsTrail : (ℕ → ℕ → Type 0) → List ℕ → ℕ → Type 0
IsTrail Leads [] last = ⊥
IsTrail Leads (x ∷ xs) last = (z : ℕ) → Leads last z → Chain Leads x xs z

-- each leads to the next, and the last to the first
abbrev pub IsCircle : (ℕ → ℕ → Type 0) → List ℕ → Type 0
IsCircle Leads [] = ⊥
IsCircle Leads (x ∷ xs) = Chain Leads x xs x

-- the same circle, begun at another place
pub record IsTurned (old new : List ℕ) : Type 0 where
  pub front : List ℕ
  pub back : List ℕ
  pub was : old ≡ front ++ back
  pub is : new ≡ back ++ front
