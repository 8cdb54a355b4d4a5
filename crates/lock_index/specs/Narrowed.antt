-- How far a search has come.
use Rattle.std.specs.Prelude.{◌≡◌, ◌≤◌, ℕ, ◌+◌, Bool, true, false, List, length}
use Rattle.std.specs.List.{AllWithin}

-- what is known of a list where all in front of a place pass, and all behind so many more fail
pub record IsNarrowed {X : Type 0} (p : X → Bool) (xs : List X) (from size : ℕ) : Type 0 where
  pub front : AllWithin (λ x. p x ≡ true) xs 0 from
  pub behind : AllWithin (λ x. p x ≡ false) xs (from + size) (length xs)
  pub inside : from + size ≤ length xs
