-- Clients that are taken away one after another, once none that is left keeps them waiting.
use Rattle.std.specs.Prelude.{◌≡◌, ◌<◌, ℕ, Bool, true, false, List, length, slice_index_or, nat_eq}
use Rattle.std.specs.List.{IsDistinct, list_any}
use Rattle.inspect.specs.Marks.{Marked}

-- the client is left
abbrev pub is_left : List Bool → ℕ → Bool
is_left left a = slice_index_or left a false

-- the client was taken
abbrev pub is_taken : List ℕ → ℕ → Bool
is_taken taken a = list_any (nat_eq a) taken

-- one that is left keeps the client waiting
pub record IsHeldUp (edges left : List Bool) (a : ℕ) : Type 0 where
  pub by : ℕ
  pub marked : Marked edges a by
  pub is_left : is_left left by ≡ true

-- each client that is blocked has a flag
abbrev pub HasBlocked : List Bool → List Bool → Type 0
HasBlocked edges flags = (a b : ℕ) → Marked edges a b → slice_index_or flags a false ≡ true

-- those that were taken have ranks, and those whom they wait for were taken before
pub record IsPeeled (edges left : List Bool) (ranks taken : List ℕ) : Type 0 where
  pub as_many : length left ≡ 256
  pub as_many_ranks : length ranks ≡ 256
  pub not_taken : (a : ℕ) → is_left left a ≡ true → is_taken taken a ≡ false
  pub ranked : (a : ℕ) → a < 256 → is_left left a ≡ false → slice_index_or ranks a 0 < length taken
  pub before : (a b : ℕ) → Marked edges a b → is_left left a ≡ false → is_left left b ≡ false
  pub falls : (a b : ℕ) → Marked edges a b → is_left left a ≡ false → slice_index_or ranks b 0 < slice_index_or ranks a 0
  pub distinct : IsDistinct nat_eq taken
  pub fit : (a : ℕ) → is_taken taken a ≡ true → a < 256

-- each that is left is kept waiting by one that is left
abbrev pub AreHeldUp : List Bool → List Bool → Type 0
AreHeldUp edges left = (a : ℕ) → is_left left a ≡ true → IsHeldUp edges left a
