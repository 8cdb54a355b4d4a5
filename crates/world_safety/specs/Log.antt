-- The log of a list of entries up to a place.
use Rattle.std.specs.Prelude.{◌≡◌, ℕ, List, slice_get, Some}
use Rattle.paxos_block.specs.Shape.{Shape}
use Rattle.world.specs.Entry.{Filled}
use Rattle.world_safety.specs.Tracks.{IsChosenBefore}

-- the values are those that were chosen before place i, by slot, and beside them none was
pub record IsLogBefore (c : Shape) (log : List Filled) (i : ℕ) (values : List (List ℕ)) : Type 0 where
  pub chosen : (s : ℕ) (v : List ℕ) → slice_get values s ≡ Some v → IsChosenBefore c log i s v
  pub all : (s : ℕ) (v : List ℕ) → IsChosenBefore c log i s v → slice_get values s ≡ Some v
