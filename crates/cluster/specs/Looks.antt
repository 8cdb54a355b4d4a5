-- What a look adds to its host's own list.
use Rattle.std.specs.Prelude.{◌≡◌, List, [], ◌∷◌, ◌++◌}
use Rattle.attempt.specs.Looking.{OnlyReads}
use Rattle.world.specs.Entry.{Filled, Called, Torn}
use Rattle.cluster_tie.specs.Parts.{Placed, Own}

-- the entry writes nothing on a disk, and syncs nothing there
abbrev pub IsReading : Filled → Type 0
IsReading (Called h d call answer left) = OnlyReads call
IsReading (Torn h d call left) = ⊥
IsReading other = Unit {0}

-- nor does any of these
abbrev pub AreReadings : List Placed → Type 0
AreReadings [] = Unit {0}
AreReadings (x ∷ xs) = IsReading x.1 × AreReadings xs

-- whatever was added, none of it writes or syncs
pub record WritesNothing (old new : Own) : Type 0 where
  pub added : List Placed
  pub is : new.entries ≡ old.entries ++ added
  pub reads : AreReadings added
