-- Of the headline. What an attempt begins with.
use Rattle.std.specs.Prelude.{ℕ, List, Option}
use Rattle.torn_block.specs.Layout.{Version}

-- A host tries a slot over so many disks of a layout, with a ballot above its floor, and proposes its input where it finds none.
pub record Setup : Type 0 where
  pub version : Version
  pub host : ℕ
  pub slot : ℕ
  pub disks : ℕ
  pub floor : ℕ
  pub input : Option (List ℕ)
