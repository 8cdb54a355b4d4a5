-- Which images are to be made together: of what kind of log, how many, how long, and what each begins with.
use Rattle.std.specs.Prelude.{ℕ, List}
use Rattle.paxos_block.specs.Shape.{Shape}
use Rattle.endless_image.specs.declared.kind.Kind.{Kind}
use Rattle.endless_image.specs.Kinds.{header_by, size_by}

-- the kind of their log, how many disks and slots, and their cluster's number
pub record Wanted : Type 0 where
  pub kind : Kind
  pub config : Shape
  pub cluster : ℕ

-- the bytes of each
abbrev pub size_for : Wanted → ℕ
size_for set = size_by set.kind set.config.slots

-- the first bytes of the image of this disk
abbrev pub header_for : Wanted → (disk : ℕ) → List ℕ
header_for set disk = header_by set.kind disk set.config set.cluster
