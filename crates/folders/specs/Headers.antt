-- The header of an image, or why it has none: it may be right by its layout, or by the one that images had before.
use Rattle.std.specs.Prelude.{◌==◌, ◌<◌, ℕ, List, slice_index, if◌then◌else◌}
use Rattle.torn_block.specs.Layout.{Version, Version1, number_of, cluster_version}
use Rattle.paxos_block.specs.declared.header.Header.{Header}
use Rattle.paxos_block.specs.Headers.{header_in, HasNoHeader, IsRight}
use Rattle.paxos_block.specs.Places.{image_length}
use Rattle.folders.specs.declared.header.TheConstants.{VERSION_AT}

-- An image of this length, with these first bytes, is right as that of this disk by the layout that images had before this one.
pub record IsOld (v : Version) (disk long : ℕ) (bytes : List ℕ) : Type 0 where
  pub later : number_of Version1 < number_of v
  pub header : Header
  pub right : IsRight Version1 disk long bytes header

-- The gate is open, and the header is right neither by this layout nor by the one before.
pub record HasWrongHeader (v : Version) (disk long : ℕ) (bytes : List ℕ) : Type 0 where
  pub none : HasNoHeader v disk long bytes
  pub not_old : ¬ IsOld v disk long bytes

-- how long an image is by its first bytes, in the layout whose number stands in them
abbrev pub told_length : List ℕ → ℕ
told_length bytes =
    if slice_index bytes VERSION_AT == number_of Version1 then image_length Version1 (header_in bytes).slots else image_length cluster_version (header_in bytes).slots
