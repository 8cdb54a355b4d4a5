-- Of the headline. A block at its place among the bytes of a disk, in each layout.
use Rattle.std.specs.Prelude.{◌+◌, ℕ, List, slice_range}
use Rattle.torn_block.specs.Layout.{Version, block_length, copy_length}
use Rattle.torn_block.specs.declared.block.Half.{Half}
use Rattle.torn_block.specs.declared.block.Half.TheVariants.{First, Second}
use Rattle.torn_block.specs.Block.{copy_of}

-- the block's bytes
abbrev pub block_in : Version → ℕ → List ℕ → List ℕ
block_in v place bytes = slice_range bytes place (place + block_length v)

-- where a copy begins in a block whose copies have so many bytes
abbrev pub offset_by : ℕ → Half → ℕ
offset_by size First = 0
offset_by size Second = size

abbrev pub offset_of : Version → Half → ℕ
offset_of v half = offset_by (copy_length v) half

unfoldable pub copy_in : Version → Half → ℕ → List ℕ → List ℕ
copy_in v half place bytes = copy_of v half (block_in v place bytes)
