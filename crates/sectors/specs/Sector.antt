-- A sector: the block that it has, its stamp, and what a write makes of it.
use Rattle.std.specs.Prelude.{◌+◌, ◌++◌, ℕ, List, take, drop}
use Rattle.disk.specs.Disk.{put_at}
use Rattle.torn_block.specs.declared.layout.TheConstants.{BLOCK_LENGTH}
use Rattle.torn_block.specs.Block.{number_bytes}
use Rattle.paxos_block.specs.Saying.{number_at}
use Rattle.sectors.specs.declared.sector.TheConstants.{STAMPED_LENGTH}

-- the block is first
abbrev pub block_of : List ℕ → List ℕ
block_of sector = take BLOCK_LENGTH sector

-- then there is the stamp
abbrev pub stamp_of : List ℕ → ℕ
stamp_of sector = number_at BLOCK_LENGTH sector

-- the two together: what a reader looks at
abbrev pub stamped_of : List ℕ → List ℕ
stamped_of sector = take STAMPED_LENGTH sector

-- the sector once these bytes are put into its block: the stamp is the next one, and what is behind it stays
abbrev pub sector_with : ℕ → List ℕ → List ℕ → List ℕ
sector_with offset from sector =
    put_at (block_of sector) offset from ++ (number_bytes (stamp_of sector + 1) ++ drop STAMPED_LENGTH sector)
