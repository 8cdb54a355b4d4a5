-- A row as an image has it, out of its sectors.
use Rattle.std.specs.Prelude.{◌≡◌, ◌+◌, ◌*◌, ◌≤◌, ◌<◌, ℕ, List, length, slice_range}
use Rattle.torn_block.specs.Layout.{cluster_version}
use Rattle.torn_block.specs.declared.layout.TheConstants.{HOSTS, BLOCK_LENGTH, ROW_LENGTH}
use Rattle.torn_block.specs.Damage as row
use Rattle.paxos_block.specs.Saying.{zeros}
use Rattle.sectors.specs.declared.geometry.Geometry.{Geometry}
use Rattle.sectors.specs.Sector.{block_of, stamped_of}

-- a host's sector among those of a row
abbrev pub sector_in : Geometry → ℕ → List ℕ → List ℕ
sector_in geometry host sectors = slice_range sectors (geometry.sector_size * host) (geometry.sector_size * host + geometry.sector_size)

-- A row has the block of each host's sector, and zeros for each host that there is not.
pub record IsRowOf (geometry : Geometry) (sectors bytes : List ℕ) : Type 0 where
  pub as_long : length bytes ≡ ROW_LENGTH
  pub blocks : (host : ℕ) → host < geometry.hosts → row.block_of cluster_version host bytes ≡ block_of (sector_in geometry host sectors)
  pub others : (host : ℕ) → geometry.hosts ≤ host → host < HOSTS → row.block_of cluster_version host bytes ≡ zeros BLOCK_LENGTH

-- two reads of a row's sectors agree: each sector has the same block and the same stamp
abbrev pub Agree : Geometry → List ℕ → List ℕ → Type 0
Agree geometry one other =
    (host : ℕ) → host < geometry.hosts → stamped_of (sector_in geometry host one) ≡ stamped_of (sector_in geometry host other)
