use Rattle.std.proofs.Common.{◌≡◌, ◌<◌, ℕ, length}
use Rattle.torn_block.specs.Layout.{cluster_version}
use Rattle.torn_block.specs.Damage as row
use Rattle.sectors.specs.Row.{sector_in}
use Rattle.sectors.specs.Sector.{block_of}
use Rattle.sectors.proofs.row.gather.Given as goal

abbrev pub invariant-loop-host : goal.invariant-loop-host
invariant-loop-host l =
    (length l.row ≡ 4096) × ((host : ℕ) → host < l.host → row.block_of cluster_version host l.row ≡ block_of (sector_in l.geometry host l.sectors))
