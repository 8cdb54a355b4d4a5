-- Which blocks of a row are damaged, host by host.
use Rattle.std.specs.Prelude.{ℕ, Bool, List}
use Rattle.torn_block.specs.Layout.{cluster_version}
use Rattle.torn_block.specs.Damage as blocks
use Rattle.paxos_block.specs.Row.{IsSound, is_sound}

abbrev pub AreDamagedBlocks : List ℕ → List Bool → Type 0
AreDamagedBlocks = blocks.AreDamaged cluster_version (IsSound cluster_version)

-- the same as one function of the bytes
abbrev pub damaged_in : List ℕ → List Bool
damaged_in = blocks.damaged_in cluster_version (is_sound cluster_version)
