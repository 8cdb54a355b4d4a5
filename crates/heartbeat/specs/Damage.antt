-- Which blocks of a heartbeat area are damaged, host by host.
use Rattle.std.specs.Prelude.{ℕ, Bool, List}
use Rattle.torn_block.specs.Layout.{cluster_version}
use Rattle.torn_block.specs.Damage as blocks
use Rattle.heartbeat.specs.Beat.{IsBeat, is_beat}

abbrev pub AreDamagedBeats : List ℕ → List Bool → Type 0
AreDamagedBeats = blocks.AreDamaged cluster_version (λ host. IsBeat)

-- the same as one function of the bytes
abbrev pub damaged_in : List ℕ → List Bool
damaged_in = blocks.damaged_in cluster_version (λ host. is_beat)
