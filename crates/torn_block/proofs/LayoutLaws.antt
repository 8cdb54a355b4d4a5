-- What is true of the lengths of both layouts.
use Rattle.std.specs.Prelude.{◌≤◌, ◌*◌, ◌+◌, ◌<◌, ℕ}
use Rattle.std.proofs.Common.{arith}
use Rattle.torn_block.specs.Layout.{Version, Version1, Version2, copy_length, value_length, hosts_in, block_length, row_length}

-- a copy has a gate, a heading, three numbers and more
pub long_copy : (v : Version) → 64 ≤ copy_length v
long_copy Version1 = omega arith
long_copy Version2 = omega arith

-- a copy has room for a heading, three numbers and an input
pub long_value : (v : Version) → 32 + value_length v ≤ copy_length v
long_value Version1 = omega arith
long_value Version2 = omega arith

-- BLOCKS IN A ROW, and rows behind one another

pub some_hosts : (v : Version) → 8 ≤ hosts_in v
some_hosts Version1 = omega arith
some_hosts Version2 = omega arith

pub few_hosts : (v : Version) → hosts_in v ≤ 16
few_hosts Version1 = omega arith
few_hosts Version2 = omega arith

pub short_row : (v : Version) → row_length v ≤ 4096
short_row Version1 = omega arith
short_row Version2 = omega arith

pub blocks_follow : (v : Version) (h k : ℕ) → h < k → block_length v * h + block_length v ≤ block_length v * k
blocks_follow Version1 h k below = omega arith
blocks_follow Version2 h k below = omega arith

pub row_holds : (v : Version) (h : ℕ) → h < hosts_in v → block_length v * h + block_length v ≤ row_length v
row_holds Version1 h below = omega arith
row_holds Version2 h below = omega arith

pub rows_follow : (v : Version) (s t : ℕ) → s < t → row_length v * s + row_length v ≤ row_length v * t
rows_follow Version1 s t below = omega arith
rows_follow Version2 s t below = omega arith
