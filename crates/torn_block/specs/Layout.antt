-- Of the headline. The two layouts of an image, and their lengths.
use Rattle.std.specs.Prelude.{◌*◌, ◌-◌, ℕ}
use Rattle.torn_block.specs.declared.layout.TheConstants.{HEADER_LENGTH}

-- the number of a layout, in each header and each copy
pub data Version : Type 0 where
  Version1 : Version
  Version2 : Version

abbrev pub number_of : Version → ℕ
number_of Version1 = 1
number_of Version2 = 2

-- hosts are numbered from 0 to one below this
abbrev pub hosts_in : Version → ℕ
hosts_in Version1 = 8
hosts_in Version2 = 16

-- the bytes of a copy: its gate, and the tail behind it
abbrev pub copy_length : Version → ℕ
copy_length Version1 = 64
copy_length Version2 = 128

-- all of a copy but its gate
abbrev pub tail_length : Version → ℕ
tail_length v = copy_length v - 1

-- all of a copy but its gate and its sequence number
abbrev pub body_length : Version → ℕ
body_length v = copy_length v - 9

-- the bytes of an input
abbrev pub value_length : Version → ℕ
value_length Version1 = 32
value_length Version2 = 48

-- the zeros behind an input, to the end of its copy
abbrev pub padding : Version → ℕ
padding Version1 = 0
padding Version2 = 48

-- the two copies of a block
abbrev pub block_length : Version → ℕ
block_length v = 2 * copy_length v

-- a block of each host: a slot's row, and the heartbeat area
abbrev pub row_length : Version → ℕ
row_length v = hosts_in v * block_length v

-- where the heartbeat area begins: behind the header, and as many zeros as make a row
abbrev pub area_place : Version → ℕ
area_place Version1 = HEADER_LENGTH
area_place Version2 = 4096

-- the layout of a cluster's images: what does not name a layout is of this one
abbrev pub cluster_version : Version
cluster_version = Version2
