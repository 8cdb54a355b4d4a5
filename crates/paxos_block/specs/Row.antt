-- Of the headline. A row: a block of each host, when it is damaged, and what it says, in each layout.
use Rattle.std.specs.Prelude.{◌≡◌, ◌&&◌, ◌*◌, ◌<◌, ◌≤◌, ℕ, Bool, false, List, ◌∷◌, length, map, slice_index_or, Option, Some, None, if◌then◌else◌}
use Rattle.std.specs.List.{HoldsAt}
use Rattle.torn_block.specs.declared.layout.TheConstants.{HOSTS_ROOM, COPY_ROOM}
use Rattle.torn_block.specs.Layout.{Version, hosts_in}
use Rattle.torn_block.specs.Block.{sequence_of, body_of, tail_with, value_of, number_in}
use Rattle.torn_block.specs.Plan.{IsReading, told_number}
use Rattle.torn_block.specs.Damage.{IsSequence, IsSoundBlock, IsDamaged, block_of, hosts, is_sequence, has_damage}
use Rattle.torn_block.specs.declared.block.TheConstants.{OPEN_GATE}
use Rattle.paxos_block.specs.declared.cell.Cell.{Cell}
use Rattle.paxos_block.specs.declared.row.Row.{Row}
use Rattle.paxos_block.specs.Saying.{zeros, Said, said_as, MaySay, body_saying, claim_of, is_said}

-- the open copy that says this under a sequence number
abbrev pub copy_saying : Version → ℕ → Said → List ℕ
copy_saying v sequence says = OPEN_GATE ∷ tail_with sequence (body_saying v says)

-- this copy in a host's block says this
pub record Says (v : Version) (host : ℕ) (copy : List ℕ) (sequence : ℕ) (says : Said) : Type 0 where
  pub is_sequence : IsSequence sequence
  pub may_say : MaySay v host says
  pub spelled : copy ≡ copy_saying v sequence says

-- an open copy is sound where it says something
pub record IsSound (v : Version) (host : ℕ) (copy : List ℕ) : Type 0 where
  pub sequence : ℕ
  pub says : Said
  pub so : Says v host copy sequence says

-- some open copy of a host's block says nothing, or both copies are open with one sequence number
abbrev pub IsDamagedRow : Version → List ℕ → Type 0
IsDamagedRow v row = IsDamaged v (IsSound v) row

-- ---- what it says

-- what a blank block says
abbrev pub blank : Said
blank = record { mbal = 0; bal = 0; inp = None; mark = false }

-- what a block's value says, which is its sequence number and body
abbrev pub says_of : Version → Option (ℕ × List ℕ) → Said
says_of v None = blank
says_of v (Some value) = claim_of v value.1

-- a blank value says the blank block, and any other what it is spelled to say
abbrev pub IsSaid : Version → ℕ → Option (ℕ × List ℕ) → Said → Type 0
IsSaid v host None says = says ≡ blank
IsSaid v host (Some value) says = IsSequence value.0 × MaySay v host says × (value.1 ≡ body_saying v says)

-- a host's cell of a row, over the bytes of its block
pub record IsCell {V : Type 0} (v : Version) (spelled : V → List ℕ) (host : ℕ) (block : List ℕ) (cell : Cell V) : Type 0 where
  pub sound : IsSoundBlock v (IsSound v host) block
  pub read : IsReading v block cell.block
  pub says : said_as spelled cell.says ≡ says_of v (value_of v block)

-- the cell of a block whose gates are both shut
abbrev pub blank_cell : {V : Type 0} → Cell V
blank_cell = record { block = record { current = None; sequence = 0; next_is_open = false }; says = record { mbal = 0; bal = 0; inp = None; mark = false } }

-- a row over its bytes; the cell of a host that there is not is blank
pub record IsRow {V : Type 0} (v : Version) (spelled : V → List ℕ) (bytes : List ℕ) (row : Row V) : Type 0 where
  pub cells : (host : ℕ) → host < hosts_in v → HoldsAt (IsCell v spelled host (block_of v host bytes)) row.cells host
  pub others : (host : ℕ) → hosts_in v ≤ host → host < HOSTS_ROOM → HoldsAt (λ cell. cell ≡ blank_cell) row.cells host

-- ---- a row as one function of its bytes

-- a copy says something, as a test
abbrev pub is_sound : Version → ℕ → List ℕ → Bool
is_sound v host copy = is_sequence (sequence_of copy) && is_said v host (body_of copy)

-- A host's block as it is seen in a row: its bytes, the sequence number of its current copy, and what it says.
pub record DecodedBlock : Type 0 where
  pub bytes : List ℕ
  pub sequence : ℕ
  pub says : Said

-- 0 where the block is blank
abbrev pub number_or_zero : Option ℕ → ℕ
number_or_zero None = 0
number_or_zero (Some number) = number

abbrev pub sequence_or_zero : Option (ℕ × List ℕ) → ℕ
sequence_or_zero value = number_or_zero (number_in value)

abbrev pub seen_in : Version → List ℕ → DecodedBlock
seen_in v block = record { bytes = block; sequence = sequence_or_zero (value_of v block); says = says_of v (value_of v block) }

-- the blocks of a row, by host
abbrev pub row_seen : Version → List ℕ → List DecodedBlock
row_seen v row = map (λ host. seen_in v (block_of v host row)) (hosts v)

-- what a row says: its blocks, or nothing where one of them is damaged
unfoldable pub decoded_row : Version → List ℕ → Option (List DecodedBlock)
decoded_row v row = if has_damage v (is_sound v) row then None else Some (row_seen v row)

-- a block of zeros, as it is seen: what stands for a host that there is not
abbrev pub blank_seen : DecodedBlock
blank_seen = record { bytes = zeros (2 * COPY_ROOM); sequence = 0; says = blank }

abbrev pub seen_at : List DecodedBlock → ℕ → DecodedBlock
seen_at seen host = slice_index_or seen host blank_seen

-- the cell is this block: its bytes as read, with this sequence number, and it says the same
pub record IsSeenAs {V : Type 0} (v : Version) (spelled : V → List ℕ) (seen : DecodedBlock) (cell : Cell V) : Type 0 where
  pub read : IsReading v seen.bytes cell.block
  pub sequence : number_or_zero (told_number cell.block) ≡ seen.sequence
  pub says : said_as spelled cell.says ≡ seen.says

-- the cells of a row are these blocks, one for each host, and those of hosts that there are not are blank
pub record AreSeenAs {V : Type 0} (v : Version) (spelled : V → List ℕ) (seen : List DecodedBlock) (row : Row V) : Type 0 where
  pub count : length seen ≡ hosts_in v
  pub cells : (host : ℕ) → host < HOSTS_ROOM → HoldsAt (IsSeenAs v spelled (seen_at seen host)) row.cells host
