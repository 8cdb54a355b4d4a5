-- Of the headline. When a block is damaged, by a rule for what a sound copy is, in each layout.
use Rattle.std.specs.Prelude.{◌≡◌, ◌≢◌, ◌⊎◌, ◌↔◌, ◌==◌, ◌&&◌, ◌||◌, ◌≤◌, ◌<◌, ◌*◌, ◌^◌, ℕ, Bool, true, false, not, nat_le, List, length, map, slice_index_or, IsTrue}
use Rattle.std.specs.List.{list_any, range_with_len}
use Rattle.torn_block.specs.declared.block.Half.{Half}
use Rattle.torn_block.specs.declared.block.Half.TheVariants.{First, Second}
use Rattle.torn_block.specs.Layout.{Version, hosts_in, block_length}
use Rattle.torn_block.specs.Block.{is_open, sequence_of, copy_of}
use Rattle.torn_block.specs.Place.{block_in}

abbrev pub first_of : Version → List ℕ → List ℕ
first_of v block = copy_of v First block

abbrev pub second_of : Version → List ℕ → List ℕ
second_of v block = copy_of v Second block

-- sequence numbers go from 1 to 2^62
pub record IsSequence (number : ℕ) : Type 0 where
  pub from_one : 1 ≤ number
  pub within : number ≤ 2 ^ 62

-- A block is sound where each open copy is, and no two have one sequence number. Closed copies are not looked at.
pub record IsSoundBlock (v : Version) (IsSound : List ℕ → Type 0) (block : List ℕ) : Type 0 where
  pub copies : (half : Half) → is_open (copy_of v half block) ≡ true → IsSound (copy_of v half block)
  pub apart : is_open (first_of v block) ≡ true → is_open (second_of v block) ≡ true → sequence_of (first_of v block) ≢ sequence_of (second_of v block)

-- some open copy is not sound
abbrev pub HasFault : Version → (List ℕ → Type 0) → List ℕ → Type 0
HasFault v IsSound block = (half : Half) × (is_open (copy_of v half block) ≡ true) × ¬ IsSound (copy_of v half block)

-- both copies are open, with one sequence number
abbrev pub HasTwins : Version → List ℕ → Type 0
HasTwins v block = (is_open (first_of v block) ≡ true) × (is_open (second_of v block) ≡ true) × (sequence_of (first_of v block) ≡ sequence_of (second_of v block))

abbrev pub IsDamagedBlock : Version → (List ℕ → Type 0) → List ℕ → Type 0
IsDamagedBlock v IsSound block = HasFault v IsSound block ⊎ HasTwins v block

-- a host's block among the bytes of a row, or of the heartbeat area
abbrev pub block_of : Version → ℕ → List ℕ → List ℕ
block_of v host row = block_in v (block_length v * host) row

-- some host's block is damaged
abbrev pub IsDamaged : Version → (ℕ → List ℕ → Type 0) → List ℕ → Type 0
IsDamaged v IsSound row = (host : ℕ) × (host < hosts_in v) × IsDamagedBlock v (IsSound host) (block_of v host row)

-- The list tells of each host whether its block is damaged.
pub record AreDamaged (v : Version) (IsSound : ℕ → List ℕ → Type 0) (row : List ℕ) (damaged : List Bool) : Type 0 where
  pub count : length damaged ≡ hosts_in v
  pub each : (host : ℕ) → host < hosts_in v → IsTrue (slice_index_or damaged host false) ↔ IsDamagedBlock v (IsSound host) (block_of v host row)

-- ---- the same as tests

abbrev pub is_sequence : ℕ → Bool
is_sequence number = nat_le 1 number && nat_le number (2 ^ 62)

abbrev pub has_fault : (List ℕ → Bool) → List ℕ → Bool
has_fault is_sound copy = is_open copy && not (is_sound copy)

abbrev pub has_twins : List ℕ → List ℕ → Bool
has_twins first second = is_open first && is_open second && (sequence_of first == sequence_of second)

abbrev pub is_damaged : (List ℕ → Bool) → List ℕ → List ℕ → Bool
is_damaged is_sound first second = has_fault is_sound first || has_fault is_sound second || has_twins first second

abbrev pub is_damaged_block : Version → (List ℕ → Bool) → List ℕ → Bool
is_damaged_block v is_sound block = is_damaged is_sound (first_of v block) (second_of v block)

-- the numbers of the hosts
abbrev pub hosts : Version → List ℕ
hosts v = range_with_len 0 (hosts_in v)

-- some host's block is damaged, by the test of its copies
abbrev pub has_damage : Version → (ℕ → List ℕ → Bool) → List ℕ → Bool
has_damage v is_sound row = list_any (λ host. is_damaged_block v (is_sound host) (block_of v host row)) (hosts v)

-- of each host, whether its block is
abbrev pub damaged_in : Version → (ℕ → List ℕ → Bool) → List ℕ → List Bool
damaged_in v is_sound row = map (λ host. is_damaged_block v (is_sound host) (block_of v host row)) (hosts v)
