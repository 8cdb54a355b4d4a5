-- Of the headline. The copies of a heartbeat block, and the counters of an area.
use Rattle.std.specs.Prelude.{◌≡◌, ◌==◌, ◌&&◌, ◌<◌, ◌-◌, ℕ, Bool, List, ◌∷◌, map, take, drop, slice_index, replicate, Option, Some, None, if◌then◌else◌}
use Rattle.std.specs.List.{list_all}
use Rattle.torn_block.specs.Layout.{cluster_version}
use Rattle.torn_block.specs.declared.layout.TheConstants.{VERSION, HOSTS, BODY_LENGTH}
use Rattle.torn_block.specs.Block.{sequence_of, tail_with, value_of}
use Rattle.torn_block.specs.Damage.{IsSequence, IsSoundBlock, IsDamaged, block_of, hosts, is_sequence, has_damage}

-- the body of each beat: the version, and zeros
unfoldable pub beat_body : List ℕ
beat_body = VERSION ∷ replicate (BODY_LENGTH - 1) 0

-- an open copy is sound where it is a beat under a sequence number
pub record IsBeat (copy : List ℕ) : Type 0 where
  pub number : ℕ
  pub is_sequence : IsSequence number
  pub spelled : copy ≡ 165 ∷ tail_with number beat_body

-- the sequence number of the current copy, 0 for a blank block
abbrev pub counter_at : Option (ℕ × List ℕ) → ℕ
counter_at None = 0
counter_at (Some value) = value.0

abbrev pub counter_of : List ℕ → ℕ
counter_of block = counter_at (value_of cluster_version block)

-- the area is damaged by the rule of a row
abbrev pub IsDamagedArea : List ℕ → Type 0
IsDamagedArea area = IsDamaged cluster_version (λ host. IsBeat) area

-- each host's counter, and that its block is sound
pub record IsCounter (area : List ℕ) (host number : ℕ) : Type 0 where
  pub sound : IsSoundBlock cluster_version IsBeat (block_of cluster_version host area)
  pub counts : number ≡ counter_of (block_of cluster_version host area)

abbrev pub AreCounters : List ℕ → List ℕ → Type 0
AreCounters area counters = (host : ℕ) → host < HOSTS → IsCounter area host (slice_index counters host)

-- the same as a test
abbrev pub all_zero : List ℕ → Bool
all_zero bytes = list_all (λ b. b == 0) bytes

abbrev pub is_beat : List ℕ → Bool
is_beat copy = is_sequence (sequence_of copy) && (slice_index copy 1 == VERSION) && all_zero (take 6 (drop 2 copy)) && all_zero (drop 16 copy)

-- ---- an area as one function of its bytes

-- the bytes of a sound area, or nothing where a block of it is damaged
unfoldable pub area_said : List ℕ → Option (List ℕ)
area_said area = if has_damage cluster_version (λ host. is_beat) area then None else Some area

-- the counters of the hosts, by their numbers
abbrev pub counters_in : List ℕ → List ℕ
counters_in area = map (λ host. counter_of (block_of cluster_version host area)) (hosts cluster_version)
