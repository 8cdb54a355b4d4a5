-- Epochs, the two areas of a disk in which they take turns, and the number of a host in a row of standings.
use Rattle.std.specs.Prelude.{◌≡◌, ◌⊎◌, ◌+◌, ◌-◌, ◌*◌, ◌%◌, ◌/◌, ◌==◌, ◌&&◌, ◌<◌, ◌≤◌, nat_le, ℕ, zero, suc, Bool, List, Option, Some, None, if◌then◌else◌}
use Rattle.torn_block.specs.Layout.{cluster_version}
use Rattle.torn_block.specs.declared.layout.TheConstants.{HOSTS, ROW_LENGTH, BLOCK_LENGTH}
use Rattle.torn_block.specs.Place.{block_in}
use Rattle.heartbeat.specs.Beat.{counter_of}
use Rattle.standings.specs.declared.epoch.Epoch.{Epoch}

-- Epochs take turns in two areas. In its area each has an even number.

-- the epochs one after another: 0 has number 0 in the first area, 1 has 2 in the second, 2 has 2 in the first, 3 has 4, and so on
abbrev pub epoch_of : ℕ → Epoch
epoch_of e = record { area = e % 2; number = e + e % 2 }

abbrev pub is_same : Epoch → Epoch → Bool
is_same a b = (a.area == b.area) && (a.number == b.number)

-- A number of an area belongs to an epoch there: it is the epoch's own, or the odd one below it.
pub record BelongsTo (a m e : ℕ) : Type 0 where
  pub area : a ≡ (epoch_of e).area
  pub number : (m ≡ (epoch_of e).number) ⊎ (m + 1 ≡ (epoch_of e).number)

-- The same as a function: an even number is that of an epoch, an odd one is below the next. Number 0 of the second area belongs to none.
abbrev pub epoch_by : (area number : ℕ) → Option ℕ
epoch_by area number = if nat_le area (number + number % 2) then Some (number + number % 2 - area) else None

-- The newest epoch to which a number of a host in this area belongs, if one does.
abbrev pub IsNewest : ℕ → (ℕ → ℕ) → Option ℕ → Type 0
IsNewest area numbers None = (host : ℕ) → host < HOSTS → epoch_by area (numbers host) ≡ None
IsNewest area numbers (Some e) =
    ((host : ℕ) × (host < HOSTS) × (epoch_by area (numbers host) ≡ Some e)) × ((host other : ℕ) → host < HOSTS → epoch_by area (numbers host) ≡ Some other → other ≤ e)

-- PLACES

-- The first area is where the one image of a log that ends is. Behind it are the rows of standings, and behind these the second area. Of an area the first row is not used.
abbrev pub base_of : ℕ → ℕ → ℕ
base_of n zero = 0
base_of n (suc area) = ROW_LENGTH + n

-- the host whose block a byte of an image is in
abbrev pub host_at : ℕ → ℕ
host_at p = p % ROW_LENGTH / BLOCK_LENGTH

-- Behind the first area each area has a row of standings, in which each host has a block.
abbrev pub standings_place : (n area : ℕ) → ℕ
standings_place n area = n + ROW_LENGTH * area

abbrev pub number_place : (n area host : ℕ) → ℕ
number_place n area host = n + ROW_LENGTH * area + BLOCK_LENGTH * host

-- both areas, and the rows of standings between them
abbrev pub whole_length : ℕ → ℕ
whole_length n = ROW_LENGTH + n + n

-- NUMBERS

-- the number that the block at this place says
abbrev pub number_at : ℕ → List ℕ → ℕ
number_at place bytes = counter_of (block_in cluster_version place bytes)

-- the number of a host that the bytes of a disk say
abbrev pub number_of : (n area host : ℕ) → List ℕ → ℕ
number_of n area host bytes = number_at (number_place n area host) bytes
