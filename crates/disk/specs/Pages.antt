-- Where a simulated disk keeps its pages of 4,096 bytes. A page gets room at its first write, in the order of first writes.
use Rattle.std.specs.Prelude.{◌≡◌, ◌+◌, ◌-◌, ◌*◌, ◌^◌, ◌<◌, ◌≤◌, ◌/◌, ◌%◌, ℕ, Bool, false, List, map, nat_lt, slice_index_or}
use Rattle.std.specs.List.{count_by, range_with_len}
use Rattle.disk.specs.declared.pages.Page.{Page}

-- a page that was not written: its room would be behind all that is kept, and its range has no byte
abbrev pub unwritten : Page
unwritten = record { room = 2 ^ 64 - 1; from = 4096; to = 0 }

-- a page by its number
abbrev pub nth_page : List Page → ℕ → Page
nth_page pages i = slice_index_or pages i unwritten

-- where a position is kept
abbrev pub home : List Page → ℕ → ℕ
home pages k = 4096 * (nth_page pages (k / 4096)).room + k % 4096

-- so many positions of a disk, each as it is kept at its home, or blank where nothing is kept
unfoldable pub seen : {X : Type 0} → List Page → X → List X → ℕ → List X
seen pages blank kept size = map (λ k. slice_index_or kept (home pages k) blank) (range_with_len 0 size)

-- a page that was written has room
abbrev pub has_room : Page → Bool
has_room page = nat_lt page.room (2 ^ 64 - 1)

-- n positions are kept: each page that has room has 4,096 of them to itself, and no range goes beyond its page
pub record HaveRooms (pages : List Page) (n : ℕ) : Type 0 where
  pub own : (i j : ℕ) → (nth_page pages i).room ≡ (nth_page pages j).room → 4096 * (nth_page pages i).room < n → i ≡ j
  pub others : (i : ℕ) → n ≤ 4096 * (nth_page pages i).room → nth_page pages i ≡ unwritten
  pub within : (i : ℕ) → (nth_page pages i).to ≤ 4096
  pub all : 4096 * count_by has_room pages ≡ n

-- this position is in the range of its page
pub record Covers (pages : List Page) (k : ℕ) : Type 0 where
  pub from : (nth_page pages (k / 4096)).from ≤ k % 4096
  pub to : k % 4096 < (nth_page pages (k / 4096)).to

-- outside the ranges all bytes are zeros, and nothing is marked
pub record BlankOutside (pages : List Page) (all : List ℕ) (marked : List Bool) : Type 0 where
  pub bytes : (k : ℕ) → (Covers pages k → ⊥) → slice_index_or all k 0 ≡ 0
  pub flags : (k : ℕ) → (Covers pages k → ⊥) → slice_index_or marked k false ≡ false
