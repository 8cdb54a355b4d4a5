-- An area of a disk of a log without an end: its parts, whose blocks count in it, which of them are damaged, and the lines of those.
use Rattle.std.specs.Prelude.{◌≡◌, ◌⊎◌, ◌↔◌, ◌+◌, ◌<◌, ◌≤◌, ◌&&◌, ◌++◌, ℕ, Bool, true, false, IsTrue, List, [], ◌∷◌, Option, Some, None, codes, decimal, max, replicate, slice_index, slice_index_or, slice_range, if◌then◌else◌}
use Rattle.std.specs.Io.KnownBytes.{Appends}
use Rattle.std.specs.List.{flat_map, range_with_len}
use Rattle.std.specs.Option.{unwrap_or}
use Rattle.torn_block.specs.Damage.{IsDamagedBlock, block_of}
use Rattle.torn_block.specs.Layout.{area_place, cluster_version}
use Rattle.torn_block.specs.declared.layout.TheConstants.{HOSTS, LAST_SEQUENCE, ROW_LENGTH}
use Rattle.paxos_block.specs.Damage as votes
use Rattle.paxos_block.specs.Places.{row_place}
use Rattle.paxos_block.specs.Row.{IsSound}
use Rattle.heartbeat.specs.Beat.{IsBeat, IsDamagedArea}
use Rattle.heartbeat.specs.Damage as beats
use Rattle.standings.specs.Epochs.{IsNewest, base_of, epoch_of, standings_place}
use Rattle.standings.specs.Reading.{numbers_in}
use Rattle.endless_image.specs.Sizes.{area_size}
use Rattle.log_folders.specs.declared.area.Area.{Area}
use Rattle.log_folders.specs.declared.area.Part.{Part}
use Rattle.log_folders.specs.declared.area.Part.TheVariants.{Standings, Heartbeats, Slot}

-- ITS PARTS

-- where a part begins on the disk
abbrev pub part_place : (slots area : ℕ) → Part → ℕ
part_place slots area Standings = standings_place (area_size slots) area
part_place slots area Heartbeats = base_of (area_size slots) area + area_place cluster_version
part_place slots area (Slot slot) = base_of (area_size slots) area + row_place cluster_version slot

-- its bytes
abbrev pub part_in : (slots area : ℕ) → Part → List ℕ → List ℕ
part_in slots area part bytes = slice_range bytes (part_place slots area part) (part_place slots area part + ROW_LENGTH)

abbrev pub standings_in : (slots area : ℕ) → List ℕ → List ℕ
standings_in slots area bytes = part_in slots area Standings bytes

-- a host's block in the bytes of a part is damaged
abbrev pub IsDamagedAt : Part → ℕ → List ℕ → Type 0
IsDamagedAt Standings host row = IsDamagedBlock cluster_version IsBeat (block_of cluster_version host row)
IsDamagedAt Heartbeats host row = IsDamagedBlock cluster_version IsBeat (block_of cluster_version host row)
IsDamagedAt (Slot slot) host row = IsDamagedBlock cluster_version (IsSound cluster_version host) (block_of cluster_version host row)

-- of each host, whether it is
abbrev pub damaged_in : Part → List ℕ → List Bool
damaged_in Standings row = beats.damaged_in row
damaged_in Heartbeats row = beats.damaged_in row
damaged_in (Slot slot) row = votes.damaged_in row

-- WHOSE BLOCKS COUNT

-- A host is inside of the newest epoch of an area, by its row of standings: this is sound, and says the epoch's number of the host.
pub record IsInside (area : ℕ) (row : List ℕ) (host : ℕ) : Type 0 where
  pub sound : ¬ IsDamagedArea row
  pub newest : ℕ
  pub is_newest : IsNewest area (numbers_in row) (Some newest)
  pub number : numbers_in row host ≡ (epoch_of newest).number

-- By host, whether it is. The blocks of others may be of an earlier epoch, or half cleared.
abbrev pub AreInside : (area : ℕ) → List ℕ → List Bool → Type 0
AreInside area row inside = (host : ℕ) → host < HOSTS → IsTrue (slice_index_or inside host false) ↔ IsInside area row host

-- the numbers that a row of standings says, or none where it is damaged
abbrev pub SaysNumbers : List ℕ → Option (List ℕ) → Type 0
SaysNumbers row None = IsDamagedArea row
SaysNumbers row (Some numbers) = (¬ IsDamagedArea row) × ((host : ℕ) → host < HOSTS → slice_index numbers host ≡ numbers_in row host)

-- each may be one
abbrev pub AreNumbers : List ℕ → Type 0
AreNumbers numbers = (host : ℕ) → host < HOSTS → slice_index numbers host ≤ LAST_SEQUENCE

-- To this epoch a number of one of the two rows of standings belongs, and to no later one.
pub record IsNewestOf (one other : List ℕ) (newest : ℕ) : Type 0 where
  pub first : Option ℕ
  pub second : Option ℕ
  pub in_first : IsNewest 0 (numbers_in one) first
  pub in_second : IsNewest 1 (numbers_in other) second
  pub later : newest ≡ max (unwrap_or first 0) (unwrap_or second 0)

-- WHAT IS DAMAGED

-- some host is shown, and its block is damaged
abbrev pub IsHitOf : (shown damaged : List Bool) → ℕ → Type 0
IsHitOf shown damaged host = IsTrue (slice_index_or shown host false) × IsTrue (slice_index_or damaged host false)

abbrev pub IsHit : (shown damaged : List Bool) → Type 0
IsHit shown damaged = (host : ℕ) × (host < HOSTS) × IsHitOf shown damaged host

-- of a part, the block of a host that is shown
abbrev pub IsHitIn : (slots area : ℕ) → Part → (shown : List Bool) → List ℕ → Type 0
IsHitIn slots area part shown bytes = (host : ℕ) × (host < HOSTS) × IsTrue (slice_index_or shown host false) × IsDamagedAt part host (part_in slots area part bytes)

-- of a slot below this one
abbrev pub IsHitBelow : (slots area : ℕ) → (shown : List Bool) → ℕ → List ℕ → Type 0
IsHitBelow slots area shown n bytes = (slot : ℕ) × (slot < n) × IsHitIn slots area (Slot slot) shown bytes

-- a host's heartbeat is damaged, or its block of a slot
abbrev pub IsDamagedOf : (slots area host : ℕ) → List ℕ → Type 0
IsDamagedOf slots area host bytes =
    IsDamagedAt Heartbeats host (part_in slots area Heartbeats bytes) ⊎ ((slot : ℕ) × (slot < slots) × IsDamagedAt (Slot slot) host (part_in slots area (Slot slot) bytes))

-- An area is damaged where its row of standings is, or what a host inside of its newest epoch has there.
abbrev pub IsDamagedIn : (slots area : ℕ) → List ℕ → Type 0
IsDamagedIn slots area bytes =
    IsDamagedArea (standings_in slots area bytes) ⊎ ((host : ℕ) × (host < HOSTS) × IsInside area (standings_in slots area bytes) host × IsDamagedOf slots area host bytes)

-- an image, where one of its areas is
abbrev pub IsDamagedImage : (slots : ℕ) → List ℕ → Type 0
IsDamagedImage slots bytes = IsDamagedIn slots 0 bytes ⊎ IsDamagedIn slots 1 bytes

-- THEIR LINES

-- the line of a damaged block
abbrev pub line_of : Area → Part → ℕ → List ℕ
line_of area Standings host = codes "disk" ++ decimal area.disk ++ codes " area " ++ decimal area.area ++ codes " standing host " ++ decimal host ++ codes " damaged" ++ 10 ∷ []
line_of area Heartbeats host = codes "disk" ++ decimal area.disk ++ codes " area " ++ decimal area.area ++ codes " heartbeat host " ++ decimal host ++ codes " damaged" ++ 10 ∷ []
line_of area (Slot slot) host =
    codes "disk" ++ decimal area.disk ++ codes " area " ++ decimal area.area ++ codes " slot " ++ decimal slot ++ codes " host " ++ decimal host ++ codes " damaged" ++ 10 ∷ []

-- a host's line, where it is shown and its block is damaged
abbrev pub line_if : Area → Part → (shown damaged : List Bool) → ℕ → List ℕ
line_if area part shown damaged host = if (slice_index_or shown host false && slice_index_or damaged host false) then line_of area part host else []

-- the lines of a part, by host
abbrev pub lines_of : Area → Part → (shown damaged : List Bool) → List ℕ
lines_of area part shown damaged = flat_map (line_if area part shown damaged) (range_with_len 0 HOSTS)

abbrev pub part_text : Area → Part → (shown : List Bool) → List ℕ → List ℕ
part_text area part shown bytes = lines_of area part shown (damaged_in part (part_in area.slots area.area part bytes))

-- of the slots below this one
abbrev pub slots_text : Area → (shown : List Bool) → ℕ → List ℕ → List ℕ
slots_text area shown n bytes = flat_map (λ slot. part_text area (Slot slot) shown bytes) (range_with_len 0 n)

-- everybody's number counts
abbrev pub everybody : List Bool
everybody = replicate HOSTS true

-- the row of standings first, then the heartbeats, and then each slot
abbrev pub area_text : Area → (inside : List Bool) → List ℕ → List ℕ
area_text area inside bytes =
    part_text area Standings everybody bytes ++ (part_text area Heartbeats inside bytes ++ slots_text area inside area.slots bytes)

-- The lines of an area are those of hosts inside of its newest epoch.
abbrev pub IsAreaText : Area → List ℕ → List ℕ → Type 0
IsAreaText area bytes text = (inside : List Bool) × AreInside area.area (standings_in area.slots area.area bytes) inside × (text ≡ area_text area inside bytes)

-- the line of a disk's newest epoch
abbrev pub epoch_line : (disk epoch : ℕ) → List ℕ
epoch_line disk epoch = codes "disk" ++ decimal disk ++ codes " epoch " ++ decimal epoch ++ 10 ∷ []

-- It is printed where both rows of standings are sound.
abbrev pub IsEpochText : (disk : ℕ) → (one other text : List ℕ) → Type 0
IsEpochText disk one other text =
    ((newest : ℕ) × (¬ IsDamagedArea one) × (¬ IsDamagedArea other) × IsNewestOf one other newest × (text ≡ epoch_line disk newest))
    ⊎ ((IsDamagedArea one ⊎ IsDamagedArea other) × (text ≡ []))

-- The text of an image: the lines of each area, and that of the newest epoch.
pub record IsImageText (disk slots : ℕ) (bytes text : List ℕ) : Type 0 where
  pub first : List ℕ
  pub second : List ℕ
  pub last : List ℕ
  pub of_first : IsAreaText (record { disk = disk; slots = slots; area = 0 }) bytes first
  pub of_second : IsAreaText (record { disk = disk; slots = slots; area = 1 }) bytes second
  pub of_epoch : IsEpochText disk (standings_in slots 0 bytes) (standings_in slots 1 bytes) last
  pub is : text ≡ first ++ (second ++ last)

-- such a text was written
abbrev pub Writes : (List ℕ → Type 0) → (before after : Option (List ℕ)) → Type 0
Writes IsText before after = (text : List ℕ) × IsText text × Appends before after text
