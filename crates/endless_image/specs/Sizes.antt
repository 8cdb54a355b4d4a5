-- How large an image of a log without an end is.
use Rattle.std.specs.Prelude.{◌≤◌, ℕ}
use Rattle.torn_block.specs.Layout.{cluster_version}
use Rattle.torn_block.specs.declared.layout.TheConstants.{SLOTS}
use Rattle.paxos_block.specs.Places.{image_length}
use Rattle.standings.specs.Epochs.{whole_length}
use Rattle.endless_image.specs.declared.size.TheConstants.{LEAST_SLOTS}

-- an epoch may have so many slots
abbrev pub IsSlotCount : ℕ → Type 0
IsSlotCount slots = (LEAST_SLOTS ≤ slots) × (slots ≤ SLOTS)

-- an area is as long as an image of a log of so many slots that ends
abbrev pub area_size : ℕ → ℕ
area_size slots = image_length cluster_version slots

-- two areas, and the rows of standings between them
abbrev pub size_of : ℕ → ℕ
size_of slots = whole_length (area_size slots)
