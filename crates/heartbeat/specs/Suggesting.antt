-- Of the headline. The host that two readings of the heartbeat areas suggest.
use Rattle.std.specs.Prelude.{◌==◌, ◌*◌, ℕ, Bool, false, not, List, length, nat_lt, slice_index, Option, Some}
use Rattle.std.specs.List.{count_by, find, range_with_len, zip}
use Rattle.std.specs.Option.{unwrap_or}
use Rattle.torn_block.specs.declared.layout.TheConstants.{HOSTS}

-- of each disk the counters of the hosts; none where the disk is missing
abbrev pub Readings : Type 0
Readings = List (Option (List ℕ))

-- a host's counter on a disk differs; a disk that is missing on either side does not differ
abbrev pub has_moved : ℕ → Option (List ℕ) → Option (List ℕ) → Bool
has_moved host (Some before) (Some after) = not (slice_index before host == slice_index after host)
has_moved host before after = false

-- so of a disk's two readings
abbrev pub moves_in : ℕ → Option (List ℕ) × Option (List ℕ) → Bool
moves_in host disk = has_moved host disk.0 disk.1

-- on more than half of the disks
abbrev pub moves_on_most : Readings → Readings → ℕ → Bool
moves_on_most before after host = nat_lt (length before) (2 * count_by (moves_in host) (zip before after))

-- the least host whose counter differs on more than half of the disks, else the one that asks
abbrev pub suggestion : Readings → Readings → ℕ → ℕ
suggestion before after me = unwrap_or (find (moves_on_most before after) (range_with_len 0 HOSTS)) me
