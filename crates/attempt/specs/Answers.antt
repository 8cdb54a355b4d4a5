-- Of the headline. What an attempt hears of its disks, and what follows from the answers of one disk alone.
use Rattle.std.specs.Prelude.{ℕ, pred, List, [], ◌∷◌, slice_get, Option, Some, None, option_and_then}
use Rattle.disk.specs.Disk as device
use Rattle.torn_block.specs.Layout.{Version, cluster_version}
use Rattle.paxos_block.specs.Row.{DecodedBlock, blank_seen, seen_at, decoded_row}
use Rattle.attempt.specs.Calls.{Phase, goal}
use Rattle.attempt.specs.Heard as hearing
use Rattle.attempt.specs.Heard.{heard_by}
pub use Rattle.attempt.specs.Heard.{Booted, Done, Told, Fault, on, more, is_bad, all_good, told, boot_of}

-- of a row it hears what its blocks say
abbrev pub Heard : Type 0
Heard = hearing.Heard (List DecodedBlock)

abbrev pub heard_in : Version → device.Answer → Heard
heard_in v answer = heard_by (decoded_row v) answer

-- of the cluster's disks
abbrev pub heard_as : device.Answer → Heard
heard_as = heard_in cluster_version

abbrev pub Answered : Type 0
Answered = hearing.Answered (List DecodedBlock)

abbrev pub Answers : Type 0
Answers = hearing.Answers (List DecodedBlock)

-- ONE DISK: what follows from its answers

-- the sound row that was read in a phase, by the phase's last call
abbrev pub row_in : Phase → List Heard → Option (List DecodedBlock)
row_in p a = option_and_then told (slice_get a (pred (goal p)))

abbrev pub later_row : Option (List DecodedBlock) → Option (List DecodedBlock) → Option (List DecodedBlock)
later_row before None = before
later_row before (Some row) = Some row

-- the row read last
abbrev pub last_row : List Heard → Option (List DecodedBlock)
last_row [] = None
last_row (x ∷ xs) = later_row (told x) (last_row xs)

-- a host's block in a row, blank where there is no row
abbrev pub seen_block : Option (List DecodedBlock) → ℕ → DecodedBlock
seen_block None host = blank_seen
seen_block (Some row) host = seen_at row host
