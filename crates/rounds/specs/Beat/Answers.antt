-- Of the headline. What a beat hears of its disks, and what follows from the answers of one disk alone.
use Rattle.std.specs.Prelude.{ℕ, List, [], slice_get, Option, Some, None, option_and_then, option_map}
use Rattle.disk.specs.Disk as device
use Rattle.torn_block.specs.Layout.{cluster_version}
use Rattle.torn_block.specs.Damage.{block_of}
use Rattle.attempt.specs.Heard as hearing
use Rattle.attempt.specs.Heard.{heard_by}
pub use Rattle.attempt.specs.Heard.{Booted, Done, Told, Fault, on, more, is_bad, all_good, told, boot_of}
use Rattle.heartbeat.specs.Beat.{area_said, counters_in}

-- of the heartbeat area it hears the bytes
abbrev pub Heard : Type 0
Heard = hearing.Heard (List ℕ)

abbrev pub heard_as : device.Answer → Heard
heard_as answer = heard_by area_said answer

abbrev pub Answered : Type 0
Answered = hearing.Answered (List ℕ)

abbrev pub Answers : Type 0
Answers = hearing.Answers (List ℕ)

-- ONE DISK: what follows from its answers

-- the sound area that was read: the third answer
abbrev pub area_in : List Heard → Option (List ℕ)
area_in a = option_and_then told (slice_get a 2)

-- the counters in it; none where it was not read soundly, whatever came later
abbrev pub reading_of : List Heard → Option (List ℕ)
reading_of a = option_map counters_in (area_in a)

abbrev pub own_block_in : ℕ → Option (List ℕ) → List ℕ
own_block_in host None = []
own_block_in host (Some area) = block_of cluster_version host area

-- the own heartbeat block in it
abbrev pub own_block : ℕ → List Heard → List ℕ
own_block host a = own_block_in host (area_in a)
