-- Which positions are marked, by words of sixty-four.
use Rattle.std.specs.Prelude.{if◌then◌else◌, ℕ, Bool, ◌*◌, ◌/◌, ◌%◌, ◌==◌, List, length, map, slice_index_or}
use Rattle.std.specs.Int.{bit_at}
use Rattle.std.specs.List.{range_with_len}
use Rattle.disk.specs.declared.word.Word.{Word}

-- a word in which nothing is marked
abbrev pub blank : Word
blank = record { stamp = 0; bits = 0 }

-- the bits of a word that count: those of an earlier epoch do not
abbrev pub counted : ℕ → Word → ℕ
counted epoch word = if word.stamp == epoch then word.bits else 0

-- this place of a word is marked: its bit counts, and is set
abbrev pub is_marked_in : ℕ → Word → ℕ → Bool
is_marked_in epoch word place = bit_at (counted epoch word) place == 1

-- this position is marked
abbrev pub is_marked : ℕ → List Word → ℕ → Bool
is_marked epoch words k = is_marked_in epoch (slice_index_or words (k / 64) blank) (k % 64)

-- which of so many positions are marked
unfoldable pub marks : ℕ → List Word → ℕ → List Bool
marks epoch words size = map (is_marked epoch words) (range_with_len 0 size)

-- which of all their positions the words mark
abbrev pub all_marks : ℕ → List Word → List Bool
all_marks epoch words = marks epoch words (64 * length words)
