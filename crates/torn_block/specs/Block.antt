-- Of the headline. What the bytes of a block stand for, in each layout.
use Rattle.std.specs.Prelude.{◌+◌, ◌==◌, ◌++◌, ℕ, Bool, true, false, List, take, drop, slice_index, nat_lt, Option, Some, None, if◌then◌else◌}
use Rattle.std.specs.Option.{option_map}
use Rattle.byteorder.specs.Endian.{big_number, big_bytes}
use Rattle.torn_block.specs.Layout.{Version, copy_length}
use Rattle.torn_block.specs.declared.block.Half.{Half}
use Rattle.torn_block.specs.declared.block.Half.TheVariants.{First, Second}

-- a copy is open where its gate, its first byte, is 0xA5
abbrev pub is_open : List ℕ → Bool
is_open copy = slice_index copy 0 == 165

-- bytes 8 to 15, highest first
unfoldable pub sequence_of : List ℕ → ℕ
sequence_of copy = big_number 8 (drop 8 copy)

-- bytes 1 to 7, and those from 16 on
unfoldable pub body_of : List ℕ → List ℕ
body_of copy = take 7 (drop 1 copy) ++ drop 16 copy

-- a number in eight bytes, the highest first
unfoldable pub number_bytes : ℕ → List ℕ
number_bytes n = big_bytes 8 n

-- the bytes behind the gate of a copy with this sequence number and body
unfoldable pub tail_with : ℕ → List ℕ → List ℕ
tail_with sequence body = take 7 body ++ number_bytes sequence ++ drop 7 body

abbrev pub other : Half → Half
other First = Second
other Second = First

-- the two copies of a block
abbrev pub copy_of : Version → Half → List ℕ → List ℕ
copy_of v First block = take (copy_length v) block
copy_of v Second block = drop (copy_length v) block

-- the open copy with the greater sequence number, the first on a tie
abbrev pub choice : Bool → Bool → Bool → Option Half
choice true true second_is_later = if second_is_later then Some Second else Some First
choice true false second_is_later = Some First
choice false true second_is_later = Some Second
choice false false second_is_later = None

abbrev pub current_by : List ℕ → List ℕ → Option Half
current_by first second = choice (is_open first) (is_open second) (nat_lt (sequence_of first) (sequence_of second))

abbrev pub current_of : Version → List ℕ → Option Half
current_of v block = current_by (copy_of v First block) (copy_of v Second block)

-- the sequence number and body of the current copy, or nothing for a blank block
abbrev pub value_at : Option Half → List ℕ → List ℕ → Option (ℕ × List ℕ)
value_at None first second = None
value_at (Some First) first second = Some (sequence_of first, body_of first)
value_at (Some Second) first second = Some (sequence_of second, body_of second)

abbrev pub value_by : List ℕ → List ℕ → Option (ℕ × List ℕ)
value_by first second = value_at (current_by first second) first second

abbrev pub value_of : Version → List ℕ → Option (ℕ × List ℕ)
value_of v block = value_by (copy_of v First block) (copy_of v Second block)

-- the copy that a write goes to, and the sequence number that it gets
abbrev pub target_at : Option Half → Half
target_at None = First
target_at (Some half) = other half

abbrev pub target_of : Version → List ℕ → Half
target_of v block = target_at (current_of v block)

-- a value's sequence number; a blank block has none
abbrev pub number_in : Option (ℕ × List ℕ) → Option ℕ
number_in value = option_map (λ v. v.0) value

-- the number behind that
abbrev pub next_number : Option ℕ → ℕ
next_number None = 1
next_number (Some number) = number + 1

abbrev pub next_sequence_at : Option (ℕ × List ℕ) → ℕ
next_sequence_at value = next_number (number_in value)

abbrev pub next_sequence : Version → List ℕ → ℕ
next_sequence v block = next_sequence_at (value_of v block)
