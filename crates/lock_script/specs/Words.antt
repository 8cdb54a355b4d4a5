-- The words of a line.
use Rattle.std.specs.Prelude.{◌==◌, ℕ, Bool, true, false, List, [], ◌∷◌, Option, Some, None, bytes_eq, if◌then◌else◌}
use Rattle.std.specs.List.{slice_split}
use Rattle.lock_command.specs.Reading.{◌>>=◌, passed}

-- single spaces part the words of a line
abbrev pub words_of : List ℕ → List (List ℕ)
words_of line = slice_split (λ byte. byte == 32) line

-- the words behind the space that was read last; None, where the last word was read
abbrev pub words_left : Option (List ℕ) → List (List ℕ)
words_left None = []
words_left (Some rest) = words_of rest

-- the first of these words, and those behind it
abbrev pub first_word : List (List ℕ) → Option (List ℕ)
first_word [] = None
first_word (word ∷ words) = Some word

abbrev pub words_behind : List (List ℕ) → List (List ℕ)
words_behind [] = []
words_behind (word ∷ words) = words

abbrev pub no_words : List (List ℕ) → Bool
no_words [] = true
no_words (word ∷ words) = false

-- whether the first word is this one
abbrev pub begins_with : List ℕ → List (List ℕ) → Bool
begins_with wanted [] = false
begins_with wanted (word ∷ words) = bytes_eq word wanted

-- the words behind it, or all where it is not there
abbrev pub behind_word : List ℕ → List (List ℕ) → List (List ℕ)
behind_word wanted words = if begins_with wanted words then words_behind words else words

-- the first word, where there is no other
abbrev pub last_word : List (List ℕ) → Option (List ℕ)
last_word words = do
  word ← first_word words
  passed (no_words (words_behind words)) word
