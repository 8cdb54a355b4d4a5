-- What tasks tell people, taken apart: where a number or a text stands in it.
use Rattle.std.specs.Prelude.{◌≡◌, ℕ, List, [], ◌∷◌, ◌++◌, codes, Some}
use Rattle.lock_script.specs.Reading.{number_in}

-- The text begins with digits that spell this number. Then comes this byte, and then the rest.
pub record BeginsWithNumber (text : List ℕ) (end number : ℕ) (rest : List ℕ) : Type 0 where
  pub digits : List ℕ
  pub spells : number_in 0 18446744073709551615 digits ≡ Some number
  pub whole : text ≡ digits ++ (end ∷ rest)

-- `ack`, the place of a command in the log, and the reply
pub record TellsAck (told : List ℕ) (place : ℕ) (reply : List ℕ) : Type 0 where
  pub line : List ℕ
  pub rest : List ℕ
  pub word : told ≡ codes "ack " ++ line
  pub number : BeginsWithNumber line 32 place rest
  pub ends : rest ≡ reply ++ 10 ∷ []

-- `recovered` and how many commands, and the lines of the lock table
pub record TellsTable (told : List ℕ) (recovered : ℕ) (lines : List ℕ) : Type 0 where
  pub line : List ℕ
  pub word : told ≡ codes "recovered " ++ line
  pub number : BeginsWithNumber line 10 recovered lines

-- `recovered` and how many commands, and a line with `marked` and how many of them
pub record TellsMarks (told : List ℕ) (recovered marked : ℕ) : Type 0 where
  pub line : List ℕ
  pub rest : List ℕ
  pub second : List ℕ
  pub slots : List ℕ
  pub word : told ≡ codes "recovered " ++ line
  pub number : BeginsWithNumber line 10 recovered rest
  pub next : rest ≡ codes "marked " ++ second
  pub count : BeginsWithNumber second 32 marked slots
