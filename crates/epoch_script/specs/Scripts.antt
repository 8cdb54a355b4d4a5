-- What a script over a log without an end says: what it says without the word that tells its kind.
use Rattle.std.specs.Prelude.{◌≡◌, ◌==◌, ◌<◌, ◌≤◌, ◌-◌, ◌⊎◌, ℕ, nat_lt, false, ◌&&◌, List, [], ◌∷◌, length, take, drop, codes, bytes_eq, Option, Some, None, MatchOption, if◌then◌else◌}
use Rattle.lock_command.specs.Reading.{◌>>=◌, passed}
use Rattle.lock_script.specs.Lines.{is_passed_over}
use Rattle.lock_script.specs.Script.{Content, IsScript, IsFirstBad, content_of, said_lines}
use Rattle.epoch_script.specs.declared.any_script.EpochScript.{EpochScript}
use Rattle.epoch_script.specs.declared.any_script.AnyScript.{AnyScript}
use Rattle.epoch_script.specs.declared.any_script.AnyScript.TheVariants.{Ending, Endless}

-- LINES

-- bytes in which no line ends
abbrev pub HasNoEnd : List ℕ → Type 0
HasNoEnd [] = Unit {0}
HasNoEnd (byte ∷ bytes) = ((byte == 10) ≡ false) × HasNoEnd bytes

-- a line without ` epochs` at its end; None, where it does not end so, or is no more
unfoldable pub line_without : List ℕ → Option (List ℕ)
line_without line =
    let before = length line - 7 in
    passed (nat_lt 7 (length line) && bytes_eq (drop before line) (codes " epochs")) (take before line)

-- the lines, of which the first that is not passed over is without the word
abbrev pub lines_without : List (List ℕ) → Option (List (List ℕ))
lines_without [] = None
lines_without (line ∷ lines) =
    if is_passed_over line then (do rest ← lines_without lines; Some (line ∷ rest))
    else (do first ← line_without line; Some (first ∷ lines))

-- how many of the first n lines are not passed over
abbrev pub said_of : ℕ → List (List ℕ) → ℕ
said_of n lines = length (said_lines (take n lines))

-- Line n, from 1, is the second that is not passed over, if there are two.
pub record IsSecond (lines : List (List ℕ)) (n : ℕ) : Type 0 where
  pub here : said_of n lines ≡ 2
  pub before : said_of (n - 1) lines ≡ 1

abbrev pub IsSecondSaid : List (List ℕ) → ℕ → Type 0
IsSecondSaid lines n = 2 ≤ length (said_lines lines) → IsSecond lines n

-- SCRIPTS

-- what a script over a log without an end says: its log begins with no command
abbrev pub endless_content : EpochScript → Content
endless_content script = record { shape = script.config; log = []; events = script.events; shows = script.shows.items }

-- The lines are this script. With the word they are one over a log without an end, which says what they say without it.
abbrev pub IsAnyScript : List (List ℕ) → AnyScript → Type 0
IsAnyScript lines (Ending script) = (lines_without lines ≡ None) × IsScript lines (content_of script)
IsAnyScript lines (Endless script) = (plain : List (List ℕ)) × (lines_without lines ≡ Some plain) × IsScript plain (endless_content script)

-- The lines are a script whose log begins with commands, and line n, from 1, is the first of these.
pub record IsFirstLogged (lines : List (List ℕ)) (n : ℕ) : Type 0 where
  pub content : Content
  pub is_script : IsScript lines content
  pub logged : 0 < length content.log
  pub second : IsSecond lines n

-- Line n, from 1, is bad: the first that breaks a rule, where the word is left away. Where no line does, but a log without an end begins with commands, it is the first of these.
abbrev pub IsBadLine : List (List ℕ) → ℕ → Type 0
IsBadLine lines n = MatchOption (lines_without lines) (IsFirstBad lines n) (λ plain. IsFirstBad plain n ⊎ IsFirstLogged plain n)
