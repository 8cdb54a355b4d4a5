-- Why words ask for nothing, and which of them is bad.
use Rattle.std.specs.Prelude.{◌≡◌, ◌≤◌, ◌+◌, ℕ, true, List, drop, length, Option, None, slice_get}
use Rattle.mg_words.specs.Asking.{Asks, IsOver, command_said, takes, word_at}
use Rattle.mg_words.specs.Forms.{fitting, may_go_on, slots}
use Rattle.mg_words.specs.declared.fault.WordFault.{WordFault}
use Rattle.mg_words.specs.declared.fault.WordFault.TheVariants.{Bad, NoCommand, NoMemory}
use Rattle.mg_words.specs.declared.form.Form.{Form}
use Rattle.mg_words.specs.declared.request.Request.{Request}
use Rattle.mg_words.specs.declared.slot.Slot.{Slot}

-- No request is asked by the words. A form has room for those before this place, and none for that at it. There this could stand; None, where the line could end.
pub record IsFirstBad (words : List (List ℕ)) (place : ℕ) (right : Option Slot) : Type 0 where
  pub asks_nothing : (request : Request) → ¬ (Asks words request)
  pub no_further : (other : Form) → fitting other words ≤ place
  pub form : Form
  pub so_far : fitting form words ≡ place
  pub wanted : right ≡ slice_get (slots form) place

-- The line is one for a command of this host, and the words from the last place of its form on are none that a client may ask for.
pub record HasNoCommand (words : List (List ℕ)) (place : ℕ) : Type 0 where
  pub form : Form
  pub line : takes form words ≡ true
  pub goes_on : may_go_on form ≡ true
  pub last : length (slots form) ≡ place + 1
  pub host : ℕ
  pub over : IsOver words (word_at words 1) host
  pub nothing : command_said host (drop place words) ≡ None

-- of memory nothing is said
abbrev pub IsWrong : List (List ℕ) → WordFault → Type 0
IsWrong words (Bad place wanted) = IsFirstBad words place wanted
IsWrong words (NoCommand place) = HasNoCommand words place
IsWrong words NoMemory = Unit {0}
