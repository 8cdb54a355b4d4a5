-- What a script says, and the first line that breaks a rule.
use Rattle.std.specs.Prelude.{◌≡◌, ◌<◌, ◌≤◌, ◌+◌, ◌-◌, ◌⊎◌, ℕ, not, List, [], ◌∷◌, ◌++◌, length, take, map, filter, replicate, All}
use Rattle.std.specs.List.{flat_map}
use Rattle.paxos_block.specs.Shape.{Shape}
use Rattle.lock_command.specs.declared.command.Command.{Command}
use Rattle.lock_script.specs.declared.event.Event.{Event}
use Rattle.lock_script.specs.declared.event.Event.TheVariants.{Step}
use Rattle.lock_script.specs.declared.line.Line.{Line}
use Rattle.lock_script.specs.declared.line.Line.TheVariants.{Cluster, Log, Once, Steps, Show}
use Rattle.lock_script.specs.declared.script.Script.{Script}
use Rattle.lock_script.specs.declared.show.Show as shown
use Rattle.lock_script.specs.Lines.{is_passed_over}
use Rattle.lock_script.specs.Words.{words_of}
use Rattle.lock_script.specs.Spelling.{line_words, FitsSubmitted, FitsFirst, FitsBehind}

-- the events of a line
abbrev pub events_in : Line → List Event
events_in (Cluster shape) = []
events_in (Log command) = []
events_in (Once event) = event ∷ []
events_in (Steps host times) = replicate times (Step host)
events_in (Show view host) = []

-- the tables that a line asks to be shown, after so many events
abbrev pub shows_at : ℕ → Line → List shown.Show
shows_at place (Cluster shape) = []
shows_at place (Log command) = []
shows_at place (Once event) = []
shows_at place (Steps host times) = []
shows_at place (Show view host) = record { place = place; host = host; view = view } ∷ []

-- those of all lines, each with the number of the events before it
abbrev pub shows_in : ℕ → List Line → List shown.Show
shows_in place [] = []
shows_in place (line ∷ lines) = shows_at place line ++ shows_in (place + length (events_in line)) lines

-- a cluster, the commands that a migration moved into its log, what happens to it, and the tables that are shown
pub record Content : Type 0 where
  pub shape : Shape
  pub log : List Command
  pub events : List Event
  pub shows : List shown.Show

abbrev pub content_of : Script → Content
content_of script = record { shape = script.config; log = script.log.items; events = script.events; shows = script.shows.items }

-- the lines that are not passed over
abbrev pub said_lines : List (List ℕ) → List (List ℕ)
said_lines lines = filter (λ line. not (is_passed_over line)) lines

-- These lines are a script, which says this: a cluster line, then those of the log, at most one for each slot, and others behind them.
pub record IsScript (lines : List (List ℕ)) (content : Content) : Type 0 where
  pub behind : List Line
  pub words : map words_of (said_lines lines) ≡ map line_words (Cluster content.shape ∷ (map Log content.log ++ behind))
  pub first : FitsFirst content.shape
  pub logged : All FitsSubmitted content.log
  pub short : length content.log ≤ content.shape.slots
  pub fits : All (FitsBehind content.shape) behind
  pub events : content.events ≡ flat_map events_in behind
  pub few : length content.events ≤ 1000000
  pub shows : content.shows ≡ shows_in 0 behind

-- they break no rule so far
abbrev pub AreGood : List (List ℕ) → Type 0
AreGood lines = (said_lines lines ≡ []) ⊎ ((content : Content) × IsScript lines content)

-- Line n, from 1, is the first that breaks a rule. It stands behind the last one where all lines are passed over.
pub record IsFirstBad (lines : List (List ℕ)) (n : ℕ) : Type 0 where
  pub numbered : 1 ≤ n
  pub before : AreGood (take (n - 1) lines)
  pub breaks : n ≤ length lines → AreGood (take n lines) → ⊥
  pub behind : length lines < n → (n ≡ length lines + 1) × (said_lines lines ≡ [])
