-- What the lines of a script say so far.
use Rattle.std.specs.Prelude.{◌≡◌, ◌==◌, ℕ, ◌+◌, nat_lt, nat_le, Bool, true, ◌&&◌, List, [], ◌∷◌, ◌++◌, length, replicate, Option, Some, MatchOption}
use Rattle.std.specs.Option.{is_none}
use Rattle.paxos_block.specs.Shape.{Shape}
use Rattle.lock_command.specs.declared.command.Command.{Command}
use Rattle.lock_command.specs.Reading.{◌>>=◌, passed}
use Rattle.lock_script.specs.declared.event.Event.{Event}
use Rattle.lock_script.specs.declared.event.Event.TheVariants.{Start, Stop, Submit, Recover, Look, Beat, Mark, Step, Tear, FailCall, DiskCrash, DiskGone}
use Rattle.lock_script.specs.declared.line.Line.{Line}
use Rattle.lock_script.specs.declared.line.Line.TheVariants.{Cluster, Log, Once, Steps, Show}
use Rattle.lock_script.specs.declared.show.Show as shown
use Rattle.lock_script.specs.declared.draft.Draft.{Draft}
use Rattle.lock_script.specs.Words.{words_of}
use Rattle.lock_script.specs.Script.{said_lines, IsScript}
use Rattle.lock_script.specs.Reading.{line_at}

-- the cluster, where its line was read, and what was read behind it
pub record SoFar : Type 0 where
  pub shape : Option Shape
  pub log : List Command
  pub events : List Event
  pub shows : List shown.Show

abbrev pub so_far : Draft → SoFar
so_far draft = record { shape = draft.config; log = draft.log.items; events = draft.events; shows = draft.shows.items }

-- whether the event's disk or slot, where it names one, is one of the cluster's
abbrev pub is_within : Shape → Event → Bool
is_within c (Start host) = true
is_within c (Stop host) = true
is_within c (Submit command tries) = true
is_within c (Recover host tries) = true
is_within c (Look host) = true
is_within c (Beat host) = true
is_within c (Mark host slot) = nat_lt slot c.slots
is_within c (Step host) = true
is_within c (Tear host given) = true
is_within c (FailCall host given) = true
is_within c (DiskCrash disk given) = nat_lt disk c.disks
is_within c (DiskGone disk) = nat_lt disk c.disks

-- no line was read but the cluster line and those of the log
abbrev pub is_log_open : SoFar → Bool
is_log_open said = length said.events == 0 && length said.shows == 0

-- one line more, if it may stand there
abbrev pub added : SoFar → Line → Option SoFar
added said (Cluster shape) = passed (is_none said.shape) (record said { shape = Some shape })
added said (Log command) = do
  shape ← said.shape
  passed (is_log_open said && nat_lt (length said.log) shape.slots) (record said { log = said.log ++ command ∷ [] })
added said (Once event) = do
  shape ← said.shape
  passed (nat_lt (length said.events) 1000000 && is_within shape event) (record said { events = said.events ++ event ∷ [] })
added said (Steps host times) = do
  shape ← said.shape
  passed (nat_le (length said.events + times) 1000000) (record said { events = said.events ++ replicate times (Step host) })
added said (Show view host) = do
  shape ← said.shape
  Some (record said { shows = said.shows ++ record { place = length said.events; host = host; view = view } ∷ [] })

-- the same of a line's bytes
unfoldable pub read_line : SoFar → List ℕ → Option SoFar
read_line said line = line_at (words_of line) >>= added said

-- these lines say this: nothing before the cluster line, and then a script
abbrev pub Says : List (List ℕ) → SoFar → Type 0
Says lines said =
    MatchOption said.shape
    ((said_lines lines ≡ []) × (said.log ≡ []) × (said.events ≡ []) × (said.shows ≡ []))
    (λ shape. IsScript lines (record { shape = shape; log = said.log; events = said.events; shows = said.shows }))
