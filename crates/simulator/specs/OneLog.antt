-- One log, in the words of a report: all that is answered goes by it, and no recovery misses what was acknowledged before it began.
use Rattle.std.specs.Prelude.{◌≡◌, ◌≤◌, ◌⊎◌, ℕ, List, length, take, map, All, Contains, slice_get, Option, Some, IfSome}
use Rattle.lock_command.specs.declared.command.Command.{Command}
use Rattle.lock_command.specs.Command.{spelling}
use Rattle.host.specs.declared.answer.HostAnswer.TheVariants.{Recovered}
use Rattle.world.specs.Happens.{Event, Line}
use Rattle.world.specs.Chosen.{IsChosenAt, IsLog}
use Rattle.world.specs.Headline.{IsPrefix}
use Rattle.world.specs.Opening.{Opening, run_of}
use Rattle.world.specs.Told.{prefix_before, IsGivenBefore, goes_by, BeganSince, MissesNothing, KeepsMoved}
use Rattle.simulator.specs.declared.answer.Answer.{Answer}
use Rattle.simulator.specs.Answers.{line_of}
use Rattle.simulator.specs.Past.{Past, answers_of}

-- THE LOG

-- with event i, or the next one that applies, a value is chosen for a slot
abbrev pub IsChosenBy : Opening → List Event → ℕ → ℕ → List ℕ → Type 0
IsChosenBy o events i slot value = IsChosenAt o.shape (run_of o events) (length (run_of o (take i events))) slot value

-- These commands are the one log of what happened.
pub record IsOneLog (o : Opening) (events : List Event) (log : List Command) : Type 0 where
  -- each is chosen for its slot, and none for the slot behind the last
  pub is_log : IsLog o.shape (run_of o events) (map spelling log)
  -- the commands that were moved begin it
  pub begun : IsPrefix o.moved log
  -- no other list is so
  pub no_other : (values : List (List ℕ)) → IsLog o.shape (run_of o events) values → values ≡ map spelling log
  -- each was moved, or submitted by one of the events
  pub each : (slot : ℕ) (command : Command) → slice_get log slot ≡ Some command → IsGivenBefore o events (length events) (spelling command)
  -- what any event chooses is the command there, and was moved, or submitted before
  pub chosen : (i slot : ℕ) (value : List ℕ) → IsChosenBy o events i slot value → slice_get (map spelling log) slot ≡ Some value
  pub submitted : (i slot : ℕ) (value : List ℕ) → IsChosenBy o events i slot value → IsGivenBefore o events i value
  -- at any time each host has learned a beginning of the log,
  pub begins : (i h : ℕ) → IsPrefix (prefix_before o events i h) log
  -- and of two such, of any hosts at any times, one begins the other
  pub prefixes : (i j g h : ℕ) → IsPrefix (prefix_before o events i g) (prefix_before o events j h) ⊎ IsPrefix (prefix_before o events j h) (prefix_before o events i g)

-- WHAT IS ANSWERED

-- what an answer says goes by the log
abbrev pub GoesBy : Opening → List Event → List Command → Answer → Type 0
GoesBy o events log a = goes_by o events log (line_of a) a.picture a.said

-- A recovery that began with event i, or later, has learned as much as any host had before event i.
abbrev pub HoldsLearned : Opening → List Event → List Line → Type 0
HoldsLearned o events lines =
    (x : Line) (i n j h : ℕ) → Contains lines x → x.said ≡ Recovered n → BeganSince o events i x
    → j ≤ i → length (prefix_before o events j h) ≤ n

-- The report tells of one log: all its answers go by it, and no recovery misses anything, or has learned less than others before it, or than was moved.
pub record TellsOneLog (o : Opening) (events : List Event) (report : List Answer) : Type 0 where
  pub log : List Command
  pub one : IsOneLog o events log
  pub answers : All (GoesBy o events log) report
  pub recoveries : MissesNothing o events (map line_of report)
  pub learned : HoldsLearned o events (map line_of report)
  pub moved : KeepsMoved o (map line_of report)

-- So far there is one log: what was answered with the last event goes by it, and no recovery has missed anything, or learned less than was moved.
pub record GoesByOneLog (p : Past) (answer : Option Answer) : Type 0 where
  pub log : List Command
  pub one : IsOneLog p.opening p.events log
  pub goes : IfSome answer (GoesBy p.opening p.events log)
  pub recoveries : MissesNothing p.opening p.events (answers_of p)
  pub moved : KeepsMoved p.opening (answers_of p)

-- the commands are a beginning of the log so far
abbrev pub BeginsTheLog : Past → List Command → Type 0
BeginsTheLog p prefix = (log : List Command) → IsOneLog p.opening p.events log → IsPrefix prefix log
