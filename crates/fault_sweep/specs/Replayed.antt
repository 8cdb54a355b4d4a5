-- How a replay goes on: the events that happen, what is said with each, and whether a host has said that it has recovered.
use Rattle.std.specs.Prelude.{◌≡◌, ◌<◌, ◌≤◌, ◌+◌, ◌-◌, ◌++◌, ℕ, Bool, List, length, map, All, Contains, Option, Some, IfSome}
use Rattle.std.specs.List.{list_any}
use Rattle.lock_command.specs.declared.command.Command.{Command}
use Rattle.host.specs.declared.answer.HostAnswer.TheVariants.{Recovered}
use Rattle.host.specs.Host.{said_of}
use Rattle.world.specs.Happens.{Event, Line}
use Rattle.world.specs.Opening.{CanBegin, run_of}
use Rattle.world.specs.Told.{prefix_before}
use Rattle.simulator.specs.declared.answer.Answer.{Answer}
use Rattle.simulator.specs.declared.simulated_cluster.Said.{Said}
use Rattle.simulator.specs.Answers.{line_of, IsPicturedIn}
use Rattle.simulator.specs.Events.{lines_of}
use Rattle.simulator.specs.Kept.{Kept, LeadsTo}
use Rattle.simulator.specs.Past.{Past, world_of, answers_of}
use Rattle.fault_sweep.specs.Sweeping.{is_recovery}

-- these events have happened since, one after the other
abbrev pub later : Past → List Event → Past
later p events = record p { events = p.events ++ events }

-- of all the events since, with the last alone this was said, by a host that runs
pub record Says (old new : Past) (said : Option Said) : Type 0 where
  pub answered : answers_of new ≡ answers_of old ++ lines_of (length new.events - 1) said
  pub runs : IfSome said (λ s. said_of ((world_of new).host s.host) ≡ Some s.answer)

-- these are the answers since the start, and this is whether a recovery is among them
pub record Heard (start now : Past) (has : Bool) : Type 0 where
  pub lines : List Line
  pub answered : answers_of now ≡ answers_of start ++ lines
  pub among : has ≡ list_any is_recovery lines

-- Since the start a recovery has answered, and these are the commands that its host had learned then.
pub record HasLearned (start now : Past) (commands : List Command) : Type 0 where
  pub line : Line
  pub among : Contains (answers_of now) line
  pub since : length start.events ≤ line.place
  pub says : line.said ≡ Recovered (length commands)
  pub are : commands ≡ prefix_before now.opening now.events (line.place + 1) line.host

-- So it is of what is kept, if anything is.
pub record HasKept (start now : Past) (learned : Option (List Command)) : Type 0 where
  pub later : length start.events ≤ length now.events
  pub has : IfSome learned (HasLearned start now)

-- an answer to one of the events, with its picture
abbrev pub IsListed : Past → Answer → Type 0
IsListed p a = (a.place < length p.events) × IsPicturedIn p.opening p.events a

-- the report lists all that was answered
pub record Lists (p : Past) (report : List Answer) : Type 0 where
  pub lines : map line_of report ≡ answers_of p
  pub pictures : All (IsListed p) report

-- WHAT A REPLAY KEEPS

-- the cluster, how many events have happened to it, and what was answered
pub record Played : Type 0 where
  pub cluster : Kept
  pub place : ℕ
  pub report : List Answer

-- all this is of what has happened
pub record IsOf (p : Past) (r : Played) : Type 0 where
  pub can : CanBegin p.opening
  pub own : r.cluster.shape ≡ p.opening.shape
  pub leads : LeadsTo (run_of p.opening p.events) r.cluster
  pub many : r.place ≡ length p.events
  pub lists : Lists p r.report

-- something has happened that it is of
pub record IsPlayed (r : Played) : Type 0 where
  pub past : Past
  pub is : IsOf past r

-- these events happened, one after the other, whatever had happened before
abbrev pub GoesOn : Played → Played → List Event → Type 0
GoesOn old new events = (p : Past) → IsOf p old → IsOf (later p events) new
