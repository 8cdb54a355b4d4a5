-- What the answers of events owe to what hosts say, and the events to what may follow.
use Rattle.std.specs.Prelude.{◌≡◌, ℕ, true, List, [], ◌∷◌, length, take, slice_get, Some}
use Rattle.lock_command.specs.declared.command.Command.{Command}
use Rattle.paxos_block.specs.Shape.{Shape}
use Rattle.host.specs.declared.answer.HostAnswer.{HostAnswer}
use Rattle.world.specs.Entry.{Filled, Migrated, is_on, is_of, disk_step, host_step}
use Rattle.world.specs.World.{World, world, MayFollow, IsRun}
use Rattle.world.specs.Happens.{Event, Line, entry_of, happen, answers_from}
use Rattle.world.specs.Chosen.{SaysAt}

-- LINES

-- how many entries there are behind the first n events after such a beginning
abbrev pub place_from : Shape → List Filled → List Event → ℕ → ℕ
place_from c begun events n = length (happen c begun (take n events))

-- Each line is what its host says at the entry of its event; and whatever a host says at an entry is a line, of the event that brought it.
pub record LinesAreSaidFrom (c : Shape) (begun : List Filled) (events : List Event) : Type 0 where
  pub said : (k : ℕ) (x : Line) → slice_get (answers_from c begun 0 events) k ≡ Some x → SaysAt c (happen c begun events) (place_from c begun events x.place) x.host x.said
  pub told : (i host : ℕ) (said : HostAnswer) → SaysAt c (happen c begun events) i host said
      → (k : ℕ) × (n : ℕ) × (slice_get (answers_from c begun 0 events) k ≡ Some (record { place = n; host = host; said = said })) × (place_from c begun events n ≡ i)

-- so it is with the answers of events,
abbrev pub place_of : Shape → List Event → ℕ → ℕ
place_of c events n = place_from c [] events n

abbrev pub LinesAreSaid : Shape → List Event → Type 0
LinesAreSaid c events = LinesAreSaidFrom c [] events

-- and of those after a migration.
abbrev pub LinesAreSaidAfter : Shape → List Command → List Event → Type 0
LinesAreSaidAfter c log events = LinesAreSaidFrom c (Migrated c.disks log ∷ []) events

-- NO RUN IS LEFT OUT

-- The event brings an entry of the same disk and host, which makes of these what the given entry makes of them.
pub record BringsSuch (c : Shape) (w : World) (event : Event) (e : Filled) : Type 0 where
  pub brought : Filled
  pub is : entry_of c w event ≡ Some brought
  pub on_disk : (k : ℕ) → is_on k brought ≡ is_on k e
  pub disk : (k : ℕ) → is_on k e ≡ true → disk_step (w.disk k) brought ≡ disk_step (w.disk k) e
  pub of_host : (h : ℕ) → is_of h brought ≡ is_of h e
  pub host : (h : ℕ) → is_of h e ≡ true → host_step c h (w.host h) brought ≡ host_step c h (w.host h) e

-- whatever entry may follow a run, some event brings such an entry
abbrev pub EventsReachEach : Type 0
EventsReachEach = (c : Shape) (log : List Filled) (e : Filled) → IsRun c log → MayFollow c (world c log) e → (event : Event) × BringsSuch c (world c log) event e

-- how a list begins: with a migration, or with nothing
abbrev pub beginning : List Filled → List Filled
beginning [] = []
beginning (Migrated disks log ∷ es) = Migrated disks log ∷ []
beginning (other ∷ es) = []

-- so whatever disks and hosts a run leaves, events leave them after its beginning
abbrev pub EventsReachAll : Type 0
EventsReachAll = (c : Shape) (log : List Filled) → IsRun c log → (events : List Event) × (world c (happen c (beginning log) events) ≡ world c log)
