-- How a cluster begins, and the list that events make of it then.
use Rattle.std.specs.Prelude.{List, [], ◌∷◌}
use Rattle.lock_command.specs.declared.command.Command.{Command}
use Rattle.paxos_block.specs.Shape.{Shape}
use Rattle.world.specs.Entry.{Filled, Migrated}
use Rattle.world.specs.World.{World, world, CanMigrate}
use Rattle.world.specs.Happens.{Event, Line, happen, answers_from}

-- how large the cluster is, and the commands that a migration moved into its log
pub record Opening : Type 0 where
  pub shape : Shape
  pub moved : List Command

-- nothing was moved: each disk begins as zeros
abbrev pub blank : Shape → Opening
blank c = record { shape = c; moved = [] }

-- what was moved can be
abbrev pub CanBegin : Opening → Type 0
CanBegin o = CanMigrate o.shape o.moved

-- the list at first: the migration, if anything was moved
abbrev pub begun_with : Shape → List Command → List Filled
begun_with c [] = []
begun_with c (command ∷ log) = Migrated c.disks (command ∷ log) ∷ []

abbrev pub begun : Opening → List Filled
begun o = begun_with o.shape o.moved

-- the list that events make then, and the world
abbrev pub run_of : Opening → List Event → List Filled
run_of o events = happen o.shape (begun o) events

abbrev pub world_after : Opening → List Event → World
world_after o events = world o.shape (run_of o events)

-- the answers in their order; events are numbered from 0, whether they apply or not
abbrev pub answers_to : Opening → List Event → List Line
answers_to o events = answers_from o.shape (begun o) 0 events
