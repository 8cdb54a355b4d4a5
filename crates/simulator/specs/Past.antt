-- What a simulated cluster is seen as: what has happened to it.
use Rattle.std.specs.Prelude.{List}
use Rattle.world.specs.World.{World}
use Rattle.world.specs.Happens.{Event, Line}
use Rattle.world.specs.Opening.{Opening, world_after, answers_to}

-- how the cluster began, and the events that have happened to it
pub record Past : Type 0 where
  pub opening : Opening
  pub events : List Event

-- the world that they made, and what the hosts have answered
abbrev pub world_of : Past → World
world_of p = world_after p.opening p.events

abbrev pub answers_of : Past → List Line
answers_of p = answers_to p.opening p.events
