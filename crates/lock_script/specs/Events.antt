-- Events that are kept as runs.
use Rattle.std.specs.Prelude.{List, replicate}
use Rattle.std.specs.List.{flat_map}
use Rattle.lock_script.specs.declared.event.Event.{Event}
use Rattle.lock_script.specs.declared.events.Run.{Run}

-- the events of runs, in their order
abbrev pub each_event : List Run → List Event
each_event runs = flat_map (λ run. replicate run.times run.event) runs
