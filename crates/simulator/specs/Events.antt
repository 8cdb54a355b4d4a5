-- The events of the code, as the definitions of the world have them, and what is answered.
use Rattle.std.specs.Prelude.{ℕ, List, [], ◌∷◌, map, Option, Some, None}
use Rattle.lock_script.specs.declared.event.Event as code
use Rattle.lock_script.specs.declared.event.Event.TheVariants as of_code
use Rattle.lock_script.specs.declared.script.Script.{Script}
use Rattle.world.specs.Opening.{Opening}
use Rattle.host.specs.declared.task.Task.TheVariants.{Submit, Recover, Look, Beat, Mark}
use Rattle.world.specs.Happens.{Event, Start, Stop, Begin, Step, Tear, FailCall, DiskCrash, DiskGone, Line}
use Rattle.simulator.specs.declared.simulated_cluster.Said.{Said}

abbrev pub event_of : code.Event → Event
event_of (of_code.Start host) = Start host
event_of (of_code.Stop host) = Stop host
event_of (of_code.Submit command tries) = Begin command.host (Submit command tries)
event_of (of_code.Recover host tries) = Begin host (Recover tries)
event_of (of_code.Look host) = Begin host Look
event_of (of_code.Beat host) = Begin host Beat
event_of (of_code.Mark host slot) = Begin host (Mark slot)
event_of (of_code.Step host) = Step host
event_of (of_code.Tear host given) = Tear host given
event_of (of_code.FailCall host given) = FailCall host given
event_of (of_code.DiskCrash disk given) = DiskCrash disk given
event_of (of_code.DiskGone disk) = DiskGone disk

abbrev pub events_of : List code.Event → List Event
events_of events = map event_of events

-- how the cluster of a script begins
abbrev pub opening_of : Script → Opening
opening_of script = record { shape = script.config; moved = script.log.items }

-- what was said, with the number of its event
abbrev pub lines_of : ℕ → Option Said → List Line
lines_of place None = []
lines_of place (Some said) = record { place = place; host = said.host; said = said.answer } ∷ []
