-- What hosts of all epochs do, as devices are told of it: calls that are answered, writes within which a host stopped, and restarts.
use Rattle.std.specs.Prelude.{ℕ, List, [], ◌∷◌}
use Rattle.paxos_block.specs.Shape.{Shape}
use Rattle.standings.specs.Epochs.{epoch_of, base_of}
use Rattle.standings.specs.Reading.{moved}
use Rattle.world.specs.Entry.{Filled, Start, Stop, Called, Torn, Crashed, Lost}
use Rattle.epoch_deeds.specs.Deeds.{Deed, Calls, CallsIn}
use Rattle.epoch_deeds.specs.Knowing.{image_of}
use Rattle.epoch_runs.specs.World.{Entry, Does, Breaks, BreaksIn, Ends, Crashes, Loses, Replaces}

-- A call is told where it is made: that of a core in an epoch behind the beginning of its area. Deeds that are no calls are none of a device. Of a new device in the place of another one is
-- told what no device serves.
abbrev pub call_by : ℕ → Deed → Filled
call_by h (Calls d now) = Called h d now.call now.answer []
call_by h (CallsIn epoch d now call heard) = Called h d now.call now.answer []
call_by h other = Start h

abbrev pub told_of : Shape → Entry → Filled
told_of c (Does h deed) = call_by h deed
told_of c (Breaks h d call) = Torn h d call []
told_of c (BreaksIn epoch h d call) = Torn h d (moved (base_of (image_of c) (epoch_of epoch).area) call) []
told_of c (Ends h) = Stop h
told_of c (Crashes d) = Crashed d []
told_of c (Loses d) = Lost d
told_of c (Replaces d first newest) = Start 0

abbrev pub all_told : Shape → List Entry → List Filled
all_told c [] = []
all_told c (entry ∷ entries) = told_of c entry ∷ all_told c entries
