-- Each entry that may follow is a few moves of the machines.
use Rattle.std.proofs.Common.{ℕ, List, refl}
use Rattle.disk.specs.Disk.{Call, Answer}
use Rattle.paxos_block.specs.Shape.{Shape}
use Rattle.host.specs.Host.{Doing, Attempts, Looks, Beats, Marks}
use Rattle.world.specs.Entry.{Filled, Start, Stop, Begin, Called, Torn, Crashed, Lost, Migrated}
use Rattle.world.specs.World.{World, MayFollow}
use Rattle.world_safety.specs.Goes.{DecidesChosen, Goes}
use Rattle.world_safety.specs.Tied.{Moves, Tied}
use Rattle.world_safety.proofs.Moves.Beating.{beat_called_goes, beat_torn_goes}
use Rattle.world_safety.proofs.Moves.Marking.{mark_called_goes, mark_torn_goes}
use Rattle.world_safety.proofs.Moves.Operating.{starts_goes, stops_goes, begins_goes}
use Rattle.world_safety.proofs.Moves.Looking.{look_called_goes, look_torn_never}
use Rattle.world_safety.proofs.Moves.Due.{IsBusyWith, busy}
use Rattle.world_safety.proofs.Moves.Calling.{called_goes, torn_goes, tears}
use Rattle.world_safety.proofs.Moves.Crashing.{crash_goes, lost_goes}

module _ (c : Shape) (w : World) (ms : Moves) (tied : Tied c w ms) where
  -- a device call, by what is under way
  called : (h k : ℕ) (call : Call) (answer : Answer) (left : List ℕ) → MayFollow c w (Called h k call answer left) → DecidesChosen c w ms (Called h k call answer left) → (doing : Doing) → IsBusyWith c h k call (w.host h) doing → Goes c w (Called h k call answer left) ms
  called h k call answer left may decides (Attempts t) it = called_goes c w ms tied h k call answer left may.0 may.1 it.memory t it.running it.does decides
  called h k call answer left may decides (Looks t) it = look_called_goes c w ms tied h k call answer left t it decides.1
  called h k call answer left may decides (Beats heard) it = beat_called_goes c w ms tied h k call heard it answer left may.1
  called h k call answer left may decides (Marks t) it = mark_called_goes c w ms tied h k call t it answer left may.1

  -- and a torn one
  torn : (h k : ℕ) (call : Call) (left : List ℕ) → MayFollow c w (Torn h k call left) → (doing : Doing) → IsBusyWith c h k call (w.host h) doing → Goes c w (Torn h k call left) ms
  torn h k call left may (Attempts t) it = torn_goes c w ms tied h k call left may.0 (tears c w ms tied h k call left may.1) it.memory t it.running it.does
  torn h k call left may (Looks t) it = absurd (look_torn_never c w ms tied h k call left t it may.1)
  torn h k call left may (Beats heard) it = beat_torn_goes c w ms tied h k call heard it left (tears c w ms tied h k call left may.1)
  torn h k call left may (Marks t) it = mark_torn_goes c w ms tied h k call t it left (tears c w ms tied h k call left may.1)

  -- any of them

  pub goes : (e : Filled) → MayFollow c w e → DecidesChosen c w ms e → Goes c w e ms
  goes (Start h) may decides = starts_goes c w ms tied h may.0 (w.host h) refl may.1
  goes (Stop h) may decides = stops_goes c w ms tied h
  goes (Begin h task) may decides = begins_goes c w ms tied h task may.1 (w.host h) refl may.0
  goes (Called h k call answer left) may decides = let at_work = busy c h k call (w.host h) may.0 in called h k call answer left may decides at_work.0 at_work.1
  goes (Torn h k call left) may decides = let at_work = busy c h k call (w.host h) may.0 in torn h k call left may at_work.0 at_work.1
  goes (Crashed k left) may decides = crash_goes c w ms tied k left may.2
  goes (Lost k) may decides = lost_goes c w ms tied k
  goes (Migrated disks log) may decides = absurd may
