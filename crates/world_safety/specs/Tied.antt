-- What holds after each list of entries: the machines of the slots have come to where hosts and disks stand.
use Rattle.std.specs.Prelude.{◌≡◌, ◌≢◌, ◌<◌, ℕ, List, [], length, map, Option, Some}
use Rattle.torn_block.specs.Layout.{cluster_version}
use Rattle.torn_block.specs.declared.layout.TheConstants.{HOSTS}
use Rattle.paxos_block.specs.Places.{IsImage}
use Rattle.attempt.specs.Answers.{on}
use Rattle.lock_command.specs.Command.{spelling}
use Rattle.paxos_block.specs.Shape.{Shape}
use Rattle.host.specs.Host.{Attempt, Doing, Attempts, Marks, Memory, Host, Stopped, Running, input_of, setup_of}
use Rattle.world.specs.World.{World}
use Rattle.agreement.specs.Event.{state_after}
use Rattle.agreement.specs.Log.{Move, IsHistory, slots_after, events_of_slot}
use Rattle.attempt_safety.specs.Machine.{Machine}
use Rattle.attempt_safety.specs.Follows.{Follows}
use Rattle.world_safety.specs.Blocks.{Stands}
use Rattle.world_safety.specs.Knows.{Knows}
use Rattle.world_safety.specs.Marking.{IsMarkingSlot}
use Rattle.attempt.specs.Votes.{IsLong, TellsVotes}

-- moves of all slots, and the machine of a slot after them
abbrev pub Moves : Type 0
Moves = List (Move (List ℕ))

abbrev pub machine : Moves → ℕ → Machine
machine ms k = state_after (events_of_slot k ms)

-- A host tries its next slot: the slot's machine follows the attempt, which knows its own blocks there.
pub record IsTrying (c : Shape) (w : World) (ms : Moves) (h : ℕ) (m : Memory) (t : Attempt) : Type 0 where
  pub fits : length m.learned < c.slots
  pub follows : Follows (setup_of c h m t.operation) t.heard (machine ms (length m.learned))
  pub knows : (d : ℕ) → Knows (w.disk d) (setup_of c h m t.operation) (on t.heard) d ((machine ms (length m.learned)).cell h d)
  pub votes : (d : ℕ) → TellsVotes cluster_version (on t.heard d)
  pub input : IsLong cluster_version (input_of t.operation)

-- an attempt and a marking are tied; what a look or a beat hears is not
abbrev pub IsDoing : Shape → World → Moves → ℕ → Memory → Option Doing → Type 0
IsDoing c w ms h m (Some (Attempts t)) = IsTrying c w ms h m t
IsDoing c w ms h m (Some (Marks t)) = IsMarkingSlot c w h m t
IsDoing c w ms h m other = Unit {0}

-- a running host has learned what it has learned in the machines
pub record IsRunning (c : Shape) (w : World) (ms : Moves) (h : ℕ) (m : Memory) : Type 0 where
  pub below : h < HOSTS
  pub learned : (slots_after ms).learned h ≡ map spelling m.learned
  pub doing : IsDoing c w ms h m m.doing

-- and a stopped one nothing
abbrev pub HostAt : Shape → World → Moves → ℕ → Host → Type 0
HostAt c w ms h Stopped = (slots_after ms).learned h ≡ []
HostAt c w ms h (Running m) = IsRunning c w ms h m

-- each block of each slot on each disk stands for its cell
abbrev pub AllStand : Shape → World → Moves → Type 0
AllStand c w ms = (slot h d : ℕ) → slot < c.slots → h < HOSTS → Stands (w.disk d) slot h ((machine ms slot).cell h d)

-- all of it, but for what is said of one host
pub record TiedBut (c : Shape) (w : World) (ms : Moves) (h : ℕ) : Type 0 where
  pub history : IsHistory c.disks ms
  pub images : (d : ℕ) → IsImage cluster_version c.slots (w.disk d)
  pub stands : AllStand c w ms
  pub others : (g : ℕ) → g ≢ h → HostAt c w ms g (w.host g)

pub record Tied (c : Shape) (w : World) (ms : Moves) : Type 0 where
  pub history : IsHistory c.disks ms
  pub images : (d : ℕ) → IsImage cluster_version c.slots (w.disk d)
  pub stands : AllStand c w ms
  pub hosts : (h : ℕ) → HostAt c w ms h (w.host h)
