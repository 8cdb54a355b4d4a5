-- What a simulated cluster keeps, and which lists of entries lead to that.
use Rattle.std.specs.Prelude.{◌≡◌, ◌<◌, ◌+◌, ◌-◌, ◌&&◌, ℕ, Bool, false, not, List, length, slice_index_or, Option, Some, None, is_none}
use Rattle.std.specs.Option.{option_map}
use Rattle.disk.specs.Disk.{DiskState, Call}
use Rattle.disk.specs.Simulated.{SimState, refusal_of}
use Rattle.torn_block.specs.Layout.{cluster_version}
use Rattle.paxos_block.specs.Places.{image_length}
use Rattle.torn_block.specs.declared.layout.TheConstants.{HOSTS}
use Rattle.paxos_block.specs.Shape.{Shape}
use Rattle.host.specs.Host.{Host, Stopped, Running, next_of}
use Rattle.host.specs.Kept as hosts
use Rattle.world.specs.Entry.{Filled}
use Rattle.world.specs.World.{World, world, IsRun}
use Rattle.world.specs.Happens.{Event, entry_of, happens, happen, lines_at, answers_from}
use Rattle.simulator.specs.declared.simulated_cluster.Said.{Said}
use Rattle.simulator.specs.Calls.{is_write}
use Rattle.simulator.specs.Events.{lines_of}

-- how large the cluster is, its disks, and its hosts, of which a stopped one keeps nothing
pub record Kept : Type 0 where
  pub shape : Shape
  pub disks : List SimState
  pub hosts : List (Option hosts.Kept)

-- a disk of which no failure was asked for
abbrev pub calm : DiskState → SimState
calm disk = record { disk = disk; failing = None; failures = 0 }

-- a host of the world is what is kept of it
abbrev pub IsHost : Shape → ℕ → Host → Option hosts.Kept → Type 0
IsHost c h Stopped None = Unit {0}
IsHost c h Stopped (Some k) = ⊥
IsHost c h (Running m) None = ⊥
IsHost c h (Running m) (Some k) = hosts.LeadsTo c h m k

-- whether what is kept of a host carries out an operation, and whether it may begin one
abbrev pub is_busy : Option hosts.Kept → Bool
is_busy None = false
is_busy (Some k) = not (hosts.is_idle k)

abbrev pub is_free : Option hosts.Kept → Bool
is_free None = false
is_free (Some k) = hosts.is_idle k

-- what is kept of a host says
abbrev pub said_by : ℕ → Option hosts.Kept → Option Said
said_by h None = None
said_by h (Some k) = option_map (λ answer. record { host = h; answer = answer }) k.said

-- and what a host of the cluster says
abbrev pub said_now : ℕ → Kept → Option Said
said_now h k = said_by h (slice_index_or k.hosts h None)

-- The world is what is kept.
pub record Shows (w : World) (k : Kept) : Type 0 where
  pub disk_count : length k.disks ≡ k.shape.disks
  pub host_count : length k.hosts ≡ HOSTS
  pub disks : (d : ℕ) (other : SimState) → d < k.shape.disks → slice_index_or k.disks d other ≡ calm (w.disk d)
  pub hosts : (h : ℕ) → IsHost k.shape h (w.host h) (slice_index_or k.hosts h None)

-- each disk is as long as an image
abbrev pub IsSized : Kept → Type 0
IsSized k =
    (d : ℕ) (other : SimState) → d < k.shape.disks →
    length (slice_index_or k.disks d other).disk.bytes ≡ image_length cluster_version k.shape.slots

-- The list leads to this: it is a run, and its world is what is kept.
pub record LeadsTo (log : List Filled) (k : Kept) : Type 0 where
  pub run : IsRun k.shape log
  pub shows : Shows (world k.shape log) k
  pub sized : IsSized k

-- some list leads to it
pub record IsReached (k : Kept) : Type 0 where
  pub log : List Filled
  pub leads : LeadsTo log k

-- THE NEXT CALL OF A HOST

-- the call is a write that its disk would not refuse
abbrev pub tears : World → ℕ × Call → Bool
tears w next = is_write next.1 && is_none (refusal_of (w.disk next.0) next.1)

-- the disk of a call, and whether the call may be torn
abbrev pub told_call : World → Option (ℕ × Call) → Option (ℕ × Bool)
told_call w None = None
told_call w (Some next) = Some (next.0, tears w next)

-- so it is told of what is kept of a world
abbrev pub TellsNext : ℕ → Option (ℕ × Bool) → Kept → Type 0
TellsNext h told k = (log : List Filled) → LeadsTo log k → told ≡ told_call (world k.shape log) (next_of k.shape h ((world k.shape log).host h))

-- WHAT HAPPENS

-- An event happens, and this is said then: the list has grown by the event's entry, where it brings one.
pub record Brings (log : List Filled) (event : Event) (old new : Kept) (said : Option Said) : Type 0 where
  pub shape : new.shape ≡ old.shape
  pub leads : LeadsTo (happens old.shape log event) new
  pub says : (place : ℕ) → lines_of place said ≡ lines_at old.shape log place (entry_of old.shape (world old.shape log) event)

-- Events happen one after the other, and this is said with the last of them: the list has grown by their entries, and nothing is said with those before the last.
pub record BringsAll (log : List Filled) (events : List Event) (old new : Kept) (said : Option Said) : Type 0 where
  pub shape : new.shape ≡ old.shape
  pub leads : LeadsTo (happen old.shape log events) new
  pub says : (place : ℕ) → lines_of (place + length events - 1) said ≡ answers_from old.shape log place events
