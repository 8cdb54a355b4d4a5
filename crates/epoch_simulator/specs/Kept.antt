-- What simulated hosts of all epochs and their disks are, and which lists of entries lead to that.
use Rattle.std.specs.Prelude.{◌≡◌, ◌<◌, ℕ, List, [], ◌∷◌, length, slice_get, slice_index_or, Some, None}
use Rattle.disk.specs.Disk.{DiskState}
use Rattle.disk.specs.Simulated.{SimState}
use Rattle.torn_block.specs.declared.layout.TheConstants.{HOSTS}
use Rattle.paxos_block.specs.Shape.{Shape}
use Rattle.standings.specs.Epochs.{whole_length}
use Rattle.epoch_deeds.specs.Knowing.{image_of}
use Rattle.epoch_host.specs.declared.walk.Walk.{Walk}
use Rattle.epoch_host.specs.Leading as leading
use Rattle.epoch_runs.specs.World.{Entry, World, opening, after, model_crashes, MayFollow}

-- how large the cluster is, its disks, and its hosts by their numbers
pub record Kept : Type 0 where
  pub shape : Shape
  pub disks : List SimState
  pub hosts : List Walk

-- a disk of which no failure was asked for
abbrev pub calm : DiskState → SimState
calm disk = record { disk = disk; failing = None; failures = 0 }

-- this is kept of a host
abbrev pub IsHost : Kept → (h : ℕ) → Walk → Type 0
IsHost k h w = slice_get k.hosts h ≡ Some w

-- A host knows nothing, and has no task; and all are such.
abbrev pub IsNew : Shape → (h : ℕ) → Walk → Type 0
IsNew c h w = leading.LeadsTo c h [] w × (w.task ≡ None)

abbrev pub AreNew : Shape → List Walk → Type 0
AreNew c hosts = (length hosts ≡ HOSTS) × ((h : ℕ) (w : Walk) → slice_get hosts h ≡ Some w → IsNew c h w)

-- Each entry may follow those before it, with some disk behind it, and they lead from one world to another.
abbrev pub GoesTo : Shape → (old : World) → List Entry → (new : World) → Type 0
GoesTo c old [] new = new ≡ old
GoesTo c old (entry ∷ entries) new = (left : DiskState) × MayFollow model_crashes c old entry left × GoesTo c (after old entry left) entries new

-- The world is what is kept: what each host did since its start leads to what is kept of it, and the disks are the world's. They take part in all epochs: none is put in the place of
-- another.
pub record Shows (w : World) (k : Kept) : Type 0 where
  pub disk_count : length k.disks ≡ k.shape.disks
  pub host_count : length k.hosts ≡ HOSTS
  pub disks : (d : ℕ) (other : SimState) → d < k.shape.disks → slice_index_or k.disks d other ≡ calm (w.disk d)
  pub hosts : (h : ℕ) (own : Walk) → IsHost k h own → leading.LeadsTo k.shape h (w.deeds h) own
  pub firsts : (d : ℕ) → w.first d ≡ 0

-- each disk is as long as two areas and what is between them
abbrev pub AreWhole : Kept → Type 0
AreWhole k = (d : ℕ) (other : SimState) → d < k.shape.disks → length (slice_index_or k.disks d other).disk.bytes ≡ whole_length (image_of k.shape)

-- From disks of zeros, and hosts that did nothing, these entries lead to this.
pub record LeadsTo (entries : List Entry) (k : Kept) : Type 0 where
  pub world : World
  pub goes : GoesTo k.shape (opening k.shape) entries world
  pub shows : Shows world k
  pub whole : AreWhole k

-- some list leads to it
pub record IsReached (k : Kept) : Type 0 where
  pub entries : List Entry
  pub leads : LeadsTo entries k
