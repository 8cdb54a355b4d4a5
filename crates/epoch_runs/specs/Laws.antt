-- What hosts of all epochs do, over disks that serve them, is one log without an end.
use Rattle.std.specs.Prelude.{◌≡◌, ◌+◌, ◌<◌, ◌≤◌, ◌^◌, ℕ, suc, List, length, drop, slice_get, Some}
use Rattle.lock_command.specs.declared.record.TheConstants.{LOCKS}
use Rattle.lock_table.specs.declared.clients.TheConstants.{CLIENTS}
use Rattle.paxos_block.specs.Shape.{Shape}
use Rattle.standings.specs.Epochs.{whole_length}
use Rattle.host.specs.declared.task.Task.{Task}
use Rattle.host.specs.Host.{Memory, Running}
use Rattle.world.specs.World as one_world
use Rattle.epochs.specs.Acts.{Act}
use Rattle.epochs.specs.OneLog.{IsShared, IsSharedOverLosses}
use Rattle.endless.specs.Headline.{KeepsToEpochs}
use Rattle.endless.specs.Lived.{Lived, part, now, RunsIn}
use Rattle.endless.specs.WithoutEnd.{host_by, IsRunWithoutEnd, IsOverLossesWithoutEnd}
use Rattle.epoch_deeds.specs.Knowing.{image_of, MayBeGiven}
use Rattle.epoch_runs.specs.Living.{lived_at, lived_of, place_of, deeds_from, core_now}
use Rattle.epoch_runs.specs.World.{Entry, no_deeds, Crashing, model_crashes, power_losses, Goes}

-- Each disk has served what is done there, in whatever epoch; of each epoch, what is lived is of hosts that do what they may, and is on each disk what was done there.
abbrev pub DeedsAreShared : Type 0
DeedsAreShared =
    (c : Shape) (entries : List Entry) → Goes model_crashes c entries → (acts : ℕ → List Act) × IsShared c (whole_length (image_of c)) acts (λ e. part e (lived_of c entries))

-- So it is over losses of power, if not too much is done.
abbrev pub DeedsAreSharedOverLosses : Type 0
DeedsAreSharedOverLosses =
    (c : Shape) (entries : List Entry) → Goes power_losses c entries → ((e : ℕ) → length (part e (lived_of c entries)) < 2 ^ 62) →
    (acts : ℕ → List Act) × IsSharedOverLosses c (whole_length (image_of c)) acts (λ e. part e (lived_of c entries))

-- So where hosts keep to the epochs all of it is one log without an end,
abbrev pub KeptDeedsHaveOneLog : Type 0
KeptDeedsHaveOneLog = (c : Shape) (entries : List Entry) → Goes model_crashes c entries → KeepsToEpochs c (lived_of c entries) → IsRunWithoutEnd c (lived_of c entries)

-- over losses of power too.
abbrev pub KeptDeedsHaveOneLogOverLosses : Type 0
KeptDeedsHaveOneLogOverLosses =
    (c : Shape) (entries : List Entry) → Goes power_losses c entries → ((e : ℕ) → length (part e (lived_of c entries)) < 2 ^ 62) → KeepsToEpochs c (lived_of c entries) → IsOverLossesWithoutEnd c (lived_of c entries)

-- A host of all epochs may be given just the tasks that one of the world may be given.
abbrev pub TasksAreTheSame : Type 0
TasksAreTheSame = (c : Shape) (h : ℕ) (task : Task) → (MayBeGiven c h task → one_world.MayBeGiven c h task) × (one_world.MayBeGiven c h task → MayBeGiven c h task)

-- Hosts keep to the epochs, where an epoch has room for what carries a table over.
abbrev pub HostsKeepToEpochs : Type 0
HostsKeepToEpochs = (c : Shape) (entries : List Entry) → LOCKS + CLIENTS ≤ c.slots → Goes model_crashes c entries → KeepsToEpochs c (lived_of c entries)

-- So all that they do is one log without an end.
abbrev pub HostsHaveOneLog : Type 0
HostsHaveOneLog = (c : Shape) (entries : List Entry) → LOCKS + CLIENTS ≤ c.slots → Goes model_crashes c entries → IsRunWithoutEnd c (lived_of c entries)

-- So it is over losses of power, each of which finds every host stopped, if not too much is done.
abbrev pub HostsKeepToEpochsOverLosses : Type 0
HostsKeepToEpochsOverLosses =
    (c : Shape) (entries : List Entry) → LOCKS + CLIENTS ≤ c.slots → Goes power_losses c entries → ((e : ℕ) → length (part e (lived_of c entries)) < 2 ^ 62) → KeepsToEpochs c (lived_of c entries)

abbrev pub HostsHaveOneLogOverLosses : Type 0
HostsHaveOneLogOverLosses =
    (c : Shape) (entries : List Entry) → LOCKS + CLIENTS ≤ c.slots → Goes power_losses c entries → ((e : ℕ) → length (part e (lived_of c entries)) < 2 ^ 62) → IsOverLossesWithoutEnd c (lived_of c entries)

-- THE ORDER

-- Each entry has its place in what is lived.
pub record KeepsOrder (c : Shape) (entries : List Entry) : Type 0 where
  -- what comes first is lived first,
  pub rises : (i j : ℕ) → i ≤ j → place_of c entries i ≤ place_of c entries j
  -- and what is lived by an entry stands at its place;
  pub stands : (i n : ℕ) (entry : Entry) (item : Lived) → slice_get entries i ≡ Some entry →
      slice_get (lived_at c (deeds_from no_deeds i entries) entry (drop (suc i) entries)) n ≡ Some item → slice_get (lived_of c entries) (place_of c entries i + n) ≡ Some item
  -- there each core is what the deeds of its host make of it, and has heard the row that the host has read and is about to show to it.
  pub cores : (i e h : ℕ) → host_by c (part e (lived_of c entries)) (now e (place_of c entries i) (lived_of c entries)) h ≡ core_now c h e (deeds_from no_deeds i entries) (drop i entries)
  -- Who runs at any place does so by what was done before an entry whose place is no later.
  pub runs : (p e h : ℕ) (memory : Memory) → RunsIn c (lived_of c entries) p e h memory →
      (i : ℕ) × (place_of c entries i ≤ p) × (core_now c h e (deeds_from no_deeds i entries) (drop i entries) ≡ Running memory)

-- So it is, however disks crash.
abbrev pub OrderIsKept : Crashing → Type 0
OrderIsKept crashing = (c : Shape) (entries : List Entry) → Goes crashing c entries → KeepsOrder c entries
