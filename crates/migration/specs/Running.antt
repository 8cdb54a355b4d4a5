-- A migrator over simulated disks, and which events lead to that.
use Rattle.std.specs.Prelude.{◌≡◌, ◌<◌, ℕ, Bool, true, false, List, length, map, Option, Some, None, slice_index_or}
use Rattle.disk.specs.Disk.{DiskState, Answer, Call, Write}
use Rattle.disk.specs.Simulated.{SimState, fresh_disk}
use Rattle.migration.specs.Events.{Event, Step, Tear, FailCall, DiskCrash, DiskGone, run}
use Rattle.migration.specs.Fits.{Fits}
use Rattle.migration.specs.Heard.{Progress, at_first, heard}
use Rattle.paxos_block.specs.Image.{Setup}
use Rattle.migration.specs.Kept as kept
use Rattle.migration.specs.Run.{Migration}
use Rattle.migration.specs.declared.event.MigrationEvent as code
use Rattle.migration.specs.declared.event.MigrationEvent.TheVariants as of_code
use Rattle.migration.specs.declared.notes.Notes.{Notes}

abbrev pub event_of : code.MigrationEvent → Event
event_of of_code.Step = Step
event_of (of_code.Tear given) = Tear given.items
event_of (of_code.FailCall given) = FailCall given.items
event_of (of_code.DiskCrash disk given) = DiskCrash disk given.items
event_of (of_code.DiskGone disk) = DiskGone disk

abbrev pub events_of : List code.MigrationEvent → List Event
events_of events = map event_of events

-- CALLS

abbrev pub is_write : Call → Bool
is_write (Write boot at from) = true
is_write other = false

-- WHAT IS KEPT

-- a disk of which no failure was asked for
abbrev pub calm : DiskState → SimState
calm disk = record { disk = disk; failing = None; failures = 0 }

abbrev pub disk_in : List SimState → ℕ → DiskState
disk_in disks d = (slice_index_or disks d (calm (fresh_disk 0))).disk

-- These are the disks of the migration.
pub record AreDisks (s : Setup) (w : Migration) (disks : List SimState) : Type 0 where
  pub count : length disks ≡ s.disks
  pub each : (d : ℕ) (other : SimState) → d < s.disks → slice_index_or disks d other ≡ calm (w.disk d)

-- the migrator has heard this
pub record HasHeard (s : Setup) (p : Progress) (n : Notes) : Type 0 where
  pub answers : List Answer
  pub leads : kept.LeadsTo s answers n
  pub comes : heard (at_first s) answers ≡ p

-- where there is none, it has stopped
abbrev pub HasCome : Setup → Progress → Option Notes → Type 0
HasCome s p None = p.failed ≡ true
HasCome s p (Some n) = HasHeard s p n

-- These events lead to this migrator and these disks.
pub record LeadsTo (s : Setup) (events : List Event) (migrator : Option Notes) (disks : List SimState) : Type 0 where
  pub fits : Fits s
  pub comes : HasCome s (run s events).progress migrator
  pub shows : AreDisks s (run s events) disks

-- some events do
pub record IsReached (migrator : Option Notes) (disks : List SimState) : Type 0 where
  pub setup : Setup
  pub events : List Event
  pub leads : LeadsTo setup events migrator disks
