-- Hosts on several machines over the same devices of sectors, where syncs come late.
use Rattle.std.specs.Prelude.{◌≡◌, ◌+◌, ◌≤◌, ◌<◌, ◌^◌, ℕ, List, [], length, take, slice_get, Some}
use Rattle.disk.specs.Disk.{DiskState}
use Rattle.paxos_block.specs.Shape.{Shape}
use Rattle.lock_command.specs.declared.record.TheConstants.{LOCKS}
use Rattle.lock_table.specs.declared.clients.TheConstants.{CLIENTS}
use Rattle.host.specs.Host.{Stopped}
use Rattle.world.specs.Entry as world
use Rattle.world.specs.Entry.{Filled, Crashed, host_after}
use Rattle.sectors.specs.declared.geometry.Geometry.{Geometry}
use Rattle.sectors.specs.Geometry.{IsGeometry}
use Rattle.at_once.specs.AtOnce.{Does, AreDeeds}
use Rattle.at_once.specs.Images.{HoldsNothing}
use Rattle.sector_runs.specs.Device.{Device}
use Rattle.sector_runs.specs.OneLog as ending
use Rattle.sector_runs.specs.Showing.{ShowsDisk}
use Rattle.epoch_runs.specs.World.{Entry, Crashes}
use Rattle.epochs_at_once.specs.AtOnce.{of_host, on_disk, deeds_since, DoesAlone, AllTakePart}
use Rattle.epochs_at_once.specs.Images.{IsBlank, AllReadBehind}
use Rattle.epochs_at_once.specs.Joined as endless
use Rattle.sector_epochs.specs.World.{all_told}
use Rattle.sector_epochs.specs.OverDevices.{AllNothingIsOwn}
use Rattle.late_syncs.specs.LateDevice.{ServesBySectorsLate}

-- In this order, in which a sync stands where it was asked for, each host did by itself what it may, and each device by itself served late by its sectors.
-- Otherwise as in `IsOverDevices` of hosts of one log that ends.
pub record IsOverLateDevices (c : Shape) (geometry : ℕ → Geometry) (images : ℕ → DiskState) (devices : ℕ → Device) (log : List Filled) : Type 0 where
  pub hosts : (h : ℕ) → Does c h Stopped (world.of_host h log)
  pub deeds : AreDeeds log
  pub is : (k : ℕ) → IsGeometry (geometry k)
  pub held : (k : ℕ) → HoldsNothing c.slots (images k)
  pub shows : (k : ℕ) → ShowsDisk (geometry k) (devices k) (images k)
  pub serves : (k : ℕ) → ServesBySectorsLate c k (geometry k) (devices k) (world.on_disk k log)
  pub dark : (i k h : ℕ) (left : List ℕ) → slice_get log i ≡ Some (Crashed k left) → host_after c h Stopped (world.of_host h (take i log)) ≡ Stopped
  pub few : length log < 2 ^ 62

-- Then one log joins all that they keep.
abbrev pub LateDevicesHaveOneLog : Type 0
LateDevicesHaveOneLog =
    (c : Shape) (geometry : ℕ → Geometry) (images : ℕ → DiskState) (devices : ℕ → Device) (log : List Filled) → IsOverLateDevices c geometry images devices log →
    ending.HasOneLog c log

-- The same of hosts of all epochs.
pub record IsOverLateDevicesOn (c : Shape) (geometry : ℕ → Geometry) (images : ℕ → DiskState) (devices : ℕ → Device) (entries : List Entry) : Type 0 where
  pub hosts : (h : ℕ) → DoesAlone c h [] (of_host h entries)
  pub reads : AllReadBehind c entries
  pub writes : AllNothingIsOwn entries
  pub is : (k : ℕ) → IsGeometry (geometry k)
  pub blank : (k : ℕ) → IsBlank c (images k)
  pub shows : (k : ℕ) → ShowsDisk (geometry k) (devices k) (images k)
  pub serves : (k : ℕ) → ServesBySectorsLate c k (geometry k) (devices k) (all_told c (on_disk k entries))
  pub taking : AllTakePart c entries
  pub dark : (i k h : ℕ) → slice_get entries i ≡ Some (Crashes k) → deeds_since (of_host h (take i entries)) ≡ []

-- Then all that they tell goes by one log.
abbrev pub LateDevicesHaveOneLogOn : Type 0
LateDevicesHaveOneLogOn =
    (c : Shape) (geometry : ℕ → Geometry) (images : ℕ → DiskState) (devices : ℕ → Device) (entries : List Entry) → LOCKS + CLIENTS ≤ c.slots →
    IsOverLateDevicesOn c geometry images devices entries → length entries < 2 ^ 62 → endless.HasOneLog c entries
