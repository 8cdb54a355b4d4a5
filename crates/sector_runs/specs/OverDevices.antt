-- Hosts on several machines over the same devices of sectors: what each host does, what each device makes of what is done to it, and one
-- order of it all.
use Rattle.std.specs.Prelude.{◌≡◌, ◌<◌, ◌^◌, ℕ, List, length, take, slice_get, Some}
use Rattle.disk.specs.Disk.{DiskState}
use Rattle.paxos_block.specs.Shape.{Shape}
use Rattle.host.specs.Host.{Stopped}
use Rattle.world.specs.Entry.{Filled, Crashed, on_disk, of_host, host_after}
use Rattle.sectors.specs.declared.geometry.Geometry.{Geometry}
use Rattle.sectors.specs.Geometry.{IsGeometry}
use Rattle.at_once.specs.AtOnce.{Does, AreDeeds, IsAtOnce}
use Rattle.at_once.specs.Images.{HoldsNothing}
use Rattle.at_once.specs.Power.{IsOverLosses, renumbered}
use Rattle.sector_runs.specs.Device.{Device}
use Rattle.sector_runs.specs.Showing.{ShowsDisk}
use Rattle.sector_runs.specs.Touches.{ServesBySectors}

-- In this order, each host did by itself what it may, and each device by itself served by its sectors what was done to it. At first each
-- device showed an image that held no block. Where a device restarted every host had stopped.
pub record IsOverDevices (c : Shape) (geometry : ℕ → Geometry) (images : ℕ → DiskState) (devices : ℕ → Device) (log : List Filled) : Type 0 where
  pub hosts : (h : ℕ) → Does c h Stopped (of_host h log)
  pub deeds : AreDeeds log
  pub is : (k : ℕ) → IsGeometry (geometry k)
  pub held : (k : ℕ) → HoldsNothing c.slots (images k)
  pub shows : (k : ℕ) → ShowsDisk (geometry k) (devices k) (images k)
  pub serves : (k : ℕ) → ServesBySectors c k (geometry k) (devices k) (on_disk k log)
  pub dark : (i k h : ℕ) (left : List ℕ) → slice_get log i ≡ Some (Crashed k left) → host_after c h Stopped (of_host h (take i log)) ≡ Stopped
  pub few : length log < 2 ^ 62

-- Then each image has served the calls, of which each takes effect at one moment.
abbrev pub DevicesServe : Type 0
DevicesServe =
    (c : Shape) (geometry : ℕ → Geometry) (images : ℕ → DiskState) (devices : ℕ → Device) (log : List Filled) → IsOverDevices c geometry images devices log →
    IsOverLosses c images log

-- So with a crash for each restart all of it is done at once.
abbrev pub DevicesMakeItAtOnce : Type 0
DevicesMakeItAtOnce =
    (c : Shape) (geometry : ℕ → Geometry) (images : ℕ → DiskState) (devices : ℕ → Device) (log : List Filled) → IsOverDevices c geometry images devices log →
    IsAtOnce c images (renumbered log)
