-- Hosts over devices that go by their touches are hosts over images that serve each call at one moment.
use Rattle.std.specs.Prelude.{ℕ, List, []}
use Rattle.std.proofs.Common.{sym, subst}
use Rattle.disk.specs.Disk.{DiskState}
use Rattle.paxos_block.specs.Shape.{Shape}
use Rattle.world.specs.Entry.{Filled, on_disk}
use Rattle.sectors.specs.declared.geometry.Geometry.{Geometry}
use Rattle.sectors.specs.Geometry.{IsGeometry}
use Rattle.at_once.specs.Power.{ServesOn}
use Rattle.at_once.proofs.Losses.{losses_are_crashes}
use Rattle.sector_runs.specs.Device.{Device}
use Rattle.sector_runs.specs.OverDevices.{DevicesServe, DevicesMakeItAtOnce}
use Rattle.sector_runs.specs.Owning.{AllOwn}
use Rattle.sector_runs.specs.Showing.{ShowsDisk}
use Rattle.sector_runs.specs.Touches.{ServesBySectors}
use Rattle.sector_runs.proofs.Owning.{hosts_write_their_own, on_disk_own}
use Rattle.sector_runs.proofs.Seeing.{Known}
use Rattle.sector_runs.proofs.Serving.{serves_from}

-- before its first moment nothing was seen of a device
pub known_first : (geometry : Geometry) (device : Device) (disk : DiskState) → ShowsDisk geometry device disk → Known geometry [] device
known_first geometry device disk shows =
    record { sized = shows.sized; came = λ s bytes seen. absurd seen; fresh = λ h spot bytes is_spot own seen. absurd seen }

pub serves_on : (c : Shape) (k : ℕ) (geometry : Geometry) → IsGeometry geometry → (device : Device) (disk : DiskState) (calls : List Filled) → ShowsDisk geometry device disk → AllOwn calls → ServesBySectors c k geometry device calls → ServesOn c k disk calls
serves_on c k geometry is device disk calls shows own serves =
    subst (ServesOn c k disk) (sym serves.same)
    (serves_from c k geometry is serves.history [] device disk (known_first geometry device disk shows) shows (subst AllOwn serves.same own) serves.goes)

pub devices_serve : DevicesServe
devices_serve c geometry images devices log over =
    let own = hosts_write_their_own c log over.hosts in
    record {
      hosts = over.hosts;
      deeds = over.deeds;
      held = over.held;
      disks = λ k. serves_on c k (geometry k) (over.is k) (devices k) (images k) (on_disk k log) (over.shows k) (on_disk_own k log own) (over.serves k);
      dark = over.dark;
      few = over.few;
    }

pub devices_make_it_at_once : DevicesMakeItAtOnce
devices_make_it_at_once c geometry images devices log over = losses_are_crashes c images log (devices_serve c geometry images devices log over)
