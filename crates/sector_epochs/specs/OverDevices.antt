-- Hosts of all epochs on several machines over the same devices of sectors: what each host does, what each device makes of what is done to it, and one order of it all.
use Rattle.std.specs.Prelude.{◌≡◌, ◌+◌, ◌≤◌, ◌<◌, ◌^◌, ℕ, List, [], ◌∷◌, length, take, slice_get, Some}
use Rattle.disk.specs.Disk.{DiskState, Call, Write}
use Rattle.disk.specs.Simulated.{fresh_disk}
use Rattle.torn_block.specs.Layout.{cluster_version}
use Rattle.paxos_block.specs.Places.{image_length}
use Rattle.paxos_block.specs.Shape.{Shape}
use Rattle.lock_command.specs.declared.record.TheConstants.{LOCKS}
use Rattle.lock_table.specs.declared.clients.TheConstants.{CLIENTS}
use Rattle.endless_image.specs.declared.kind.Kind.TheVariants.{Endless}
use Rattle.sectors.specs.declared.geometry.Geometry.{Geometry}
use Rattle.sectors.specs.Geometry.{IsGeometry}
use Rattle.sector_runs.specs.Device.{Device}
use Rattle.sector_runs.specs.Owning.{IsOfHost, AllOwn}
use Rattle.sector_runs.specs.Showing.{ShowsDisk}
use Rattle.sector_runs.specs.Steps as steps
use Rattle.sector_runs.specs.Touches.{ServesBySectors}
use Rattle.epoch_deeds.specs.Deeds.{Calls}
use Rattle.epoch_runs.specs.World.{Entry, Does, Breaks, Crashes}
use Rattle.epochs_at_once.specs.AtOnce.{of_host, on_disk, deeds_since, DoesAlone, AllTakePart}
use Rattle.epochs_at_once.specs.Images.{slots_of, IsBlank, AllReadBehind, IsOverLossesOn}
use Rattle.epochs_at_once.specs.Joined.{HasOneLog}
use Rattle.sector_epochs.specs.World.{all_told}

-- WHAT IS ASKED OF HOSTS BESIDE WHAT THEY MAY DO

-- A write of nothing begins in a block of its host, too. Behind the last byte of a block the next host's begins.
abbrev pub NothingIsOwn : ℕ → Call → Type 0
NothingIsOwn h (Write boot at []) = IsOfHost h at
NothingIsOwn h other = Unit {0}

-- so it is with what hosts write beside epochs
abbrev pub AllNothingIsOwn : List Entry → Type 0
AllNothingIsOwn [] = Unit {0}
AllNothingIsOwn (Does h (Calls k now) ∷ entries) = NothingIsOwn h now.call × AllNothingIsOwn entries
AllNothingIsOwn (Breaks h k call ∷ entries) = NothingIsOwn h call × AllNothingIsOwn entries
AllNothingIsOwn (other ∷ entries) = AllNothingIsOwn entries

-- Then hosts that do what they may, each by itself, write their own blocks alone.
abbrev pub HostsWriteTheirOwn : Type 0
HostsWriteTheirOwn = (c : Shape) (entries : List Entry) → ((h : ℕ) → DoesAlone c h [] (of_host h entries)) → AllNothingIsOwn entries → AllOwn (all_told c entries)

-- OVER DEVICES

-- In this order, each host did by itself what it may, with reads behind headers alone, and each device by itself served by its sectors what was done to it. At first each
-- device showed an image that was blank. Where a device restarted every host had stopped.
pub record IsOverDevices (c : Shape) (geometry : ℕ → Geometry) (images : ℕ → DiskState) (devices : ℕ → Device) (entries : List Entry) : Type 0 where
  pub hosts : (h : ℕ) → DoesAlone c h [] (of_host h entries)
  pub reads : AllReadBehind c entries
  pub writes : AllNothingIsOwn entries
  pub is : (k : ℕ) → IsGeometry (geometry k)
  pub blank : (k : ℕ) → IsBlank c (images k)
  pub shows : (k : ℕ) → ShowsDisk (geometry k) (devices k) (images k)
  pub serves : (k : ℕ) → ServesBySectors c k (geometry k) (devices k) (all_told c (on_disk k entries))
  pub taking : AllTakePart c entries
  pub dark : (i k h : ℕ) → slice_get entries i ≡ Some (Crashes k) → deeds_since (of_host h (take i entries)) ≡ []

-- Then each image has served the calls, of which each takes effect at one moment, as images do that lose power.
abbrev pub DevicesServe : Type 0
DevicesServe =
    (c : Shape) (geometry : ℕ → Geometry) (images : ℕ → DiskState) (devices : ℕ → Device) (entries : List Entry) → IsOverDevices c geometry images devices entries →
    IsOverLossesOn c images entries

-- So all that hosts tell goes by one log.
abbrev pub DevicesHaveOneLog : Type 0
DevicesHaveOneLog =
    (c : Shape) (geometry : ℕ → Geometry) (images : ℕ → DiskState) (devices : ℕ → Device) (entries : List Entry) → LOCKS + CLIENTS ≤ c.slots →
    IsOverDevices c geometry images devices entries → length entries < 2 ^ 62 → HasOneLog c entries

-- A NEW DEVICE

-- an image of two areas, and the rows of standings between them, in which there is nothing
abbrev pub blank_image : Shape → DiskState
blank_image c = fresh_disk (image_length cluster_version (slots_of c))

-- A device for a log without an end, of as many slots an epoch, each block of which is zeros, shows that image, which is blank.
abbrev pub BlankDevicesShow : Type 0
BlankDevicesShow =
    (c : Shape) (geometry : Geometry) (device : Device) → IsGeometry geometry → geometry.kind ≡ Endless → geometry.slots ≡ c.slots → steps.IsBlank geometry device →
    ShowsDisk geometry device (blank_image c) × IsBlank c (blank_image c)
