-- Hosts of all epochs over devices that go by their touches are such hosts over images that serve each call at one moment.
use Rattle.std.proofs.Common.{ℕ, ◌≡◌, ◌+◌, List, [], ◌∷◌, ◌∙◌, ap, subst, arith}
use Rattle.disk.specs.Disk.{DiskState}
use Rattle.disk.specs.Simulated.{fresh_disk}
use Rattle.torn_block.specs.Layout.{cluster_version}
use Rattle.paxos_block.specs.Places.{image_length}
use Rattle.paxos_block.specs.Shape.{Shape}
use Rattle.endless_image.specs.declared.kind.Kind.{Kind}
use Rattle.sectors.specs.Geometry.{rows_by}
use Rattle.at_once.specs.Images.{HoldsNothing}
use Rattle.at_once.specs.Power.{LosesPower, ServesOn}
use Rattle.sector_runs.specs.Showing.{ShowsDisk}
use Rattle.sector_runs.proofs.Over.{serves_on}
use Rattle.sector_runs.proofs.Steps.{blank_devices_show}
use Rattle.epoch_deeds.specs.Deeds.{Calls, CallsIn, Starts, Begins, Stops}
use Rattle.epoch_runs.specs.World.{Entry, Does, Breaks, BreaksIn, Ends, Crashes, Loses, Replaces}
use Rattle.epochs_at_once.specs.AtOnce.{on_disk, Serves}
use Rattle.epochs_at_once.specs.Images.{slots_of}
use Rattle.epochs_at_once.proofs.Images.{images_have_one_log_over_losses}
use Rattle.sector_epochs.specs.World.{all_told}
use Rattle.sector_epochs.specs.OverDevices.{DevicesServe, DevicesHaveOneLog, BlankDevicesShow}
use Rattle.sector_epochs.proofs.Owning.{hosts_write_their_own, own_on}

module _ (c : Shape) (k : ℕ) where
  -- what an image makes of calls that are told, it makes of the deeds that they tell of
  serve : (entries : List Entry) (old : DiskState) → ServesOn c k old (all_told c entries) → Serves LosesPower c k old entries
  serve [] old serves = tt
  serve (Does h (Calls d now) ∷ entries) old serves = (serves.0, serves.1, serve entries serves.0 serves.2)
  serve (Does h (CallsIn e d now call heard) ∷ entries) old serves = (serves.0, serves.1, serve entries serves.0 serves.2)
  serve (Does h (Starts e) ∷ entries) old serves = absurd serves.1
  serve (Does h (Begins e task) ∷ entries) old serves = absurd serves.1
  serve (Does h (Stops e) ∷ entries) old serves = absurd serves.1
  serve (Breaks h d call ∷ entries) old serves = (serves.0, serves.1, serve entries serves.0 serves.2)
  serve (BreaksIn e h d call ∷ entries) old serves = (serves.0, serves.1, serve entries serves.0 serves.2)
  serve (Ends h ∷ entries) old serves = absurd serves.1
  serve (Crashes d ∷ entries) old serves = (serves.0, serves.1, serve entries serves.0 serves.2)
  serve (Loses d ∷ entries) old serves = (serves.0, serves.1, serve entries serves.0 serves.2)
  serve (Replaces d first newest ∷ entries) old serves = absurd serves.1

pub devices_serve : DevicesServe
devices_serve c geometry images devices entries over =
    let own = hosts_write_their_own c entries over.hosts over.writes in
    record {
      hosts = over.hosts;
      reads = over.reads;
      blank = over.blank;
      disks =
          λ k.
          serve c k (on_disk k entries) (images k)
          (serves_on c k (geometry k) (over.is k) (devices k) (images k) (all_told c (on_disk k entries)) (over.shows k) (own_on c k entries own) (over.serves k));
      taking = over.taking;
      dark = over.dark;
    }

pub devices_have_one_log : DevicesHaveOneLog
devices_have_one_log c geometry images devices entries long over few =
    images_have_one_log_over_losses c images entries long (devices_serve c geometry images devices entries over) few

-- A NEW DEVICE

pub new_devices_show : BlankDevicesShow
new_devices_show c geometry device is kind slots blank =
    let rows : rows_by geometry.kind geometry.slots ≡ slots_of c = ap (λ (k : Kind). rows_by k geometry.slots) kind ∙ omega (arith, slots) in
    subst
    (λ (m : ℕ). ShowsDisk geometry device (fresh_disk (image_length cluster_version m)) × HoldsNothing m (fresh_disk (image_length cluster_version m)))
    rows
    (blank_devices_show geometry device is blank)
