-- Single touches, and a device of zeros.
use Rattle.std.specs.Prelude.{◌≡◌, ◌⊎◌, ◌+◌, ◌*◌, ◌≤◌, ◌<◌, ℕ, List, [], ◌∷◌, length, Some, None, Contains, replicate}
use Rattle.std.proofs.Common.{refl, sym, ◌∙◌, ap, subst, arith, inl, inr}
use Rattle.std.proofs.Math.Nat.{mul_assoc, mul-add}
use Rattle.std.proofs.lemmas.List.{ext_get_or, get_or-replicate, length-replicate}
use Rattle.disk.specs.Disk.{DiskState, Torn, written}
use Rattle.disk.specs.Simulated.{fresh_disk}
use Rattle.disk.proofs.StepLemmas.{shape_fresh}
use Rattle.torn_block.specs.Layout.{cluster_version}
use Rattle.torn_block.specs.Place as at
use Rattle.paxos_block.specs.Saying.{zeros}
use Rattle.paxos_block.specs.Places as images
use Rattle.paxos_block.specs.Places.{Spot, BeatOf, VoteOf}
use Rattle.paxos_block.proofs.PlaceLemmas as places
use Rattle.sectors.specs.declared.geometry.Geometry.{Geometry}
use Rattle.sectors.specs.Geometry.{IsGeometry, slot_rows}
use Rattle.sectors.specs.Moments.{Puts, Tries}
use Rattle.sectors.proofs.PlaceLaws.{image_spot}
use Rattle.sectors.proofs.Putting.{part_is, length-part, get_or-part}
use Rattle.sectors.proofs.RowLaws.{one_row}
use Rattle.sectors.proofs.Shapes.{one_more}
use Rattle.at_once.proofs.Headless.{zeros_hold_nothing}
use Rattle.sector_runs.specs.Device.{Device, Reads, GoesBy, sector_of}
use Rattle.sector_runs.specs.Owning.{host_of}
use Rattle.sector_runs.specs.Showing.{ShowsDisk}
use Rattle.sector_runs.specs.Steps.{SectorsFollow, MayWrite, sector_put, PutsAreWrites, TriesAreTorn, KeepsAreSyncs, RestartsLosePower, RowsAreReads, SectorsServe, BlankDevicesShow}
use Rattle.sector_runs.specs.Touches.{IsToPut}
use Rattle.sector_runs.proofs.Over.{known_first, serves_on}
use Rattle.sector_runs.proofs.Reading.{row_is}
use Rattle.sector_runs.proofs.Restarting.{disk_left, loses_power, shows_restarted}
use Rattle.sector_runs.proofs.Seeing.{Known, IsPut, known_restart, none_in}
use Rattle.sector_runs.proofs.Serving.{puts, tries, syncs}

-- NUMBERS

pub sectors_follow : SectorsFollow
sectors_follow g (BeatOf h) = refl
sectors_follow g (VoteOf slot h) =
    omega (arith, mul-add g.sector_size (g.hosts * (slot + 1)) h, mul_assoc g.sector_size g.hosts (slot + 1), one_more (g.sector_size * g.hosts) slot)

-- WRITES

-- who has just seen a sector knows what it has
known_now : (geometry : Geometry) (device : Device) (disk : DiskState) (s : ℕ) → ShowsDisk geometry device disk → Known geometry (Reads s (device.now s) ∷ []) device
known_now geometry device disk s shows =
    record {
      sized = shows.sized;
      came = λ t bytes seen. record { old = device.now; touches = []; leads = refl; had = has t bytes seen };
      fresh = λ h spot bytes is_spot own seen. has (sector_of geometry spot) bytes seen;
    }
  where
    has : (t : ℕ) (bytes : List ℕ) → ((s ≡ t) × (device.now s ≡ bytes)) ⊎ ⊥ → device.now t ≡ bytes
    has t bytes (inl is) = ap device.now (sym is.0) ∙ is.1
    has t bytes (inr none) = absurd none

module _ (geometry : Geometry) (old new : Device) (disk : DiskState) (spot : Spot) (offset : ℕ) (from : List ℕ) (is : IsGeometry geometry) (shows : ShowsDisk geometry old disk) (may : MayWrite geometry old spot offset from) where
  abbrev s : ℕ
  s = sector_of geometry spot

  abbrev to_put : IsToPut geometry (host_of spot) (Reads s (old.now s) ∷ []) (images.place_of cluster_version spot + offset) from s (sector_put geometry old spot offset from)
  to_put =
      record {
        block = record { spot = spot; offset = offset; is_spot = may.is_spot; within = record { here = refl; begins = may.begins; ends = may.ends } };
        sector = refl;
        was = old.now s;
        seen = inl (refl, refl);
        unspent = may.unspent;
        made = refl;
      }

  abbrev put_it : IsPut geometry (host_of spot) (Reads s (old.now s) ∷ []) s (sector_put geometry old spot offset from)
  put_it = record { at = images.place_of cluster_version spot + offset; from = from; put = to_put; own = refl }

  one_put : GoesBy (Some (Puts s (sector_put geometry old spot offset from))) old new → ShowsDisk geometry new (written disk (images.place_of cluster_version spot + offset) from)
  one_put goes =
      puts geometry is (host_of spot) (Reads s (old.now s) ∷ []) old new disk (known_now geometry old disk s shows) shows s (sector_put geometry old spot offset from) put_it goes

  one_try : GoesBy (Some (Tries s (sector_put geometry old spot offset from))) old new → (left : DiskState) × Torn (images.place_of cluster_version spot + offset) (length from) disk left × ShowsDisk geometry new left
  one_try goes =
      let n = tries geometry is (host_of spot) (Reads s (old.now s) ∷ []) old new disk (known_now geometry old disk s shows) shows s (sector_put geometry old spot offset from) put_it goes in
      (n.disk, n.to, n.shows)

pub puts_are_writes : PutsAreWrites
puts_are_writes geometry old new disk spot offset from is shows may goes = one_put geometry old new disk spot offset from is shows may goes

pub tries_are_torn : TriesAreTorn
tries_are_torn geometry old new disk spot offset from is shows may goes = one_try geometry old new disk spot offset from is shows may goes

-- SYNCS, RESTARTS, READS

pub keeps_are_syncs : KeepsAreSyncs
keeps_are_syncs geometry old new disk is shows goes = syncs geometry is 0 [] old new disk (known_first geometry old disk shows) shows goes

pub restarts_lose_power : RestartsLosePower
restarts_lose_power geometry old new disk is shows restarts =
    let sized = (known_restart geometry is 0 [] old (known_first geometry old disk shows) 0 [] None new restarts).sized in
    (disk_left geometry is disk old new shows restarts sized, loses_power geometry is disk old new shows restarts sized, shows_restarted geometry is disk old new shows restarts sized)

pub rows_are_reads : RowsAreReads
rows_are_reads geometry device disk row sectors bytes is shows is_row has gathers =
    one_row geometry sectors bytes _ gathers (row_is geometry is device disk shows sectors row is_row has)

pub sectors_serve : SectorsServe
sectors_serve c k geometry device disk calls is shows own serves = serves_on c k geometry is device disk calls shows own serves

-- A DEVICE OF ZEROS

zero_block : (n place : ℕ) → place + 256 ≤ n → at.block_in cluster_version place (replicate n 0) ≡ zeros 256
unfolding zeros
zero_block n place fits =
    let size = length-replicate {A = ℕ} n 0 in
    let long = length-part place 256 (replicate n 0) (omega (arith, size, fits)) in
    part_is place 256 (replicate n 0)
    ∙ ext_get_or 0 _ _ (long ∙ sym (length-replicate {A = ℕ} 256 0)) (λ k inside.
    let below : k < 256 = omega (arith, long) in
    get_or-part place 256 (replicate n 0) k below
    ∙ get_or-replicate n (place + k) 0 0 (omega (arith, below, fits))
    ∙ sym (get_or-replicate 256 k 0 0 below))

pub blank_devices_show : BlankDevicesShow
unfolding fresh_disk
blank_devices_show geometry device is blank =
    let n = images.image_length cluster_version (slot_rows geometry) in
    let none : (s : ℕ) (had : List ℕ) → Contains (device.since s) had → ⊥ = (λ s had in_it. none_in had (subst (λ (f : ℕ → List (List ℕ)). Contains (f s) had) blank.synced in_it)) in (
      record {
        shape = shape_fresh n;
        sized = (blank.sized, λ s had in_it. absurd (none s had in_it));
        blocks =
            λ spot is_spot.
            zero_block n (images.place_of cluster_version spot) (places.spot_fits cluster_version (slot_rows geometry) spot (image_spot geometry is spot is_spot))
            ∙ sym (blank.zero (sector_of geometry spot));
        others = λ spot is_spot none_there. zero_block n (images.place_of cluster_version spot) (places.spot_fits cluster_version (slot_rows geometry) spot is_spot);
        synced = λ spot o had is_spot below is_synced in_it. absurd (none (sector_of geometry spot) had in_it);
        boot = refl;
        gone = sym blank.there;
      },
      zeros_hold_nothing (slot_rows geometry),
    )
