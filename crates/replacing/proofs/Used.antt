-- What hosts use of an image: how long it is, what is read there, and that of a new one it is a new disk.
use Rattle.std.specs.Prelude.{take, drop, replicate, slice_range}
use Rattle.std.proofs.Common.{ℕ, ◌≡◌, ◌+◌, ◌<◌, false, length, refl, sym, ◌∙◌, ap, length-append, length-drop, arith}
use Rattle.std.proofs.lemmas.List.{length-replicate, length-take-le}
use Rattle.disk.specs.Disk.{DiskState, Read, Sync, Answer, Told, Done, Step, synced}
use Rattle.torn_block.specs.Layout.{cluster_version, block_length}
use Rattle.torn_block.specs.declared.layout.TheConstants.{HEADER_LENGTH, HOSTS}
use Rattle.heartbeat.specs.Beat.{counter_of}
use Rattle.paxos_block.specs.Places.{image_length}
use Rattle.paxos_block.specs.Shape.{Shape}
use Rattle.standings.specs.Epochs.{epoch_by, number_place, number_of, whole_length}
use Rattle.at_once.specs.Images.{headed, used}
use Rattle.at_once.proofs.Headless.{IsThere, used_steps}
use Rattle.epoch_deeds.specs.Knowing.{image_of}
use Rattle.epoch_runs.specs.World.{IsNewDisk, ShowsNoneAbove}
use Rattle.epochs_at_once.specs.Images.{slots_of}

module _ (c : Shape) where
  -- both areas and the rows between them are as long as such an image of one log
  pub as_long : whole_length (image_of c) ≡ image_length cluster_version (slots_of c)
  as_long = omega arith

  module _ (image : DiskState) (has : IsThere (slots_of c) image) where
    abbrev used_it : DiskState
    used_it = used (slots_of c) image

    pub used_long : length used_it.bytes ≡ whole_length (image_of c)
    unfolding headed
    used_long =
        let n = image_length cluster_version (slots_of c) in
        let zeros_long = length-replicate {A = ℕ} HEADER_LENGTH 0 in
        let taken = length-take-le n image.bytes has.0 in
        let dropped = length-drop HEADER_LENGTH (take n image.bytes) in
        let both = length-append (replicate HEADER_LENGTH 0) (drop HEADER_LENGTH (take n image.bytes)) in
        let size = as_long in
        omega (arith, zeros_long, taken, dropped, both, size)

    -- A NEW IMAGE

    module _ (gone : image.gone ≡ false) (all_synced : image.unsynced ≡ replicate (length image.bytes) false) where
      -- a sync changes nothing
      used_synced : used_it ≡ synced used_it
      used_synced =
          let same : synced image ≡ image = (λ i. record { bytes = image.bytes; unsynced = sym all_synced i; boot = image.boot; gone = image.gone }) in
          let step : Step image (Sync image.boot) Done image = (gone, refl, (refl, sym same)) in
          (used_steps (slots_of c) image image (Sync image.boot) Done has tt step).2.1

      -- and numbers are read as they are
      used_numbers : (area host : ℕ) → area < 2 → host < HOSTS → number_of (image_of c) area host used_it.bytes ≡ number_of (image_of c) area host image.bytes
      used_numbers area host is_area is_host =
          let place = number_place (image_of c) area host in
          let len = block_length cluster_version in
          let told : Answer = Told (slice_range image.bytes place (place + len)) in
          let step : Step image (Read image.boot place len) told image = (gone, refl, (refl, refl)) in
          let by = used_steps (slots_of c) image image (Read image.boot place len) told has (omega arith, (let size = as_long in omega (arith, size, is_area, is_host))) step in
          let told_same : told ≡ Told (slice_range used_it.bytes place (place + len)) = by.2.0 in
          let same : slice_range image.bytes place (place + len) ≡ slice_range used_it.bytes place (place + len) = cc in
          ap counter_of (sym same)

      pub used_is_new : (newest : ℕ) (old : DiskState) → old.gone ≡ false → image.boot ≡ old.boot → ShowsNoneAbove newest (image_of c) image → IsNewDisk (image_of c) newest old used_it
      used_is_new newest old there boot none =
          record {
            there = there;
            gone = gone;
            boot = boot;
            room = (let long = used_long in omega (arith, long));
            synced = ap (λ (d : DiskState). d.unsynced) used_synced;
            none = λ area host order is_area is_host belongs. none area host order is_area is_host (ap (epoch_by area) (sym (used_numbers area host is_area is_host)) ∙ belongs);
          }
