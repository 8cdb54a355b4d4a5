-- What the tool leaves of a disk on which it put an image: all of it is synced, and each number of a host is that of the rows of standings which were written.
use Rattle.std.specs.Prelude.{◌*◌, ◌-◌, slice_range}
use Rattle.std.proofs.Common.{ℕ, zero, suc, ◌≡◌, ◌+◌, ◌≤◌, ◌<◌, false, List, [], ◌∷◌, ◌++◌, length, take, drop, replicate, refl, sym, ◌∙◌, ap, inl, inr, length-append, arith}
use Rattle.std.proofs.lemmas.List.{length-replicate, length-take-le}
use Rattle.disk.specs.Disk.{DiskState, Step, put_at}
use Rattle.disk.specs.Crash.{ChangesOnly}
use Rattle.disk.proofs.CrashLemmas.{length-put, put-below, put-above}
use Rattle.torn_block.specs.Layout.{cluster_version}
use Rattle.torn_block.specs.Damage.{block_of}
use Rattle.torn_block.specs.Place.{block_in}
use Rattle.torn_block.proofs.PlaceLaws.{block_elsewhere, block_read}
use Rattle.heartbeat.specs.Beat.{counter_of}
use Rattle.standings.specs.Epochs.{number_of, number_place, standings_place, whole_length}
use Rattle.standings.specs.Reading.{numbers_in}
use Rattle.endless_image.specs.Headers.{header_saying}
use Rattle.endless_image.specs.Sizes.{area_size, size_of}
use Rattle.endless_image.proofs.HeaderLaws.{length-header}
use Rattle.folders.specs.Layout.{WritesZeros, none, more}
use Rattle.in_place.specs.Replacing.{IsPut}
use Rattle.in_place.specs.declared.replace_image.NewImage.{NewImage}
use Rattle.replacing.specs.Laws.{row_in}

-- WHAT IS PUT INTO A LIST

front : {A : Type 0} (items rest : List A) → take (length items) (items ++ rest) ≡ items
front [] rest = refl
front (x ∷ items) rest = ap (λ l. x ∷ l) (front items rest)

middle : {A : Type 0} (old items rest : List A) (at : ℕ) → at ≤ length old → take (length items) (drop at (take at old ++ items ++ rest)) ≡ items
middle old items rest zero fits = front items rest
middle [] items rest (suc at) fits = absurd (omega (arith, fits))
middle (x ∷ old) items rest (suc at) fits = middle old items rest at (omega (arith, fits))

-- what was put there is read there
read_back : (old : List ℕ) (at n : ℕ) (items : List ℕ) → at + n ≤ length old → length items ≡ n → slice_range (put_at old at items) at (at + n) ≡ items
read_back old at n items fits is =
    let width : at + n - at ≡ length items = omega (arith, is) in
    ap (λ (k : ℕ). take k (drop at (put_at old at items))) width ∙ middle old items (drop (at + length items) old) at (omega (arith, fits))

changed : (old : List ℕ) (at : ℕ) (items : List ℕ) → at + length items ≤ length old → ChangesOnly at (length items) old (put_at old at items)
changed old at items within = record { as_many = length-put old at items within 0; below = put-below old at items within 0; above = put-above old at items within 0 }

-- the block of a host in a row that was put there
block_back : (old : List ℕ) (at host : ℕ) (row : List ℕ) → host < 16 → at + 4096 ≤ length old → length row ≡ 4096 → block_in cluster_version (at + 256 * host) (put_at old at row) ≡ block_of cluster_version host row
block_back old at host row is_host fits is =
    let many = length-put old at row (omega (arith, fits, is)) 0 in
    sym (block_read cluster_version at (256 * host) 4096 (put_at old at row) (omega (arith, is_host)) (omega (arith, many, fits)))
    ∙ ap (block_of cluster_version host) (read_back old at 4096 row fits is)

-- ZEROS

-- after zeros are written from the first position on, the disk is as long as that at least
zeros_reach : (boot from to : ℕ) (old new : DiskState) → WritesZeros Step boot from to old new → from ≡ 0 → to ≤ length new.bytes
zeros_reach boot from to old new (none at disk) start = omega (arith, start)
zeros_reach boot from to old new (more first n end before between after writes len gave is) start =
    let so = zeros_reach boot first n before between writes start in
    let same : after.bytes ≡ put_at between.bytes n (replicate len 0) = ap (λ (d : DiskState). d.bytes) gave.2.1 in
    let size = ap (λ (l : List ℕ). length l) same in
    let all = length-append (take n between.bytes ++ replicate len 0) (drop (n + length {A = ℕ} (replicate len 0)) between.bytes) in
    let first_two = length-append (take n between.bytes) (replicate len 0) in
    let taken = length-take-le n between.bytes so in
    let zeros_long = length-replicate {A = ℕ} len 0 in
    omega (arith, is, size, all, first_two, taken, zeros_long)

-- THE IMAGE

pub record IsPutOn (image : NewImage) (new : DiskState) : Type 0 where
  pub gone : new.gone ≡ false
  pub synced : new.unsynced ≡ replicate (length new.bytes) false
  pub room : size_of image.header.slots ≤ length new.bytes
  pub header : take 1024 new.bytes ≡ header_saying image.header
  pub numbers : (area host : ℕ) → area < 2 → host < 16 → number_of (area_size image.header.slots) area host new.bytes ≡ numbers_in (row_in image.rows area) host

module _ (image : NewImage) (blank new : DiskState) (put : IsPut Step image blank new) (first_long : length image.rows.first ≡ 4096) (second_long : length image.rows.second ≡ 4096) where
  abbrev n : ℕ
  n = area_size image.header.slots

  abbrev header : List ℕ
  header = header_saying image.header

  abbrev zeroed : List ℕ
  zeroed = put.zeroed.bytes

  abbrev with_first : List ℕ
  with_first = put_at zeroed (standings_place n 0) image.rows.first

  abbrev with_both : List ℕ
  with_both = put_at with_first (standings_place n 1) image.rows.second

  large : 4096 ≤ n
  large = omega arith

  reach : whole_length n ≤ length zeroed
  reach = zeros_reach put.boot 0 (size_of image.header.slots) put.attached put.zeroed put.clears refl

  fits_first : standings_place n 0 + 4096 ≤ length zeroed
  fits_first = (let long = reach in omega (arith, long))

  long_first : length with_first ≡ length zeroed
  long_first = length-put zeroed (standings_place n 0) image.rows.first (let fits = fits_first in omega (arith, fits, first_long)) 0

  fits_second : standings_place n 1 + 4096 ≤ length with_first
  fits_second = (let long = reach in let same = long_first in let big = large in omega (arith, long, same, big))

  long_both : length with_both ≡ length zeroed
  long_both = length-put with_first (standings_place n 1) image.rows.second (let fits = fits_second in omega (arith, fits, second_long)) 0 ∙ long_first

  long_header : length header ≡ 1024
  long_header = length-header 4 0 image.header

  fits_header : 0 + length header ≤ length with_both
  fits_header = (let long = reach in let same = long_both in let size = long_header in omega (arith, long, same, size))

  bytes_are : new.bytes ≡ put_at with_both 0 header
  bytes_are =
      ap (λ (d : DiskState). d.bytes) put.syncs_header.2.1
      ∙ ap (λ (d : DiskState). d.bytes) put.writes_header.2.1
      ∙ ap (λ (d : DiskState). put_at d.bytes 0 header) put.syncs.2.1
      ∙ ap (λ (d : DiskState). put_at d.bytes 0 header) put.stands.second.2.1
      ∙ ap (λ (d : DiskState). put_at (put_at d.bytes (standings_place n 1) image.rows.second) 0 header) put.stands.first.2.1

  long_new : length new.bytes ≡ length zeroed
  long_new = ap (λ (l : List ℕ). length l) bytes_are ∙ length-put with_both 0 header fits_header 0 ∙ long_both

  -- the header is before all of them
  behind_header : (area host : ℕ) → area < 2 → host < 16 → block_in cluster_version (number_place n area host) new.bytes ≡ block_in cluster_version (number_place n area host) with_both
  behind_header area host is_area is_host =
      let size = long_header in
      let long = long_both in
      let all = reach in
      let big = large in
      ap (block_in cluster_version (number_place n area host)) bytes_are
      ∙ block_elsewhere cluster_version (number_place n area host) 0 (length header) with_both (put_at with_both 0 header) (omega (arith, long, all, big, is_area, is_host)) (changed with_both 0 header fits_header) (inl (omega (arith, size, big)))

  block_there : (area host : ℕ) → area < 2 → host < 16 → block_in cluster_version (number_place n area host) with_both ≡ block_of cluster_version host (row_in image.rows area)
  block_there zero host is_area is_host =
      let all = reach in
      let same = long_first in
      let fits = fits_second in
      block_elsewhere cluster_version (number_place n 0 host) (standings_place n 1) (length image.rows.second) with_first with_both (omega (arith, all, same, is_host))
      (changed with_first (standings_place n 1) image.rows.second (omega (arith, fits, second_long))) (inr (omega (arith, is_host)))
      ∙ block_back zeroed (standings_place n 0) host image.rows.first is_host fits_first first_long
  block_there (suc zero) host is_area is_host = block_back with_first (standings_place n 1) host image.rows.second is_host fits_second second_long
  block_there (suc (suc area)) host is_area is_host = absurd (omega (arith, is_area))

  pub put_on : IsPutOn image new
  put_on =
      let same : new.bytes ≡ put.written.bytes = ap (λ (d : DiskState). d.bytes) put.syncs_header.2.1 in
      record {
        gone = ap (λ (d : DiskState). d.gone) put.syncs_header.2.1 ∙ put.syncs_header.0;
        synced = ap (λ (d : DiskState). d.unsynced) put.syncs_header.2.1 ∙ ap (λ (l : List ℕ). replicate (length l) false) (sym same);
        room = (let long = reach in let size = long_new in omega (arith, long, size));
        header = ap (λ (k : ℕ). take k new.bytes) (sym long_header) ∙ ap (λ (l : List ℕ). take (length header) l) bytes_are ∙ front header (drop (0 + length header) with_both);
        numbers = λ area host is_area is_host. ap counter_of (behind_header area host is_area is_host ∙ block_there area host is_area is_host);
      }
