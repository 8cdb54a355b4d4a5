-- A row out of its sectors, and what a write of one sector changes of it.
use Rattle.std.specs.Prelude.{◌≡◌, ◌≢◌, ◌+◌, ◌-◌, ◌*◌, ◌/◌, ◌%◌, ◌≤◌, ◌<◌, ℕ, List, length, take, drop}
use Rattle.std.proofs.Common.{sym, ◌∙◌, ap, subst, arith, inl, inr, get_or}
use Rattle.std.proofs.lemmas.List.{ext_get_or, get_or-replicate, length-replicate, take-take, drop-take, drop-drop}
use Rattle.std.proofs.lemmas.Bool.{cases_lt, cases_eq, cases_order}
use Rattle.disk.specs.Disk.{put_at}
use Rattle.disk.proofs.CrashLemmas.{put-inside}
use Rattle.torn_block.specs.Layout.{cluster_version}
use Rattle.torn_block.specs.Damage as row
use Rattle.torn_block.specs.Place as at
use Rattle.paxos_block.specs.Saying.{zeros}
use Rattle.paxos_block.specs.Places as images
use Rattle.paxos_block.specs.Places.{Spot, BeatOf, VoteOf}
use Rattle.paxos_block.proofs.PlaceLemmas as places
use Rattle.sectors.specs.declared.geometry.Geometry.{Geometry}
use Rattle.sectors.specs.Geometry.{IsGeometry, row_size, slot_rows, device_size}
use Rattle.sectors.specs.Places.{place_of, row_place, IsSpot, sector_at, row_in, Shows}
use Rattle.sectors.specs.Row.{IsRowOf, sector_in}
use Rattle.sectors.specs.Sector.{block_of, sector_with}
use Rattle.sectors.proofs.Shapes.{they_follow, long_sector}
use Rattle.sectors.proofs.PlaceLaws.{spots_apart, spot_behind, spot_fits, image_spot, same_or_not}
use Rattle.sectors.proofs.Putting.{part, part_is, length-part, get_or-part, front_of, length_kept, part_elsewhere, part_there, part_around}
use Rattle.sectors.proofs.SectorLaws.{block_with, length_with}

-- ---- blocks of a row

block_is : (host : ℕ) (bytes : List ℕ) → row.block_of cluster_version host bytes ≡ part (256 * host) 256 bytes
block_is host bytes = part_is (256 * host) 256 bytes

-- rows of the same blocks are the same
same_rows : (a b : List ℕ) → length a ≡ 4096 → length b ≡ 4096 → ((host : ℕ) → host < 16 → row.block_of cluster_version host a ≡ row.block_of cluster_version host b) → a ≡ b
same_rows a b long_a long_b same =
    ext_get_or 0 a b (long_a ∙ sym long_b) (λ i inside.
    let host = i / 256 in
    let k = i % 256 in
    let e : i ≡ 256 * host + k = omega arith in
    let below : k < 256 = omega arith in
    let few : host < 16 = omega (arith, long_a) in
    ap (λ (j : ℕ). get_or a j 0) e
    ∙ sym (get_or-part (256 * host) 256 a k below)
    ∙ ap (λ (l : List ℕ). get_or l k 0) (sym (block_is host a) ∙ same host few ∙ block_is host b)
    ∙ get_or-part (256 * host) 256 b k below
    ∙ sym (ap (λ (j : ℕ). get_or b j 0) e))

pub one_row : (geometry : Geometry) (sectors a b : List ℕ) → IsRowOf geometry sectors a → IsRowOf geometry sectors b → a ≡ b
one_row geometry sectors a b is_a is_b =
    same_rows a b is_a.as_long is_b.as_long (λ host few.
    elim (cases_lt host geometry.hosts) [
      | inl below ↦ is_a.blocks host below ∙ sym (is_b.blocks host below)
      | inr above ↦ is_a.others host above few ∙ sym (is_b.others host above few)
    ])

-- a block that is put into a row is there, and the others stay
put_here : (bytes block : List ℕ) (host : ℕ) → length bytes ≡ 4096 → length block ≡ 256 → host < 16 → row.block_of cluster_version host (put_at bytes (256 * host) block) ≡ block
put_here bytes block host long size few =
    block_is host (put_at bytes (256 * host) block) ∙ part_there bytes block (256 * host) (omega (arith, long, size)) 256 size

put_there : (bytes block : List ℕ) (host k : ℕ) → length bytes ≡ 4096 → length block ≡ 256 → host < 16 → k < host
    → row.block_of cluster_version k (put_at bytes (256 * host) block) ≡ row.block_of cluster_version k bytes
put_there bytes block host k long size few below =
    block_is k (put_at bytes (256 * host) block)
    ∙ part_elsewhere bytes block (256 * host) (omega (arith, long, size)) (256 * k) 256 (omega (arith, long)) (inr (omega arith))
    ∙ sym (block_is k bytes)

-- so a loop that puts one block after another leaves those before
pub put_next : (geometry : Geometry) (sectors bytes block : List ℕ) (host : ℕ) → length bytes ≡ 4096 → length block ≡ 256 → host < 16 → block ≡ block_of (sector_in geometry host sectors) → ((k : ℕ) → k < host → row.block_of cluster_version k bytes ≡ block_of (sector_in geometry k sectors)) →
    (k : ℕ) → k < host + 1 → row.block_of cluster_version k (put_at bytes (256 * host) block) ≡ block_of (sector_in geometry k sectors)
put_next geometry sectors bytes block host long size few is before k below =
    elim (cases_lt k host) [
      | inl less ↦ put_there bytes block host k long size few less ∙ before k less
      | inr from_there ↦
          (let same : host ≡ k = omega (arith, below, from_there) in
          subst (λ (n : ℕ). row.block_of cluster_version n (put_at bytes (256 * host) block) ≡ block_of (sector_in geometry n sectors)) same (put_here bytes block host long size few ∙ is))
    ]

length-zeros : (n : ℕ) → length (zeros n) ≡ n
unfolding zeros
length-zeros n = length-replicate n 0

get_or-zeros : (n k : ℕ) → k < n → get_or (zeros n) k 0 ≡ 0
unfolding zeros
get_or-zeros n k below = get_or-replicate n k 0 0 below

-- with zeros from the last host's block on, the row is whole
module _ (geometry : Geometry) (is : IsGeometry geometry) (sectors bytes : List ℕ) (long : length bytes ≡ 4096) where
  abbrev rest : List ℕ
  rest = zeros (4096 - 256 * geometry.hosts)

  abbrev filled : List ℕ
  filled = put_at bytes (256 * geometry.hosts) rest

  fits : 256 * geometry.hosts + length rest ≤ length bytes
  fits = omega (arith, long, is.hosts.1, length-zeros (4096 - 256 * geometry.hosts))

  zeros_there : (host : ℕ) → geometry.hosts ≤ host → host < 16 → row.block_of cluster_version host filled ≡ zeros 256
  zeros_there host above few =
      let new = filled in
      let size = length-part (256 * host) 256 new (omega (arith, length_kept bytes rest (256 * geometry.hosts) fits, long)) in
      block_is host new
      ∙ ext_get_or 0 _ _ (size ∙ sym (length-zeros 256)) (λ k inside.
      let below : k < 256 = omega (arith, size) in
      let j = 256 * host + k - 256 * geometry.hosts in
      let e : 256 * host + k ≡ 256 * geometry.hosts + j = omega arith in
      get_or-part (256 * host) 256 new k below
      ∙ ap (λ (i : ℕ). get_or new i 0) e
      ∙ put-inside bytes (256 * geometry.hosts) rest fits 0 j (omega (arith, length-zeros (4096 - 256 * geometry.hosts), is.hosts.1))
      ∙ get_or-zeros (4096 - 256 * geometry.hosts) j (omega (arith, is.hosts.1))
      ∙ sym (get_or-zeros 256 k below))

  pub gathered : ((host : ℕ) → host < geometry.hosts → row.block_of cluster_version host bytes ≡ block_of (sector_in geometry host sectors)) → IsRowOf geometry sectors filled
  gathered blocks =
      record {
        as_long = length_kept bytes rest (256 * geometry.hosts) fits ∙ long;
        blocks =
            λ host below.
            block_is host filled
            ∙ part_elsewhere bytes rest (256 * geometry.hosts) fits (256 * host) 256 (omega (arith, long, is.hosts.1)) (inr (omega arith))
            ∙ sym (block_is host bytes)
            ∙ blocks host below;
        others = zeros_there;
      }

-- ---- sectors of a row

module _ (geometry : Geometry) (is : IsGeometry geometry) where
  sector_is : (host : ℕ) (sectors : List ℕ) → sector_in geometry host sectors ≡ part (geometry.sector_size * host) geometry.sector_size sectors
  sector_is host sectors = part_is (geometry.sector_size * host) geometry.sector_size sectors

  -- what is read from a sector's start is read from the sector
  pub reads_front : (host n : ℕ) (sectors : List ℕ) → n ≤ 512 → take ((geometry.sector_size * host + n) - geometry.sector_size * host) (drop (geometry.sector_size * host) sectors) ≡ take n (sector_in geometry host sectors)
  reads_front host n sectors short =
      part_is (geometry.sector_size * host) n sectors
      ∙ sym (front_of (geometry.sector_size * host) geometry.sector_size n sectors (omega (arith, short, long_sector geometry.sector_size is.sector_size)))
      ∙ sym (ap (take n) (sector_is host sectors))

  -- a block of a row that is read is that at its place
  block_read : (place host : ℕ) (device : List ℕ) → host < geometry.hosts → block_of (sector_in geometry host (row_in geometry place device)) ≡ at.block_in cluster_version (place + geometry.sector_size * host) device
  block_read place host device below =
      let long = long_sector geometry.sector_size is.sector_size in
      let q = geometry.sector_size * host in
      let rows = row_size geometry in
      let holds = they_follow geometry.sector_size host geometry.hosts below in
      let rest : q + (rows - q) ≡ rows = omega (arith, holds) in
      sym (reads_front host 256 (row_in geometry place device) (omega arith))
      ∙ part_is q 256 (row_in geometry place device)
      ∙ ap (part q 256) (part_is place rows device)
      ∙ ap (λ (k : ℕ). take 256 (drop q (take k (drop place device)))) (sym rest)
      ∙ ap (take 256) (drop-take q (rows - q) (drop place device))
      ∙ take-take 256 (rows - q) (drop q (drop place device)) (omega (arith, holds, long))
      ∙ ap (take 256) (drop-drop q place device)
      ∙ sym (part_is (place + q) 256 device)

  pub vote_read : (device bytes : List ℕ) (slot host : ℕ) → host < geometry.hosts → IsRowOf geometry (row_in geometry (row_place geometry slot) device) bytes → row.block_of cluster_version host bytes ≡ at.block_in cluster_version (place_of geometry (VoteOf slot host)) device
  vote_read device bytes slot host below gathers = gathers.blocks host below ∙ block_read (row_place geometry slot) host device below

  pub beat_read : (device bytes : List ℕ) (host : ℕ) → host < geometry.hosts → IsRowOf geometry (row_in geometry 4096 device) bytes → row.block_of cluster_version host bytes ≡ at.block_in cluster_version (place_of geometry (BeatOf host)) device
  beat_read device bytes host below gathers = gathers.blocks host below ∙ block_read 4096 host device below

  -- ---- a write of one of them

  module _ (sectors old from : List ℕ) (host offset : ℕ) (long : length sectors ≡ row_size geometry) (below : host < geometry.hosts) (within : offset + length from ≤ 256) (gathers : IsRowOf geometry sectors old) where
    abbrev written : List ℕ
    written = sector_with offset from (sector_in geometry host sectors)

    abbrev new_sectors : List ℕ
    new_sectors = put_at sectors (geometry.sector_size * host) written

    abbrev new_row : List ℕ
    new_row = put_at old (256 * host + offset) from

    holds : geometry.sector_size * host + geometry.sector_size ≤ length sectors
    holds = omega (arith, they_follow geometry.sector_size host geometry.hosts below, long)

    size_before : length (sector_in geometry host sectors) ≡ geometry.sector_size
    size_before =
        ap (λ (l : List ℕ). length l) (sector_is host sectors) ∙ length-part (geometry.sector_size * host) geometry.sector_size sectors holds

    at_least : 512 ≤ geometry.sector_size
    at_least = long_sector geometry.sector_size is.sector_size

    size_after : length written ≡ geometry.sector_size
    size_after =
        length_with (sector_in geometry host sectors) from offset within (omega (arith, size_before, at_least)) (omega (arith, size_before, at_least)) ∙ size_before

    room : geometry.sector_size * host + length written ≤ length sectors
    room = omega (arith, holds, size_after)

    sector_here : sector_in geometry host new_sectors ≡ written
    sector_here =
        sector_is host new_sectors
        ∙ part_there sectors written (geometry.sector_size * host) room geometry.sector_size size_after

    sector_there : (k : ℕ) → k < geometry.hosts → k ≢ host → sector_in geometry k new_sectors ≡ sector_in geometry k sectors
    sector_there k few differ =
        sector_is k new_sectors
        ∙ part_elsewhere sectors written (geometry.sector_size * host) room (geometry.sector_size * k) geometry.sector_size
        (omega (arith, they_follow geometry.sector_size k geometry.hosts few, long))
        (elim (cases_order k host) [
          | inl same ↦ absurd (differ same)
          | inr (inl before) ↦ inr (they_follow geometry.sector_size k host before)
          | inr (inr behind) ↦ inl (omega (arith, size_after, they_follow geometry.sector_size host k behind))
        ])
        ∙ sym (sector_is k sectors)

    row_room : 256 * host + offset + length from ≤ length old
    row_room = omega (arith, gathers.as_long, is.hosts.1, below, within)

    block_here : row.block_of cluster_version host new_row ≡ put_at (row.block_of cluster_version host old) offset from
    block_here =
        block_is host new_row
        ∙ part_around old from (256 * host) 256 offset (omega (arith, gathers.as_long, is.hosts.1, below)) within
        ∙ ap (λ (l : List ℕ). put_at l offset from) (sym (block_is host old))

    block_there : (k : ℕ) → k < 16 → k ≢ host → row.block_of cluster_version k new_row ≡ row.block_of cluster_version k old
    block_there k few differ =
        block_is k new_row
        ∙ part_elsewhere old from (256 * host + offset) row_room (256 * k) 256 (omega (arith, gathers.as_long))
        (elim (cases_order k host) [
          | inl same ↦ absurd (differ same)
          | inr (inl before) ↦ inr (omega arith)
          | inr (inr behind) ↦ inl (omega (arith, within))
        ])
        ∙ sym (block_is k old)

    still_gathers : IsRowOf geometry new_sectors new_row
    still_gathers =
        record {
          as_long = length_kept old from (256 * host + offset) row_room ∙ gathers.as_long;
          blocks =
              λ k few.
              elim (cases_eq k host) [
                | inl same ↦
                    subst (λ (n : ℕ). row.block_of cluster_version n new_row ≡ block_of (sector_in geometry n new_sectors)) (sym same)
                    (block_here
                    ∙ ap (λ (l : List ℕ). put_at l offset from) (gathers.blocks host below)
                    ∙ sym (block_with (sector_in geometry host sectors) from offset within (omega (arith, size_before, at_least)))
                    ∙ ap block_of (sym sector_here))
                | inr differ ↦ block_there k (omega (arith, is.hosts.1, few)) differ ∙ gathers.blocks k few ∙ ap block_of (sym (sector_there k few differ))
              ];
          others = λ k above few. block_there k few (λ e. absurd (omega (arith, e, above, below))) ∙ gathers.others k above few;
        }

    pub row_written : (new : List ℕ) → IsRowOf geometry new_sectors new → new ≡ new_row
    row_written new gathers_new =
        one_row geometry new_sectors new new_row gathers_new still_gathers

  pub block_back : (sectors old new block : List ℕ) (host : ℕ) → length sectors ≡ row_size geometry → host < geometry.hosts → length block ≡ 256 → IsRowOf geometry sectors old →
      IsRowOf geometry (put_at sectors (geometry.sector_size * host) (sector_with 0 block (sector_in geometry host sectors))) new → row.block_of cluster_version host new ≡ block
  block_back sectors old new block host long below size gathers gathers_new =
      let e : 256 * host + 0 ≡ 256 * host = omega arith in
      ap (row.block_of cluster_version host) (row_written sectors old block host 0 long below (omega (arith, size)) gathers new gathers_new ∙ ap (λ (n : ℕ). put_at old n block) e)
      ∙ put_here old block host gathers.as_long size (omega (arith, is.hosts.1, below))

  -- ---- the same of a whole device

  module _ (device image from : List ℕ) (spot : Spot) (offset : ℕ) (is_spot : IsSpot geometry spot) (long : device_size geometry ≤ length device) (as_long : length image ≡ images.image_length cluster_version (slot_rows geometry)) (within : offset + length from ≤ 256) (shows : Shows geometry device image) where
    abbrev new_sector : List ℕ
    new_sector = sector_with offset from (sector_at geometry (place_of geometry spot) device)

    abbrev new_device : List ℕ
    new_device = put_at device (place_of geometry spot) new_sector

    abbrev new_image : List ℕ
    new_image = put_at image (images.place_of cluster_version spot + offset) from

    there : place_of geometry spot + geometry.sector_size ≤ length device
    there = omega (arith, spot_fits geometry spot is_spot, long)

    at_least' : 512 ≤ geometry.sector_size
    at_least' = long_sector geometry.sector_size is.sector_size

    sector_before : length (sector_at geometry (place_of geometry spot) device) ≡ geometry.sector_size
    sector_before =
        ap (λ (l : List ℕ). length l) (part_is (place_of geometry spot) geometry.sector_size device) ∙ length-part (place_of geometry spot) geometry.sector_size device there

    sector_after : length new_sector ≡ geometry.sector_size
    sector_after =
        length_with (sector_at geometry (place_of geometry spot) device) from offset within (omega (arith, sector_before, at_least')) (omega (arith, sector_before, at_least')) ∙ sector_before

    room' : place_of geometry spot + length new_sector ≤ length device
    room' = omega (arith, there, sector_after)

    in_image : images.place_of cluster_version spot + 256 ≤ length image
    in_image =
        omega (arith, as_long, places.spot_fits cluster_version (slot_rows geometry) spot (image_spot geometry is spot is_spot))

    -- the block that is written
    mine : at.block_in cluster_version (place_of geometry spot) new_device ≡ at.block_in cluster_version (images.place_of cluster_version spot) new_image
    mine =
        let p = place_of geometry spot in
        let q = images.place_of cluster_version spot in
        let old = sector_at geometry p device in
        let new = sector_with offset from old in
        part_is p 256 (put_at device p new)
        ∙ sym (front_of p geometry.sector_size 256 (put_at device p new) (omega (arith, at_least')))
        ∙ ap (take 256) (part_there device new p room' geometry.sector_size sector_after)
        ∙ block_with old from offset within (omega (arith, sector_before, at_least'))
        ∙ ap (λ (l : List ℕ). put_at (take 256 l) offset from) (part_is p geometry.sector_size device)
        ∙ ap (λ (l : List ℕ). put_at l offset from) (front_of p geometry.sector_size 256 device (omega (arith, at_least')) ∙ sym (part_is p 256 device) ∙ shows.blocks spot is_spot ∙ part_is q 256 image)
        ∙ sym (part_around image from q 256 offset in_image within)
        ∙ sym (part_is q 256 (put_at image (q + offset) from))

    -- a block of the image elsewhere
    image_kept : (other : Spot) → images.IsSpot cluster_version (slot_rows geometry) other → spot ≢ other → at.block_in cluster_version (images.place_of cluster_version other) new_image ≡ at.block_in cluster_version (images.place_of cluster_version other) image
    image_kept other is_other differ =
        let q = images.place_of cluster_version spot in
        part_is (images.place_of cluster_version other) 256 new_image
        ∙ part_elsewhere image from (q + offset) (omega (arith, in_image, within)) (images.place_of cluster_version other) 256 (omega (arith, as_long, places.spot_fits cluster_version (slot_rows geometry) other is_other))
        (elim (places.spots_apart cluster_version (slot_rows geometry) spot other (image_spot geometry is spot is_spot) is_other differ) [
          | inl before ↦ inl (omega (arith, before, within))
          | inr behind ↦ inr (omega (arith, behind))
        ])
        ∙ sym (part_is (images.place_of cluster_version other) 256 image)

    -- every other
    others : (other : Spot) → IsSpot geometry other → spot ≢ other → at.block_in cluster_version (place_of geometry other) new_device ≡ at.block_in cluster_version (images.place_of cluster_version other) new_image
    others other is_other differ =
        let p = place_of geometry spot in
        let new = sector_with offset from (sector_at geometry p device) in
        let fits_there : place_of geometry other + 256 ≤ length device = omega (arith, spot_fits geometry other is_other, long, at_least') in
        part_is (place_of geometry other) 256 (put_at device p new)
        ∙ part_elsewhere device new p room' (place_of geometry other) 256 fits_there
        (elim (spots_apart geometry spot other is_spot is_other differ) [
          | inl before ↦ inl (omega (arith, before, sector_after))
          | inr behind ↦ inr (omega (arith, behind, at_least'))
        ])
        ∙ sym (part_is (place_of geometry other) 256 device)
        ∙ shows.blocks other is_other
        ∙ sym (image_kept other (image_spot geometry is other is_other) differ)

    blocks_written : (other : Spot) → IsSpot geometry other → at.block_in cluster_version (place_of geometry other) new_device ≡ at.block_in cluster_version (images.place_of cluster_version other) new_image
    blocks_written other is_other =
        elim (same_or_not spot other) [
          | inl same ↦
              subst (λ (s : Spot). at.block_in cluster_version (place_of geometry s) new_device ≡ at.block_in cluster_version (images.place_of cluster_version s) new_image) same mine
          | inr differ ↦ others other is_other differ
        ]

    pub image_written : Shows geometry new_device new_image
    image_written =
        record {
          blocks = blocks_written;
          others =
              λ other is_other none.
              image_kept other is_other (λ same. none (subst (IsSpot geometry) same is_spot)) ∙ shows.others other is_other none;
        }

  -- ---- what a read of a row gives

  module _ (device image bytes : List ℕ) (as_long : length image ≡ images.image_length cluster_version (slot_rows geometry)) (shows : Shows geometry device image) where
    pub vote_row : (slot : ℕ) → slot < slot_rows geometry → IsRowOf geometry (row_in geometry (row_place geometry slot) device) bytes → bytes ≡ images.row_of cluster_version slot image
    vote_row slot among gathers =
        let start = images.row_place cluster_version slot in
        let long : length (images.row_of cluster_version slot image) ≡ 4096 = ap (λ (l : List ℕ). length l) (part_is start 4096 image) ∙ length-part start 4096 image (omega (arith, as_long, among)) in
        same_rows bytes (images.row_of cluster_version slot image) gathers.as_long long (λ host few.
        elim (cases_lt host geometry.hosts) [
          | inl below ↦ vote_read device bytes slot host below gathers ∙ shows.blocks (VoteOf slot host) (among, below)
          | inr above ↦
              gathers.others host above few ∙ sym (shows.others (VoteOf slot host) (among, few) (λ spot. absurd (omega (arith, above, spot.1))))
        ]
        ∙ sym (places.block_of-row_of cluster_version slot host image few))

    pub beat_row : IsRowOf geometry (row_in geometry 4096 device) bytes → bytes ≡ images.area_of cluster_version image
    beat_row gathers =
        let long : length (images.area_of cluster_version image) ≡ 4096 = ap (λ (l : List ℕ). length l) (part_is 4096 4096 image) ∙ length-part 4096 4096 image (omega (arith, as_long)) in
        same_rows bytes (images.area_of cluster_version image) gathers.as_long long (λ host few.
        elim (cases_lt host geometry.hosts) [
          | inl below ↦ beat_read device bytes host below gathers ∙ shows.blocks (BeatOf host) below
          | inr above ↦ gathers.others host above few ∙ sym (shows.others (BeatOf host) few (λ spot. absurd (omega (arith, above, spot))))
        ]
        ∙ sym (places.block_of-area_of cluster_version host image few))

-- ---- a device that was just formatted

zero_block : (place : ℕ) (bytes : List ℕ) → place + 256 ≤ length bytes → 4096 ≤ place → ((k : ℕ) → 4096 ≤ k → get_or bytes k 0 ≡ 0) → at.block_in cluster_version place bytes ≡ zeros 256
zero_block place bytes fits behind none =
    let long = length-part place 256 bytes fits in
    part_is place 256 bytes
    ∙ ext_get_or 0 _ _ (long ∙ sym (length-zeros 256)) (λ k inside.
    let below : k < 256 = omega (arith, long) in
    get_or-part place 256 bytes k below ∙ none (place + k) (omega (arith, behind)) ∙ sym (get_or-zeros 256 k below))

image_behind : (spot : Spot) → 4096 ≤ images.place_of cluster_version spot
image_behind (BeatOf host) = omega arith
image_behind (VoteOf slot host) = omega arith

pub new_shows : (geometry : Geometry) (device image : List ℕ) → IsGeometry geometry → device_size geometry ≤ length device → length image ≡ images.image_length cluster_version (slot_rows geometry) →
    ((k : ℕ) → 4096 ≤ k → get_or device k 0 ≡ 0) → ((k : ℕ) → 4096 ≤ k → get_or image k 0 ≡ 0) → Shows geometry device image
new_shows geometry device image is long as_long none none_there =
    let blank : (spot : Spot) → images.IsSpot cluster_version (slot_rows geometry) spot → at.block_in cluster_version (images.place_of cluster_version spot) image ≡ zeros 256 =
    (λ spot is_spot. zero_block (images.place_of cluster_version spot) image (omega (arith, as_long, places.spot_fits cluster_version (slot_rows geometry) spot is_spot)) (image_behind spot) none_there) in
    record {
      blocks =
          λ spot is_spot.
          zero_block (place_of geometry spot) device (omega (arith, spot_fits geometry spot is_spot, long, long_sector geometry.sector_size is.sector_size)) (spot_behind geometry spot) none
          ∙ sym (blank spot (image_spot geometry is spot is_spot));
      others = λ spot is_spot other. blank spot is_spot;
    }
