-- What a write of one block's sector makes of the disk that the device shows.
use Rattle.std.specs.Prelude.{◌≡◌, ◌≢◌, ◌⊎◌, ◌+◌, ◌-◌, ◌≤◌, ◌<◌, ℕ, Bool, true, false, List, length, Contains, replicate}
use Rattle.std.proofs.Common.{sym, ◌∙◌, ap, subst, arith, inl, inr, get_or, true≢false}
use Rattle.std.proofs.lemmas.Bool.{cases_lt}
use Rattle.std.proofs.lemmas.List.{get_or-take, get_or-replicate, length-replicate}
use Rattle.disk.specs.Disk.{DiskState, put_at, written}
use Rattle.disk.proofs.CrashLemmas.{put-below, put-inside, put-above}
use Rattle.disk.proofs.StepLemmas.{shape_written}
use Rattle.torn_block.specs.Layout.{cluster_version}
use Rattle.torn_block.specs.Place as at
use Rattle.paxos_block.specs.Places as images
use Rattle.paxos_block.specs.Places.{Spot}
use Rattle.paxos_block.proofs.PlaceLemmas as places
use Rattle.sectors.specs.declared.geometry.Geometry.{Geometry}
use Rattle.sectors.specs.Geometry.{IsGeometry, slot_rows}
use Rattle.sectors.specs.Places.{IsSpot}
use Rattle.sectors.specs.Sector.{block_of}
use Rattle.sectors.proofs.PlaceLaws.{same_or_not, image_spot}
use Rattle.sectors.proofs.Putting.{part_is, length-part, part_elsewhere, part_around}
use Rattle.sector_runs.specs.Device.{Device, sector_of}
use Rattle.sector_runs.specs.Showing.{IsSized, ShowsDisk}
use Rattle.sector_runs.proofs.Sectors.{sectors_apart}

-- apart from the bytes of a block from `offset` on, of which there are n, both have the same
abbrev pub AgreeBeside : ℕ → ℕ → List ℕ → List ℕ → Type 0
AgreeBeside offset n one other = (o : ℕ) → o < 256 → (o < offset) ⊎ (offset + n ≤ o) → get_or one o 0 ≡ get_or other o 0

-- The sector has these bytes put into its block, and has had nothing new that differs elsewhere. No other sector is changed.
pub record WritesOne (s offset : ℕ) (some : List ℕ) (old new : Device) : Type 0 where
  pub here : block_of (new.now s) ≡ put_at (block_of (old.now s)) offset some
  pub there : (t : ℕ) → s ≢ t → new.now t ≡ old.now t
  pub had_here : (had : List ℕ) → Contains (new.since s) had → AgreeBeside offset (length some) had (old.now s) ⊎ Contains (old.since s) had
  pub had_there : (t : ℕ) → s ≢ t → new.since t ≡ old.since t
  pub gone : new.gone ≡ old.gone

module _ (geometry : Geometry) (is : IsGeometry geometry) (disk : DiskState) (old new : Device) (spot : Spot) (is_spot : IsSpot geometry spot) (offset : ℕ) (some : List ℕ) (within : offset + length some ≤ 256)
    (shows : ShowsDisk geometry old disk) (sized : IsSized geometry new) (writes : WritesOne (sector_of geometry spot) offset some old new) where
  abbrev s : ℕ
  s = sector_of geometry spot

  abbrev q : ℕ
  q = images.place_of cluster_version spot

  abbrev flags : List Bool
  flags = replicate (length some) true

  in_image : q + 256 ≤ length disk.bytes
  in_image = omega (arith, shows.shape.1, places.spot_fits cluster_version (slot_rows geometry) spot (image_spot geometry is spot is_spot))

  room : q + offset + length some ≤ length disk.bytes
  room = omega (arith, in_image, within)

  many : length flags ≡ length some
  many = length-replicate (length some) true

  flag_room : q + offset + length flags ≤ length disk.unsynced
  flag_room = omega (arith, room, many, shows.shape.0)

  -- the block that is written
  mine : at.block_in cluster_version q (put_at disk.bytes (q + offset) some) ≡ block_of (new.now s)
  mine =
      part_is q 256 (put_at disk.bytes (q + offset) some)
      ∙ part_around disk.bytes some q 256 offset in_image within
      ∙ ap (λ (l : List ℕ). put_at l offset some) (sym (part_is q 256 disk.bytes) ∙ shows.blocks spot is_spot)
      ∙ sym writes.here

  -- two blocks of an image have no byte in common
  apart : (other : Spot) → images.IsSpot cluster_version (slot_rows geometry) other → spot ≢ other → (q + 256 ≤ images.place_of cluster_version other) ⊎ (images.place_of cluster_version other + 256 ≤ q)
  apart other is_other differ = places.spots_apart cluster_version (slot_rows geometry) spot other (image_spot geometry is spot is_spot) is_other differ

  -- another block
  kept : (other : Spot) → images.IsSpot cluster_version (slot_rows geometry) other → spot ≢ other → at.block_in cluster_version (images.place_of cluster_version other) (put_at disk.bytes (q + offset) some) ≡ at.block_in cluster_version (images.place_of cluster_version other) disk.bytes
  kept other is_other differ =
      part_is (images.place_of cluster_version other) 256 (put_at disk.bytes (q + offset) some)
      ∙ part_elsewhere disk.bytes some (q + offset) room (images.place_of cluster_version other) 256 (omega (arith, shows.shape.1, places.spot_fits cluster_version (slot_rows geometry) other is_other))
      (elim (apart other is_other differ) [
        | inl before ↦ inl (omega (arith, before, within))
        | inr behind ↦ inr (omega (arith, behind))
      ])
      ∙ sym (part_is (images.place_of cluster_version other) 256 disk.bytes)

  blocks : (other : Spot) → IsSpot geometry other → at.block_in cluster_version (images.place_of cluster_version other) (put_at disk.bytes (q + offset) some) ≡ block_of (new.now (sector_of geometry other))
  blocks other is_other =
      elim (same_or_not spot other) [
        | inl same ↦ subst (λ (x : Spot). at.block_in cluster_version (images.place_of cluster_version x) (put_at disk.bytes (q + offset) some) ≡ block_of (new.now (sector_of geometry x))) same mine
        | inr differ ↦
            kept other (image_spot geometry is other is_other) differ
            ∙ shows.blocks other is_other
            ∙ ap block_of (sym (writes.there (sector_of geometry other) (sectors_apart geometry spot other is_spot is_other differ)))
      ]

  -- FLAGS

  abbrev new_flags : List Bool
  new_flags = put_at disk.unsynced (q + offset) flags

  flag_kept : (p : ℕ) → (p < q + offset) ⊎ (q + offset + length some ≤ p) → get_or new_flags p false ≡ get_or disk.unsynced p false
  flag_kept p (inl before) = put-below disk.unsynced (q + offset) flags flag_room false p before
  flag_kept p (inr behind) = put-above disk.unsynced (q + offset) flags flag_room false p (omega (arith, behind, many))

  -- what is written is not synced
  flag_set : (o : ℕ) → offset ≤ o → o < offset + length some → get_or new_flags (q + o) false ≡ true
  flag_set o from_there inside =
      let j = o - offset in
      let e : q + o ≡ (q + offset) + j = omega arith in
      let below : j < length some = omega arith in
      ap (λ (i : ℕ). get_or new_flags i false) e
      ∙ put-inside disk.unsynced (q + offset) flags flag_room false j (omega (arith, many, below))
      ∙ get_or-replicate (length some) j true false below

  beside : (o : ℕ) → get_or new_flags (q + o) false ≡ false → (o < offset) ⊎ (offset + length some ≤ o)
  beside o is_synced =
      elim (cases_lt o offset) [
        | inl before ↦ inl before
        | inr from_there ↦
            elim (cases_lt o (offset + length some)) [
              | inl inside ↦ absurd (true≢false (sym (flag_set o from_there inside) ∙ is_synced))
              | inr behind ↦ inr behind
            ]
      ]

  block_long : length (block_of (old.now s)) ≡ 256
  block_long = ap (λ (l : List ℕ). length l) (sym (shows.blocks spot is_spot) ∙ part_is q 256 disk.bytes) ∙ length-part q 256 disk.bytes in_image

  -- beside what is written the sector is as it was
  as_before : (o : ℕ) → o < 256 → (o < offset) ⊎ (offset + length some ≤ o) → get_or (new.now s) o 0 ≡ get_or (old.now s) o 0
  as_before o below where_it_is =
      let fits : offset + length some ≤ length (block_of (old.now s)) = omega (arith, within, block_long) in
      sym (get_or-take 256 (new.now s) o 0 below)
      ∙ ap (λ (l : List ℕ). get_or l o 0) writes.here
      ∙ elim where_it_is [
        | inl before ↦ put-below (block_of (old.now s)) offset some fits 0 o before
        | inr behind ↦ put-above (block_of (old.now s)) offset some fits 0 o behind
      ]
      ∙ get_or-take 256 (old.now s) o 0 below

  moved : (o : ℕ) → (o < offset) ⊎ (offset + length some ≤ o) → (q + o < q + offset) ⊎ (q + offset + length some ≤ q + o)
  moved o (inl before) = inl (omega (arith, before))
  moved o (inr behind) = inr (omega (arith, behind))

  synced_here : (o : ℕ) (had : List ℕ) → o < 256 → get_or new_flags (q + o) false ≡ false → Contains (new.since s) had → get_or had o 0 ≡ get_or (new.now s) o 0
  synced_here o had below is_synced in_it =
      let where_it_is = beside o is_synced in
      elim (writes.had_here had in_it) [
        | inl agree ↦ agree o below where_it_is
        | inr earlier ↦ shows.synced spot o had is_spot below (sym (flag_kept (q + o) (moved o where_it_is)) ∙ is_synced) earlier
      ]
      ∙ sym (as_before o below where_it_is)

  elsewhere : (other : Spot) (o : ℕ) → images.IsSpot cluster_version (slot_rows geometry) other → spot ≢ other → o < 256 → (images.place_of cluster_version other + o < q + offset) ⊎ (q + offset + length some ≤ images.place_of cluster_version other + o)
  elsewhere other o is_other differ below =
      elim (apart other is_other differ) [
        | inl before ↦ inr (omega (arith, before, within))
        | inr behind ↦ inl (omega (arith, behind, below))
      ]

  synced_there : (other : Spot) (o : ℕ) (had : List ℕ) → IsSpot geometry other → spot ≢ other → o < 256 → get_or new_flags (images.place_of cluster_version other + o) false ≡ false → Contains (new.since (sector_of geometry other)) had →
      get_or had o 0 ≡ get_or (new.now (sector_of geometry other)) o 0
  synced_there other o had is_other differ below is_synced in_it =
      let t = sector_of geometry other in
      let off = sectors_apart geometry spot other is_spot is_other differ in
      shows.synced other o had is_other below
      (sym (flag_kept (images.place_of cluster_version other + o) (elsewhere other o (image_spot geometry is other is_other) differ below)) ∙ is_synced)
      (subst (λ (l : List (List ℕ)). Contains l had) (writes.had_there t off) in_it)
      ∙ ap (λ (l : List ℕ). get_or l o 0) (sym (writes.there t off))

  pub shows_written : ShowsDisk geometry new (written disk (q + offset) some)
  shows_written =
      record {
        shape = shape_written (images.image_length cluster_version (slot_rows geometry)) disk (q + offset) some room shows.shape;
        sized = sized;
        blocks = blocks;
        others =
            λ other is_other none.
            kept other is_other (λ same. none (subst (IsSpot geometry) same is_spot)) ∙ shows.others other is_other none;
        synced =
            λ other o had is_other below is_synced in_it.
            elim (same_or_not spot other) [
              | inl same ↦
                  synced_at same o had below is_synced in_it
              | inr differ ↦ synced_there other o had is_other differ below is_synced in_it
            ];
        boot = shows.boot;
        gone = shows.gone ∙ sym writes.gone;
      }
    where
      synced_at : {other : Spot} → spot ≡ other → (o : ℕ) (had : List ℕ) → o < 256 → get_or new_flags (images.place_of cluster_version other + o) false ≡ false → Contains (new.since (sector_of geometry other)) had → get_or had o 0 ≡ get_or (new.now (sector_of geometry other)) o 0
      synced_at {other} same o had =
          subst (λ (x : Spot). o < 256 → get_or new_flags (images.place_of cluster_version x + o) false ≡ false → Contains (new.since (sector_of geometry x)) had → get_or had o 0 ≡ get_or (new.now (sector_of geometry x)) o 0) same (synced_here o had)
