-- What a restart leaves of the disk that the device shows: all that was synced, and of the rest what its sectors have.
use Rattle.std.specs.Prelude.{◌≡◌, ◌⊎◌, ◌+◌, ◌-◌, ◌*◌, ◌/◌, ◌%◌, ◌≤◌, ◌<◌, ℕ, false, List, length, map, replicate, Contains}
use Rattle.std.specs.List.{range_with_len}
use Rattle.std.proofs.Common.{refl, sym, ◌∙◌, ap, subst, arith, inl, inr, get_or}
use Rattle.std.proofs.lemmas.Bool.{cases_lt, cases_eq}
use Rattle.std.proofs.lemmas.List.{ext_get_or, get_or-take, get_or_past, length-replicate, length-take-le}
use Rattle.std.proofs.lemmas.List.FromFn.{length-map-range_with_len, get_or-map-range_with_len}
use Rattle.disk.specs.Disk.{DiskState}
use Rattle.torn_block.specs.Layout.{cluster_version}
use Rattle.torn_block.specs.Place as at
use Rattle.paxos_block.specs.Places as images
use Rattle.paxos_block.specs.Places.{Spot, BeatOf, VoteOf}
use Rattle.paxos_block.proofs.PlaceLemmas as places
use Rattle.sectors.specs.declared.geometry.Geometry.{Geometry}
use Rattle.sectors.specs.Geometry.{IsGeometry, slot_rows}
use Rattle.sectors.specs.Places.{IsSpot}
use Rattle.sectors.specs.Sector.{block_of}
use Rattle.sectors.proofs.PlaceLaws.{image_spot}
use Rattle.sectors.proofs.Putting.{part_is, length-part, get_or-part}
use Rattle.sectors.proofs.Shapes.{long_sector}
use Rattle.at_once.specs.Power.{LosesPower}
use Rattle.sector_runs.specs.Device.{Device, Restarts, sector_of}
use Rattle.sector_runs.specs.Showing.{IsSized, ShowsDisk}
use Rattle.sector_runs.proofs.Seeing.{none_in}

-- WHERE A BYTE OF AN IMAGE IS

host_at : ℕ → ℕ
host_at p = p % 4096 / 256

number_at : Geometry → ℕ → ℕ
number_at geometry p = geometry.hosts * (p / 4096 - 1) + p % 4096 / 256

-- a byte of a block that an image has
spot_host : (slots : ℕ) (spot : Spot) (o : ℕ) → images.IsSpot cluster_version slots spot → o < 256 → 4096 ≤ images.place_of cluster_version spot + o
spot_host slots (BeatOf h) o is below = omega arith
spot_host slots (VoteOf slot h) o is below = omega arith

-- it is in a sector that the device has, or in none
has_host : (geometry : Geometry) (spot : Spot) (o : ℕ) → images.IsSpot cluster_version (slot_rows geometry) spot → o < 256 → host_at (images.place_of cluster_version spot + o) < geometry.hosts
    → IsSpot geometry spot
unfolding host_at
has_host g (BeatOf h) o is below few = omega (arith, few, is, below)
has_host g (VoteOf slot h) o is below few = (is.0, let short = is.1 in omega (arith, few, short, below))

-- A byte of a block that the device has is in that block's sector.
record IsAt (geometry : Geometry) (p : ℕ) (spot : Spot) (o : ℕ) : Type 0 where
  host : host_at p < geometry.hosts
  number : number_at geometry p ≡ sector_of geometry spot
  offset : p % 256 ≡ o

is_at : (geometry : Geometry) → IsGeometry geometry → (spot : Spot) (o : ℕ) → IsSpot geometry spot → o < 256 → IsAt geometry (images.place_of cluster_version spot + o) spot o
unfolding host_at number_at
is_at g is (BeatOf h) o spot below =
    let few = is.hosts.1 in
    let p = images.place_of cluster_version (BeatOf h) + o in
    let row : p / 4096 - 1 ≡ 0 = omega (arith, spot, few, below) in
    record {
      host = omega (arith, spot, few, below);
      number = ap (λ (n : ℕ). g.hosts * n + p % 4096 / 256) row ∙ omega (arith, spot, few, below);
      offset = omega (arith, below);
    }
is_at g is (VoteOf slot h) o spot below =
    let few = is.hosts.1 in
    let own = spot.1 in
    let p = images.place_of cluster_version (VoteOf slot h) + o in
    let row : p / 4096 - 1 ≡ slot + 1 = omega (arith, own, few, below) in
    let place : p % 4096 / 256 ≡ h = omega (arith, own, few, below) in
    record {
      host = omega (arith, place, own);
      number = ap (λ (n : ℕ). g.hosts * n + p % 4096 / 256) row ∙ ap (λ (n : ℕ). g.hosts * (slot + 1) + n) place;
      offset = omega (arith, below);
    }

-- each byte of an image behind its header is in some block
record InSome (geometry : Geometry) (p : ℕ) : Type 0 where
  spot : Spot
  o : ℕ
  is_spot : IsSpot geometry spot
  below : o < 256
  here : p ≡ images.place_of cluster_version spot + o

in_some : (geometry : Geometry) (p : ℕ) → 4096 ≤ p → p < images.image_length cluster_version (slot_rows geometry) → host_at p < geometry.hosts → InSome geometry p
unfolding host_at
in_some g p behind inside few =
    elim (cases_eq (p / 4096) 1) [
      | inl first ↦ record { spot = BeatOf (p % 4096 / 256); o = p % 256; is_spot = few; below = omega arith; here = omega (arith, first) }
      | inr later ↦
          record {
            spot = VoteOf (p / 4096 - 2) (p % 4096 / 256);
            o = p % 256;
            is_spot = (omega (arith, behind, inside, later), few);
            below = omega arith;
            here = omega (arith, behind, later);
          }
    ]

-- WHAT IS LEFT

module _ (geometry : Geometry) (is : IsGeometry geometry) (disk : DiskState) (old new : Device) (shows : ShowsDisk geometry old disk) (restarts : Restarts old new) (sized : IsSized geometry new) where
  pick : (p : ℕ) → (p < 4096) ⊎ (4096 ≤ p) → (host_at p < geometry.hosts) ⊎ (geometry.hosts ≤ host_at p) → ℕ
  pick p (inl low) host = get_or disk.bytes p 0
  pick p (inr behind) (inl below) = get_or (new.now (number_at geometry p)) (p % 256) 0
  pick p (inr behind) (inr none) = get_or disk.bytes p 0

  byte_at : ℕ → ℕ
  byte_at p = pick p (cases_lt p 4096) (cases_lt (host_at p) geometry.hosts)

  abbrev left : List ℕ
  left = map byte_at (range_with_len 0 (length disk.bytes))

  size : length left ≡ length disk.bytes
  size = length-map-range_with_len byte_at 0 (length disk.bytes)

  left_at : (p : ℕ) → p < length disk.bytes → get_or left p 0 ≡ byte_at p
  left_at p below = get_or-map-range_with_len byte_at 0 (length disk.bytes) p p 0 below (omega arith)

  picked : (p : ℕ) (low : (p < 4096) ⊎ (4096 ≤ p)) (host : (host_at p < geometry.hosts) ⊎ (geometry.hosts ≤ host_at p)) → 4096 ≤ p → host_at p < geometry.hosts → pick p low host ≡ get_or (new.now (number_at geometry p)) (p % 256) 0
  unfolding pick
  picked p (inl low) host behind few = absurd (omega (arith, low, behind))
  picked p (inr high) (inl below) behind few = refl
  picked p (inr high) (inr none) behind few = absurd (omega (arith, none, few))

  stayed : (p : ℕ) (low : (p < 4096) ⊎ (4096 ≤ p)) (host : (host_at p < geometry.hosts) ⊎ (geometry.hosts ≤ host_at p)) → geometry.hosts ≤ host_at p → pick p low host ≡ get_or disk.bytes p 0
  unfolding pick
  stayed p (inl low) host none = refl
  stayed p (inr high) (inl below) none = absurd (omega (arith, none, below))
  stayed p (inr high) (inr more) none = refl

  in_image : (spot : Spot) (o : ℕ) → images.IsSpot cluster_version (slot_rows geometry) spot → o < 256 → images.place_of cluster_version spot + o < length disk.bytes
  in_image spot o is_spot below = omega (arith, shows.shape.1, places.spot_fits cluster_version (slot_rows geometry) spot is_spot, below)

  -- each block is that of its sector
  left_in : (spot : Spot) (o : ℕ) → IsSpot geometry spot → o < 256 → get_or left (images.place_of cluster_version spot + o) 0 ≡ get_or (new.now (sector_of geometry spot)) o 0
  unfolding byte_at
  left_in spot o is_spot below =
      let p = images.place_of cluster_version spot + o in
      let there = image_spot geometry is spot is_spot in
      let where_it_is = is_at geometry is spot o is_spot below in
      left_at p (in_image spot o there below)
      ∙ picked p (cases_lt p 4096) (cases_lt (host_at p) geometry.hosts) (spot_host (slot_rows geometry) spot o there below) where_it_is.host
      ∙ (λ i. get_or (new.now (where_it_is.number i)) (where_it_is.offset i) 0)

  long : (s : ℕ) → length (block_of (new.now s)) ≡ 256
  long s =
      let size_of = sized.0 s in
      let at_least = long_sector geometry.sector_size is.sector_size in
      length-take-le 256 (new.now s) (omega (arith, size_of, at_least))

  long_in : (spot : Spot) → images.IsSpot cluster_version (slot_rows geometry) spot → images.place_of cluster_version spot + 256 ≤ length left
  long_in spot is_spot = omega (arith, size, shows.shape.1, places.spot_fits cluster_version (slot_rows geometry) spot is_spot)

  blocks : (spot : Spot) → IsSpot geometry spot → at.block_in cluster_version (images.place_of cluster_version spot) left ≡ block_of (new.now (sector_of geometry spot))
  blocks spot is_spot =
      let s = sector_of geometry spot in
      let q = images.place_of cluster_version spot in
      let there = image_spot geometry is spot is_spot in
      let part_long = length-part q 256 left (long_in spot there) in
      part_is q 256 left
      ∙ ext_get_or 0 _ _ (part_long ∙ sym (long s)) (λ k inside.
      let below : k < 256 = omega (arith, part_long) in
      get_or-part q 256 left k below ∙ left_in spot k is_spot below ∙ sym (get_or-take 256 (new.now s) k 0 below))

  -- a block of no host is as it was
  others : (spot : Spot) → images.IsSpot cluster_version (slot_rows geometry) spot → ¬ IsSpot geometry spot → at.block_in cluster_version (images.place_of cluster_version spot) left ≡ at.block_in cluster_version (images.place_of cluster_version spot) disk.bytes
  unfolding byte_at
  others spot is_spot none =
      let q = images.place_of cluster_version spot in
      let fits_left = long_in spot is_spot in
      let fits : q + 256 ≤ length disk.bytes = omega (arith, fits_left, size) in
      let part_long = length-part q 256 left fits_left in
      part_is q 256 left
      ∙ ext_get_or 0 _ _ (part_long ∙ sym (length-part q 256 disk.bytes fits)) (λ k inside.
      let below : k < 256 = omega (arith, part_long) in
      let p = q + k in
      get_or-part q 256 left k below
      ∙ left_at p (in_image spot k is_spot below)
      ∙ stayed p (cases_lt p 4096) (cases_lt (host_at p) geometry.hosts) (elim (cases_lt (host_at p) geometry.hosts) [
        | inl few ↦ absurd (none (has_host geometry spot k is_spot below few))
        | inr more ↦ more
      ])
      ∙ sym (get_or-part q 256 disk.bytes k below))
      ∙ sym (part_is q 256 disk.bytes)

  -- WHAT STAYS

  was_in : (spot : Spot) (o : ℕ) → IsSpot geometry spot → o < 256 → get_or (old.now (sector_of geometry spot)) o 0 ≡ get_or disk.bytes (images.place_of cluster_version spot + o) 0
  was_in spot o is_spot below =
      let q = images.place_of cluster_version spot in
      sym (get_or-take 256 (old.now (sector_of geometry spot)) o 0 below)
      ∙ ap (λ (l : List ℕ). get_or l o 0) (sym (shows.blocks spot is_spot) ∙ part_is q 256 disk.bytes)
      ∙ get_or-part q 256 disk.bytes o below

  synced_in : (spot : Spot) (o : ℕ) → IsSpot geometry spot → o < 256 → get_or disk.unsynced (images.place_of cluster_version spot + o) false ≡ false → get_or (new.now (sector_of geometry spot)) o 0 ≡ get_or (old.now (sector_of geometry spot)) o 0
  synced_in spot o is_spot below is_synced =
      elim (restarts.kept (sector_of geometry spot)) [
        | inl same ↦ ap (λ (l : List ℕ). get_or l o 0) same
        | inr had ↦ shows.synced spot o (new.now (sector_of geometry spot)) is_spot below is_synced had
      ]

  kept_in : (p : ℕ) → InSome geometry p → get_or disk.unsynced p false ≡ false → get_or left p 0 ≡ get_or disk.bytes p 0
  kept_in p x is_synced =
      ap (λ (i : ℕ). get_or left i 0) x.here
      ∙ left_in x.spot x.o x.is_spot x.below
      ∙ synced_in x.spot x.o x.is_spot x.below (ap (λ (i : ℕ). get_or disk.unsynced i false) (sym x.here) ∙ is_synced)
      ∙ was_in x.spot x.o x.is_spot x.below
      ∙ ap (λ (i : ℕ). get_or disk.bytes i 0) (sym x.here)

  kept_by : (p : ℕ) → p < length disk.bytes → get_or disk.unsynced p false ≡ false → (low : (p < 4096) ⊎ (4096 ≤ p)) (host : (host_at p < geometry.hosts) ⊎ (geometry.hosts ≤ host_at p)) →
      byte_at p ≡ pick p low host → get_or left p 0 ≡ get_or disk.bytes p 0
  unfolding pick
  kept_by p inside is_synced (inl low) host picks = left_at p inside ∙ picks
  kept_by p inside is_synced (inr behind) (inr none) picks = left_at p inside ∙ picks
  kept_by p inside is_synced (inr behind) (inl below) picks = kept_in p (in_some geometry p behind (let shape = shows.shape.1 in omega (arith, shape, inside)) below) is_synced

  kept : (p : ℕ) → get_or disk.unsynced p false ≡ false → get_or left p 0 ≡ get_or disk.bytes p 0
  unfolding byte_at
  kept p is_synced =
      elim (cases_lt p (length disk.bytes)) [
        | inl inside ↦ kept_by p inside is_synced (cases_lt p 4096) (cases_lt (host_at p) geometry.hosts) refl
        | inr beyond ↦ get_or_past left p 0 (omega (arith, size, beyond)) ∙ sym (get_or_past disk.bytes p 0 beyond)
      ]

  pub disk_left : DiskState
  disk_left = record { bytes = left; unsynced = replicate (length disk.bytes) false; boot = disk.boot; gone = disk.gone }

  pub loses_power : LosesPower disk disk_left
  unfolding disk_left
  loses_power =
      record { bytes = record { as_many = size; same = kept }; unsynced = refl; before = shows.boot; after = shows.boot; gone = refl }

  pub shows_restarted : ShowsDisk geometry new disk_left
  unfolding disk_left
  shows_restarted =
      record {
        shape = (length-replicate (length disk.bytes) false ∙ sym size, size ∙ shows.shape.1);
        sized = sized;
        blocks = blocks;
        others = λ spot is_spot none. others spot is_spot none ∙ shows.others spot is_spot none;
        synced = λ spot o had is_spot below is_synced in_it. absurd (none_had (sector_of geometry spot) had in_it);
        boot = shows.boot;
        gone = shows.gone ∙ sym restarts.gone;
      }
    where
      none_had : (s : ℕ) (had : List ℕ) → Contains (new.since s) had → ⊥
      none_had s had in_it = none_in had (subst (λ (f : ℕ → List (List ℕ)). Contains (f s) had) restarts.since in_it)
