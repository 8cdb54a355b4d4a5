-- What the blocks and the header of a complete image say.
use Rattle.std.specs.Prelude.{All, slice_get}
use Rattle.std.proofs.Common.{ℕ, zero, suc, ◌+◌, ◌-◌, ◌*◌, ◌≤◌, ◌<◌, ◌≡◌, ◌≢◌, ◌⊎◌, inl, inr, Some, List, [], ◌∷◌, ◌++◌, length, take, drop, replicate, refl, sym, ap, ◌∙◌, arith, length-append, length-drop}
use Rattle.std.proofs.lemmas.List.{ext_get_or, get_or-take, get_or-drop, take_at, drop-replicate, take-replicate}
use Rattle.disk.specs.Disk.{put_at}
use Rattle.disk.specs.Crash.{ChangesOnly}
use Rattle.disk.proofs.CrashLemmas.{length-put, put-below, put-above, put-inside}
use Rattle.torn_block.specs.declared.block.TheConstants.{OPEN_GATE}
use Rattle.torn_block.specs.declared.layout.TheConstants.{VALUE_LENGTH, BLOCK_LENGTH, HEADER_LENGTH, ROW_LENGTH}
use Rattle.torn_block.specs.Layout.{cluster_version}
use Rattle.torn_block.specs.Place.{block_in}
use Rattle.torn_block.proofs.PlaceLaws.{block_elsewhere, length-block_in}
use Rattle.paxos_block.specs.Headers.{header_saying}
use Rattle.paxos_block.specs.Places.{Spot, BeatOf, VoteOf, IsSpot, place_of, row_place, image_length}
use Rattle.paxos_block.specs.Saying.{zeros}
use Rattle.paxos_block.proofs.PlaceLemmas.{spots_apart, spot_fits}
use Rattle.paxos_block.proofs.SayingLemmas.{length-zeros}
use Rattle.migration.specs.Fits.{Fits}
use Rattle.paxos_block.specs.Image.{Setup, header_of, block_for, row_for, rows_for, image_of, HoldsLog, HoldsNoMore, HasHeader}
use Rattle.migration.specs.Plan.{Put, blocks_from, heading}
use Rattle.migration.proofs.Lengths.{length-block, length-header}
use Rattle.migration.proofs.Puts.{puts, puts-append, completes}

-- A BLOCK, AND WRITES

put_changes : (bytes : List ℕ) (at : ℕ) (from : List ℕ) → at + length from ≤ length bytes → ChangesOnly at (length from) bytes (put_at bytes at from)
put_changes bytes at from fits = record {
  as_many = length-put bytes at from fits 0;
  below = λ k below. put-below bytes at from fits 0 k below;
  above = λ k above. put-above bytes at from fits 0 k above;
}

put_here : (place : ℕ) (bytes from : List ℕ) → length from ≡ BLOCK_LENGTH → place + BLOCK_LENGTH ≤ length bytes → block_in cluster_version place (put_at bytes place from) ≡ from
put_here place bytes from long room =
    let new = put_at bytes place from in
    let fits : place + length from ≤ length bytes = omega (arith, long, room) in
    let room' : place + BLOCK_LENGTH ≤ length new = omega (arith, length-put bytes place from fits 0, room) in
    let size = length-block_in cluster_version place new room' in
    ext_get_or 0 (block_in cluster_version place new) from (size ∙ sym long) (λ k within.
    get_or-take ((place + BLOCK_LENGTH) - place) (drop place new) k 0 (omega (arith, size))
    ∙ get_or-drop place new k 0
    ∙ put-inside bytes place from fits 0 k (omega (arith, size, long)))

-- these writes lie within so many bytes, and apart from a block
abbrev AreApart : ℕ → ℕ → List Put → Type 0
AreApart size place [] = Unit {0}
AreApart size place (w ∷ ws) = (w.0 + length w.1 ≤ size) × ((w.0 + length w.1 ≤ place) ⊎ (place + BLOCK_LENGTH ≤ w.0)) × AreApart size place ws

pub puts_elsewhere : (size place : ℕ) (bytes : List ℕ) (ws : List Put) → length bytes ≡ size → place + BLOCK_LENGTH ≤ size → AreApart size place ws → block_in cluster_version place (puts bytes ws) ≡ block_in cluster_version place bytes
puts_elsewhere size place bytes [] long room apart = refl
puts_elsewhere size place bytes (w ∷ ws) long room (fits, aside, apart) =
    let within : w.0 + length w.1 ≤ length bytes = omega (arith, long, fits) in
    puts_elsewhere size place (put_at bytes w.0 w.1) ws (length-put bytes w.0 w.1 within 0 ∙ long) room apart
    ∙ block_elsewhere cluster_version place w.0 (length w.1) bytes (put_at bytes w.0 w.1) (omega (arith, long, room)) (put_changes bytes w.0 w.1 within) aside

-- THE BLOCKS OF A LOG

module _ (slots : ℕ) (more : List Put) where
  -- they are apart from every other block
  pub apart_from : (spot : Spot) → IsSpot cluster_version slots spot → AreApart (image_length cluster_version slots) (place_of cluster_version spot) more → (k : ℕ) (log : List (List ℕ)) → k + length log ≤ slots → All (λ value. length value ≡ VALUE_LENGTH) log
      → ((i : ℕ) → k ≤ i → i < k + length log → spot ≢ VoteOf i 0) → AreApart (image_length cluster_version slots) (place_of cluster_version spot) (blocks_from k log ++ more)
  apart_from spot is rest k [] within values other = rest
  apart_from spot is rest k (value ∷ log) within values other =
      let block = length-block value (values 0 [] (omega arith)) in
      let mine : IsSpot cluster_version slots (VoteOf k 0) = (omega (arith, within), omega arith) in (
        omega (arith, within, block),
        (elim (spots_apart cluster_version slots spot (VoteOf k 0) is mine (other k (omega arith) (omega arith))) [
          | inl before ↦ inr before
          | inr behind ↦ inl (omega (arith, behind, block))
        ]),
        apart_from spot is rest (suc k) log (omega (arith, within)) (λ i d inside. values (suc i) d (omega arith)) (λ i from below. other i (omega (arith, from)) (omega (arith, below))),
      )

  -- each is there
  pub stands : ((spot : Spot) → IsSpot cluster_version slots spot → AreApart (image_length cluster_version slots) (place_of cluster_version spot) more) → (k : ℕ) (log : List (List ℕ)) (bytes : List ℕ) → length bytes ≡ image_length cluster_version slots → k + length log ≤ slots → All (λ value. length value ≡ VALUE_LENGTH) log
      → (i : ℕ) (value : List ℕ) → slice_get log i ≡ Some value → block_in cluster_version (place_of cluster_version (VoteOf (k + i) 0)) (puts bytes (blocks_from k log ++ more)) ≡ block_for value
  stands rest k [] bytes long within values i value is = absurd (cc)
  stands rest k (first ∷ log) bytes long within values zero value is =
      let same : first ≡ value = cc in
      let block = length-block first (values 0 [] (omega arith)) in
      let place = place_of cluster_version (VoteOf k 0) in
      let fits : place + length (block_for first) ≤ length bytes = omega (arith, long, within, block) in
      let here : k + 0 ≡ k = omega arith in
      let spot : IsSpot cluster_version slots (VoteOf k 0) = (omega (arith, within), omega arith) in
      let room : place + BLOCK_LENGTH ≤ image_length cluster_version slots = omega (arith, within) in
      ap (λ (j : ℕ). block_in cluster_version (place_of cluster_version (VoteOf j 0)) (puts bytes (blocks_from k (first ∷ log) ++ more))) here
      ∙ puts_elsewhere (image_length cluster_version slots) place (put_at bytes place (block_for first)) (blocks_from (suc k) log ++ more) (length-put bytes place (block_for first) fits 0 ∙ long) room
      (apart_from (VoteOf k 0) spot (rest (VoteOf k 0) spot) (suc k) log (omega (arith, within)) (λ i d inside. values (suc i) d (omega arith)) (λ i from below same. absurd (let e : k ≡ i = cc in omega (arith, from, e))))
      ∙ put_here place bytes (block_for first) block (omega (arith, long, within))
      ∙ ap block_for same
  stands rest k (first ∷ log) bytes long within values (suc i) value is =
      let block = length-block first (values 0 [] (omega arith)) in
      let place = place_of cluster_version (VoteOf k 0) in
      let fits : place + length (block_for first) ≤ length bytes = omega (arith, long, within, block) in
      let number : k + suc i ≡ suc k + i = omega arith in
      ap (λ (j : ℕ). block_in cluster_version (place_of cluster_version (VoteOf j 0)) (puts bytes (blocks_from k (first ∷ log) ++ more))) number
      ∙ stands rest (suc k) log (put_at bytes place (block_for first)) (length-put bytes place (block_for first) fits 0 ∙ long) (omega (arith, within)) (λ i d inside. values (suc i) d (omega arith)) i value is

-- a block of an image of zeros
pub blank_block : (slots place : ℕ) → place + BLOCK_LENGTH ≤ image_length cluster_version slots → block_in cluster_version place (zeros (image_length cluster_version slots)) ≡ zeros BLOCK_LENGTH
unfolding zeros
blank_block slots place room =
    let n = image_length cluster_version slots in
    let size : (place + BLOCK_LENGTH) - place ≡ BLOCK_LENGTH = omega arith in
    ap (take ((place + BLOCK_LENGTH) - place)) (drop-replicate place n 0) ∙ take-replicate ((place + BLOCK_LENGTH) - place) (n - place) 0 (omega arith) ∙ ap (λ (k : ℕ). replicate k 0) size

-- how long the rows are
pub length-rows : (log : List (List ℕ)) → All (λ value. length value ≡ VALUE_LENGTH) log → length (rows_for log) ≡ ROW_LENGTH * length log
length-rows [] values = refl
length-rows (value ∷ log) values =
    omega (arith, length-block value (values 0 [] (omega arith)), length-rows log (λ i d inside. values (suc i) d (omega arith)), length-append (row_for value) (rows_for log), length-append (block_for value) (zeros (ROW_LENGTH - BLOCK_LENGTH)), length-zeros (ROW_LENGTH - BLOCK_LENGTH))

-- A COMPLETE IMAGE

module _ (s : Setup) (d : ℕ) (fits : Fits s) where
  -- the header, and then the gate
  abbrev pub header_puts : List Put
  header_puts = heading s d ∷ (0, OPEN_GATE ∷ []) ∷ []

  pub made : image_of s d ≡ puts (zeros (image_length cluster_version s.slots)) (blocks_from 0 s.log ++ header_puts)
  made =
      sym (completes s d fits)
      ∙ ap (λ (l : List ℕ). put_at l 0 (OPEN_GATE ∷ [])) (puts-append (zeros (image_length cluster_version s.slots)) (blocks_from 0 s.log) (heading s d ∷ []))
      ∙ sym (puts-append (zeros (image_length cluster_version s.slots)) (blocks_from 0 s.log) header_puts)

  behind_header : (spot : Spot) → HEADER_LENGTH ≤ place_of cluster_version spot
  behind_header (BeatOf host) = omega arith
  behind_header (VoteOf slot host) = omega arith

  header_apart : (spot : Spot) → IsSpot cluster_version s.slots spot → AreApart (image_length cluster_version s.slots) (place_of cluster_version spot) header_puts
  header_apart spot is =
      let tail = length-drop 1 (header_saying cluster_version (header_of s d)) in
      let whole = length-header (header_of s d) in
      let from = behind_header spot in
      (omega (arith, tail, whole), inl (omega (arith, tail, whole, from)), (omega arith, inl (omega (arith, from)), tt))

  pub holds_log : HoldsLog s d
  holds_log k value is =
      let number : k ≡ 0 + k = omega arith in
      ap (block_in cluster_version (place_of cluster_version (VoteOf k 0))) made
      ∙ ap (λ (j : ℕ). block_in cluster_version (place_of cluster_version (VoteOf j 0)) (puts (zeros (image_length cluster_version s.slots)) (blocks_from 0 s.log ++ header_puts))) number
      ∙ stands s.slots header_puts header_apart 0 s.log (zeros (image_length cluster_version s.slots)) (length-zeros (image_length cluster_version s.slots)) (let n = fits.room.log in omega (arith, n)) fits.values k value is

  pub holds_no_more : HoldsNoMore s d
  holds_no_more spot is other =
      let room = spot_fits cluster_version s.slots spot is in
      ap (block_in cluster_version (place_of cluster_version spot)) made
      ∙ puts_elsewhere (image_length cluster_version s.slots) (place_of cluster_version spot) (zeros (image_length cluster_version s.slots)) (blocks_from 0 s.log ++ header_puts) (length-zeros (image_length cluster_version s.slots)) room
      (apart_from s.slots header_puts spot is (header_apart spot is) 0 s.log (let n = fits.room.log in omega (arith, n)) fits.values (λ i from below. other i (omega (arith, below))))
      ∙ blank_block s.slots (place_of cluster_version spot) room

  -- how long it is
  pub length-image : length (image_of s d) ≡ image_length cluster_version s.slots
  length-image =
      let some = fits.room.log in
      let left = zeros (ROW_LENGTH * (s.slots - length s.log)) in
      omega (arith, length-append (header_saying cluster_version (header_of s d)) (zeros (row_place cluster_version 0 - HEADER_LENGTH) ++ (rows_for s.log ++ left)), length-append (zeros (row_place cluster_version 0 - HEADER_LENGTH)) (rows_for s.log ++ left), length-append (rows_for s.log) left, length-header (header_of s d), length-zeros (row_place cluster_version 0 - HEADER_LENGTH), length-zeros (ROW_LENGTH * (s.slots - length s.log)), length-rows s.log fits.values, some)

  pub has_header : d < s.disks → HasHeader s d
  has_header below = record {
    may_be = record { disk = below; disks = fits.room.few_disks; some_slots = fits.room.some_slots; slots = fits.room.few_slots };
    fits = fits.room.cluster;
    named = refl;
    as_long = sym length-image;
    spelled = take_at (header_saying cluster_version (header_of s d)) (zeros (row_place cluster_version 0 - HEADER_LENGTH) ++ (rows_for s.log ++ zeros (ROW_LENGTH * (s.slots - length s.log)))) HEADER_LENGTH (length-header (header_of s d));
  }
