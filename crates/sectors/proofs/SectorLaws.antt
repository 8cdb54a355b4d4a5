-- What a write makes of a sector.
use Rattle.std.specs.Prelude.{◌≡◌, ◌⊎◌, ◌+◌, ◌-◌, ◌≤◌, ◌<◌, ◌^◌, ◌++◌, ℕ, List, length, take, drop, slice_index}
use Rattle.std.proofs.Common.{refl, sym, ◌∙◌, ap, arith, inl, inr, get_or, length-append, length-drop, append_assoc}
use Rattle.std.proofs.lemmas.List.{length-take-le, length-take, take_at, drop_at, take_min, drop-drop, take-append-drop, get_or-take, ext_get_or}
use Rattle.byteorder.specs.Endian.{big_number}
use Rattle.byteorder.specs.Numbers.{big_number-reads_back, length-bytes_high_first}
use Rattle.disk.specs.Disk.{put_at}
use Rattle.torn_block.specs.Block.{number_bytes}
use Rattle.paxos_block.specs.Saying.{number_at}
use Rattle.sectors.specs.declared.name.MachineName.{MachineName}
use Rattle.sectors.specs.declared.name.TheConstants.{NAME_LENGTH, NAMED_LENGTH}
use Rattle.sectors.specs.declared.sector.TheConstants.{STAMPED_LENGTH}
use Rattle.sectors.specs.Names.{name_of, sector_naming}
use Rattle.sectors.specs.Sector.{block_of, stamp_of, sector_with}
use Rattle.sectors.proofs.Putting.{part, length-part, get_or-part, length_kept}
use Rattle.disk.proofs.CrashLemmas.{length-put, put-below, put-inside, put-above}
use Rattle.std.proofs.lemmas.Bool.{cases_lt}

pub length-number : (n : ℕ) → length (number_bytes n) ≡ 8
unfolding number_bytes
length-number n = length-bytes_high_first 8 n

reads_back : (n : ℕ) (rest : List ℕ) → n < 2 ^ 64 → big_number 8 (number_bytes n ++ rest) ≡ n
unfolding number_bytes
reads_back n rest fits = big_number-reads_back 8 n rest fits

module _ (sector from : List ℕ) (offset : ℕ) (within : offset + length from ≤ 256) (long : 256 ≤ length sector) where
  long_block : length (block_of sector) ≡ 256
  long_block = length-take-le 256 sector long

  long_put : length (put_at (block_of sector) offset from) ≡ 256
  long_put = length_kept (block_of sector) from offset (omega (arith, long_block)) ∙ long_block

  -- its block has the bytes
  pub block_with : block_of (sector_with offset from sector) ≡ put_at (block_of sector) offset from
  block_with =
      take_at (put_at (block_of sector) offset from) (number_bytes (stamp_of sector + 1) ++ drop STAMPED_LENGTH sector) 256 long_put

  -- its stamp is the next
  pub stamp_with : stamp_of sector + 1 < 2 ^ 64 → stamp_of (sector_with offset from sector) ≡ stamp_of sector + 1
  unfolding number_at
  stamp_with unspent =
      ap (big_number 8) (drop_at (put_at (block_of sector) offset from) (number_bytes (stamp_of sector + 1) ++ drop STAMPED_LENGTH sector) 256 long_put)
      ∙ reads_back (stamp_of sector + 1) (drop STAMPED_LENGTH sector) unspent

  -- it is as long as it was
  pub length_with : 264 ≤ length sector → length (sector_with offset from sector) ≡ length sector
  length_with longer =
      omega (arith, long_put, length-append (put_at (block_of sector) offset from) (number_bytes (stamp_of sector + 1) ++ drop STAMPED_LENGTH sector), length-append (number_bytes (stamp_of sector + 1)) (drop STAMPED_LENGTH sector), length-number (stamp_of sector + 1), length-drop STAMPED_LENGTH sector)

module _ (name : MachineName) (sector : List ℕ) (long : NAMED_LENGTH ≤ length sector) where
  abbrev behind : List ℕ
  behind = name.bytes ++ drop NAMED_LENGTH sector

  same_block : length (block_of sector) ≡ 256
  same_block = length-take-le 256 sector (omega arith)

  -- a name leaves the block
  pub block_naming : block_of (sector_naming name sector) ≡ block_of sector
  block_naming = take_at (block_of sector) (number_bytes (stamp_of sector + 1) ++ behind) 256 same_block

  from_stamp : drop 256 (sector_naming name sector) ≡ number_bytes (stamp_of sector + 1) ++ behind
  from_stamp = drop_at (block_of sector) (number_bytes (stamp_of sector + 1) ++ behind) 256 same_block

  -- it has the next stamp
  pub stamp_naming : stamp_of sector + 1 < 2 ^ 64 → stamp_of (sector_naming name sector) ≡ stamp_of sector + 1
  unfolding number_at
  stamp_naming unspent = ap (big_number 8) from_stamp ∙ reads_back (stamp_of sector + 1) behind unspent

  -- it is there
  pub name_naming : length name.bytes ≡ NAME_LENGTH → name_of (sector_naming name sector) ≡ name
  name_naming many =
      let there = sym (drop-drop 8 256 (sector_naming name sector)) ∙ ap (drop 8) from_stamp ∙ drop_at (number_bytes (stamp_of sector + 1)) behind 8 (length-number (stamp_of sector + 1)) in
      let bytes = ap (take 16) there ∙ take_at name.bytes (drop NAMED_LENGTH sector) 16 many in
      λ i. record { bytes = bytes i }

-- what stood in a range is put there again
front : (items : List ℕ) (n k : ℕ) → n ≡ length (take k items) → take k items ≡ take n items
front items n k many =
    sym (take_min k items) ∙ ap (λ (m : ℕ). take m items) (sym (length-take k items) ∙ sym many)

rejoined : (items : List ℕ) (n k : ℕ) → n ≡ length (take k items) → take k items ++ drop n items ≡ items
rejoined items n k many =
    ap (λ (l : List ℕ). l ++ drop n items) (front items n k many) ∙ take-append-drop n items

put_back : (old : List ℕ) (offset n k : ℕ) → n ≡ length (take k (drop offset old)) → put_at old offset (take k (drop offset old)) ≡ old
put_back old offset n k many =
    ap (λ (m : ℕ). (take offset old ++ take k (drop offset old)) ++ drop (offset + m) old) (sym many)
    ∙ append_assoc (take offset old) (take k (drop offset old)) (drop (offset + n) old)
    ∙ ap (λ (l : List ℕ). take offset old ++ (take k (drop offset old) ++ l)) (sym (drop-drop n offset old))
    ∙ ap (λ (l : List ℕ). take offset old ++ l) (rejoined (drop offset old) n k many)
    ∙ take-append-drop offset old

-- what is left of a write that failed
pub is_torn : (old from left : List ℕ) (offset : ℕ) → offset + length from ≤ 256 → 256 ≤ length old → (left ≡ old) ⊎ (left ≡ sector_with offset from old) → (some : List ℕ) × (length some ≡ length from) × (block_of left ≡ put_at (block_of old) offset some)
is_torn old from left offset within long (inr written) = (from, refl, ap block_of written ∙ block_with old from offset within long)
is_torn old from left offset within long (inl kept) =
    let block = block_of old in
    let size : length block ≡ 256 = length-take-le 256 old long in (
      take (length from) (drop offset block),
      length-take-le (length from) (drop offset block) (omega (arith, size, length-drop offset block)),
      ap block_of kept ∙ sym (put_back block offset (length (take (length from) (drop offset block))) (length from) refl),
    )

-- what is left of a write each of whose bytes is as it was or as it was to be
module _ (old from left : List ℕ) (offset : ℕ) (within : offset + length from ≤ 256) (long : 256 ≤ length old) (as_long : length left ≡ length old) (mixed : (k : ℕ) → (slice_index left k ≡ slice_index old k) ⊎ (slice_index left k ≡ slice_index (sector_with offset from old) k)) where
  abbrev some : List ℕ
  some = part offset (length from) (block_of left)

  size_old : length (block_of old) ≡ 256
  size_old = length-take-le 256 old long

  size_left : length (block_of left) ≡ 256
  size_left = length-take-le 256 left (omega (arith, as_long, long))

  size_some : length some ≡ length from
  size_some = length-part offset (length from) (block_of left) (omega (arith, size_left, within))

  room_from : offset + length from ≤ length (block_of old)
  room_from = omega (arith, size_old, within)

  room_some : offset + length some ≤ length (block_of old)
  room_some = omega (arith, size_some, room_from)

  outside : (k : ℕ) → k < 256 → get_or (put_at (block_of old) offset from) k 0 ≡ get_or (block_of old) k 0 → get_or (block_of left) k 0 ≡ get_or (block_of old) k 0
  outside k below same =
      get_or-take 256 left k 0 below
      ∙ elim (mixed k) [
        | inl kept ↦ kept
        | inr written ↦
            written
            ∙ sym (get_or-take 256 (sector_with offset from old) k 0 below)
            ∙ ap (λ (l : List ℕ). get_or l k 0) (block_with old from offset within long)
            ∙ same
            ∙ get_or-take 256 old k 0 below
      ]
      ∙ sym (get_or-take 256 old k 0 below)

  same_item : (k : ℕ) → k < 256 → get_or (block_of left) k 0 ≡ get_or (put_at (block_of old) offset some) k 0
  same_item k below =
      elim (cases_lt k offset) [
        | inl before ↦ outside k below (put-below (block_of old) offset from room_from 0 k before) ∙ sym (put-below (block_of old) offset some room_some 0 k before)
        | inr from_there ↦
            elim (cases_lt k (offset + length from)) [
              | inl inside ↦
                  (let j = k - offset in
                  let e : offset + j ≡ k = omega arith in
                  ap (λ (i : ℕ). get_or (block_of left) i 0) (sym e)
                  ∙ sym (get_or-part offset (length from) (block_of left) j (omega arith))
                  ∙ sym (put-inside (block_of old) offset some room_some 0 j (omega (arith, size_some)))
                  ∙ ap (λ (i : ℕ). get_or (put_at (block_of old) offset some) i 0) e)
              | inr behind ↦
                  outside k below (put-above (block_of old) offset from room_from 0 k behind)
                  ∙ sym (put-above (block_of old) offset some room_some 0 k (omega (arith, size_some, behind)))
            ]
      ]

  pub is_mixed : (some : List ℕ) × (length some ≡ length from) × (block_of left ≡ put_at (block_of old) offset some)
  is_mixed = (
    some,
    size_some,
    ext_get_or 0 _ _ (size_left ∙ sym (length-put (block_of old) offset some room_some 0 ∙ size_old)) (λ k inside. same_item k (omega (arith, size_left, inside))),
  )
