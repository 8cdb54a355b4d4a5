-- What an area shows, byte by byte, and what calls leave of it.
use Rattle.std.specs.Prelude.{◌⊎◌, ◌-◌, ◌%◌, map, replicate, slice_range}
use Rattle.std.specs.List.{range_with_len}
use Rattle.std.proofs.Common.{ℕ, ◌≡◌, ◌+◌, ◌≤◌, ◌<◌, Bool, true, false, true≢false, cond, List, length, take, drop, get_or, refl, sym, ◌∙◌, ap, inl, inr, arith, length-drop}
use Rattle.std.proofs.lemmas.Bool.{cases_lt}
use Rattle.std.proofs.lemmas.List.{ext_get_or, get_or-take, get_or-drop, get_or-replicate, get_or_past, length-replicate, length-take-le}
use Rattle.std.proofs.lemmas.List.FromFn.{length-map-range_with_len, get_or-map-range_with_len}
use Rattle.disk.specs.Disk.{DiskState, Crashes, put_at, written, synced}
use Rattle.disk.specs.Steps.{HasShape}
use Rattle.disk.proofs.CrashLemmas.{put-below, put-inside, put-above}
use Rattle.disk.proofs.StepLemmas.{shape_written}
use Rattle.epochs.specs.Showing.{host_at, Standing, Before, Inside, After, ShowsEpoch, masked, IsRight}

-- LISTS

abbrev part : ℕ → ℕ → List ℕ → List ℕ
part place n items = take n (drop place items)

pub part_is : (place n : ℕ) (items : List ℕ) → slice_range items place (place + n) ≡ part place n items
part_is place n items = let e : (place + n) - place ≡ n = omega arith in ap (λ (k : ℕ). take k (drop place items)) e

pub length-part : (place n : ℕ) (items : List ℕ) → place + n ≤ length items → length (part place n items) ≡ n
length-part place n items fits = length-take-le n (drop place items) (omega (arith, length-drop place items))

get_or-part : (place n : ℕ) (items : List ℕ) (k : ℕ) → k < n → get_or (part place n items) k 0 ≡ get_or items (place + k) 0
get_or-part place n items k below = get_or-take n (drop place items) k 0 below ∙ get_or-drop place items k 0

-- what is put at one place in both is the same there
same_put : {X : Type 0} (d : X) (old whole items : List X) (base at p : ℕ) → at + length items ≤ length old → base + at + length items ≤ length whole → get_or old p d ≡ get_or whole (base + p) d
    → get_or (put_at old at items) p d ≡ get_or (put_at whole (base + at) items) (base + p) d
same_put {X} d old whole items base at p fits room same =
    elim (cases_lt p at) [
      | inl before ↦ put-below old at items fits d p before ∙ same ∙ sym (put-below whole (base + at) items room d (base + p) (omega (arith, before)))
      | inr from_there ↦
          elim (cases_lt p (at + length items)) [
            | inl inside ↦
                (let j = p - at in
                let a : at + j ≡ p = omega (arith, from_there) in
                let b : base + at + j ≡ base + p = omega (arith, from_there) in
                let below : j < length items = omega (arith, from_there, inside) in
                ap (λ (i : ℕ). get_or (put_at old at items) i d) (sym a)
                ∙ put-inside old at items fits d j below
                ∙ sym (put-inside whole (base + at) items room d j below)
                ∙ ap (λ (i : ℕ). get_or (put_at whole (base + at) items) i d) b)
            | inr behind ↦
                put-above old at items fits d p behind ∙ same ∙ sym (put-above whole (base + at) items room d (base + p) (omega (arith, behind)))
          ]
    ]

-- where it is not marked there, it is not marked here
same_flag : (old whole : List Bool) (base at n p : ℕ) → at + n ≤ length old → base + at + n ≤ length whole → (get_or old p false ≡ false → get_or whole (base + p) false ≡ false)
    → get_or (put_at old at (replicate n true)) p false ≡ false → get_or (put_at whole (base + at) (replicate n true)) (base + p) false ≡ false
same_flag old whole base at n p fits room same is =
    let many : length (replicate n true) ≡ n = length-replicate n true in
    let fits_put : at + length (replicate n true) ≤ length old = omega (arith, fits, many) in
    let room_put : base + at + length (replicate n true) ≤ length whole = omega (arith, room, many) in
    elim (cases_lt p at) [
      | inl before ↦
          put-below whole (base + at) (replicate n true) room_put false (base + p) (omega (arith, before))
          ∙ same (sym (put-below old at (replicate n true) fits_put false p before) ∙ is)
      | inr from_there ↦
          elim (cases_lt p (at + n)) [
            | inl inside ↦
                (let j = p - at in
                let a : at + j ≡ p = omega (arith, from_there) in
                let below : j < n = omega (arith, from_there, inside) in
                absurd (true≢false (sym (get_or-replicate n j true false below) ∙ sym (put-inside old at (replicate n true) fits_put false j (omega (arith, below, many))) ∙ ap (λ (i : ℕ). get_or (put_at old at (replicate n true)) i false) a ∙ is)))
            | inr behind ↦
                put-above whole (base + at) (replicate n true) room_put false (base + p) (omega (arith, behind, many))
                ∙ same (sym (put-above old at (replicate n true) fits_put false p (omega (arith, behind, many))) ∙ is)
          ]
    ]

-- apart from what is put a list is as it was
other_put : {X : Type 0} (d : X) (old items : List X) (at p : ℕ) → at + length items ≤ length old → (p < at) ⊎ (at + length items ≤ p) → get_or (put_at old at items) p d ≡ get_or old p d
other_put d old items at p fits (inl before) = put-below old at items fits d p before
other_put d old items at p fits (inr behind) = put-above old at items fits d p behind

module _ (n base : ℕ) (of : ℕ → Standing) (whole image : DiskState) (shows : ShowsEpoch n base of whole image) where
  -- WRITES

  module _ (at : ℕ) (from : List ℕ) (behind : 4096 ≤ at) (ends : at + length from ≤ n) (own : (p : ℕ) → at ≤ p → p < at + length from → of (host_at p) ≡ Inside) where
    abbrev flags : List Bool
    flags = replicate (length from) true

    many : length flags ≡ length from
    many = length-replicate (length from) true

    fits : at + length from ≤ length image.bytes
    fits = omega (arith, ends, shows.shape.1)

    room : base + at + length from ≤ length whole.bytes
    room = omega (arith, ends, shows.room)

    flags_fit : at + length flags ≤ length image.unsynced
    flags_fit = omega (arith, fits, many, shows.shape.0)

    flags_room : base + at + length flags ≤ length whole.unsynced
    flags_room = omega (arith, room, many, shows.marked)

    -- nothing is put where no host is inside
    apart : (p : ℕ) → (p < 4096) ⊎ (of (host_at p) ≡ Before) → (p < at) ⊎ (at + length from ≤ p)
    apart p none =
        elim (cases_lt p at) [
          | inl before ↦ inl before
          | inr from_there ↦
              elim (cases_lt p (at + length from)) [
                | inl inside ↦
                    absurd (elim none [
                      | inl low ↦ omega (arith, low, behind, from_there)
                      | inr is ↦ (let clash : Inside ≡ Before = sym (own p from_there inside) ∙ is in absurd (cc))
                    ])
                | inr after ↦ inr after
              ]
        ]

    apart_flags : (p : ℕ) → (p < at) ⊎ (at + length from ≤ p) → (p < at) ⊎ (at + length flags ≤ p)
    apart_flags p (inl before) = inl before
    apart_flags p (inr after) = inr (omega (arith, after, many))

    shape_whole : HasShape (length whole.bytes) (written whole (base + at) from)
    shape_whole = shape_written (length whole.bytes) whole (base + at) from room (shows.marked, refl)

    pub own_written : ShowsEpoch n base of (written whole (base + at) from) (written image at from)
    own_written =
        record {
          room = omega (arith, shows.room, shape_whole.1);
          marked = shape_whole.0;
          shape = shape_written n image at from fits shows.shape;
          boot = shows.boot;
          gone = shows.gone;
          bytes = λ p high below is. same_put 0 image.bytes whole.bytes from base at p fits room (shows.bytes p high below is);
          flags = λ p high below is. same_flag image.unsynced whole.unsynced base at (length from) p (omega (arith, fits, shows.shape.0)) (omega (arith, room, shows.marked)) (shows.flags p high below is);
          blank = λ p below none. other_put 0 image.bytes from at p fits (apart p none) ∙ shows.blank p below none;
          still = λ p below none. other_put false image.unsynced flags at p flags_fit (apart_flags p (apart p none)) ∙ shows.still p below none;
        }

  -- elsewhere
  module _ (at : ℕ) (from : List ℕ) (fits : at + length from ≤ length whole.bytes) (off : (p : ℕ) → 4096 ≤ p → p < n → of (host_at p) ≡ Inside → (base + p < at) ⊎ (at + length from ≤ base + p)) where
    abbrev marks : List Bool
    marks = replicate (length from) true

    as_many : length marks ≡ length from
    as_many = length-replicate (length from) true

    off_marks : (p : ℕ) → (p < at) ⊎ (at + length from ≤ p) → (p < at) ⊎ (at + length marks ≤ p)
    off_marks p (inl before) = inl before
    off_marks p (inr after) = inr (omega (arith, after, as_many))

    shape_new : HasShape (length whole.bytes) (written whole at from)
    shape_new = shape_written (length whole.bytes) whole at from fits (shows.marked, refl)

    pub others_written : ShowsEpoch n base of (written whole at from) image
    others_written =
        record {
          room = omega (arith, shows.room, shape_new.1);
          marked = shape_new.0;
          shape = shows.shape;
          boot = shows.boot;
          gone = shows.gone;
          bytes = λ p high below is. shows.bytes p high below is ∙ sym (other_put 0 whole.bytes from at (base + p) fits (off p high below is));
          flags =
              λ p high below is flag.
              other_put false whole.unsynced marks at (base + p) (omega (arith, fits, as_many, shows.marked)) (off_marks (base + p) (off p high below is))
              ∙ shows.flags p high below is flag;
          blank = shows.blank;
          still = shows.still;
        }

  -- SYNCS

  no_flag : (size p : ℕ) → p < size → get_or (replicate size false) p false ≡ false
  no_flag size p below = get_or-replicate size p false false below

  pub all_synced : ShowsEpoch n base of (synced whole) (synced image)
  all_synced =
      record {
        room = shows.room;
        marked = length-replicate (length whole.bytes) false;
        shape = (length-replicate (length image.bytes) false, shows.shape.1);
        boot = shows.boot;
        gone = shows.gone;
        bytes = shows.bytes;
        flags =
            λ p high below is flag. no_flag (length whole.bytes) (base + p) (omega (arith, below, shows.room));
        blank = shows.blank;
        still = λ p below none. no_flag (length image.bytes) p (omega (arith, below, shows.shape.1));
      }

  -- a sync for another epoch
  pub synced_beside : ShowsEpoch n base of (synced whole) image
  synced_beside =
      record {
        room = shows.room;
        marked = length-replicate (length whole.bytes) false;
        shape = shows.shape;
        boot = shows.boot;
        gone = shows.gone;
        bytes = shows.bytes;
        flags = λ p high below is flag. no_flag (length whole.bytes) (base + p) (omega (arith, below, shows.room));
        blank = shows.blank;
        still = shows.still;
      }

  -- CRASHES

  module _ (new : DiskState) (crash : Crashes whole new) where
    pick : (p : ℕ) → (p < 4096) ⊎ (4096 ≤ p) → Standing → ℕ
    pick p (inl low) s = get_or image.bytes p 0
    pick p (inr high) Inside = get_or new.bytes (base + p) 0
    pick p (inr high) Before = get_or image.bytes p 0
    pick p (inr high) After = get_or image.bytes p 0

    byte_at : ℕ → ℕ
    byte_at p = pick p (cases_lt p 4096) (of (host_at p))

    abbrev bytes_left : List ℕ
    bytes_left = map byte_at (range_with_len 0 n)

    size : length bytes_left ≡ n
    size = length-map-range_with_len byte_at 0 n

    left_at : (p : ℕ) → p < n → get_or bytes_left p 0 ≡ byte_at p
    left_at p below = get_or-map-range_with_len byte_at 0 n p p 0 below (omega arith)

    picked : (p : ℕ) (low : (p < 4096) ⊎ (4096 ≤ p)) (s : Standing) → 4096 ≤ p → s ≡ Inside → pick p low s ≡ get_or new.bytes (base + p) 0
    unfolding pick
    picked p (inl low) s high is = absurd (omega (arith, low, high))
    picked p (inr more) Inside high is = refl
    picked p (inr more) Before high is = absurd (cc)
    picked p (inr more) After high is = absurd (cc)

    stays : (p : ℕ) (low : (p < 4096) ⊎ (4096 ≤ p)) (s : Standing) → (p < 4096) ⊎ (s ≡ Before) → pick p low s ≡ get_or image.bytes p 0
    unfolding pick
    stays p (inl low) s none = refl
    stays p (inr more) Inside (inl low) = absurd (omega (arith, low, more))
    stays p (inr more) Inside (inr is) = absurd (cc)
    stays p (inr more) Before none = refl
    stays p (inr more) After none = refl

    kept_in : (p : ℕ) → p < n → get_or image.unsynced p false ≡ false → (low : (p < 4096) ⊎ (4096 ≤ p)) (s : Standing) → of (host_at p) ≡ s → pick p low s ≡ get_or image.bytes p 0
    unfolding pick
    kept_in p below flag (inl low) s is = refl
    kept_in p below flag (inr high) Inside is = crash.bytes.same (base + p) (shows.flags p high below is flag) ∙ sym (shows.bytes p high below is)
    kept_in p below flag (inr high) Before is = refl
    kept_in p below flag (inr high) After is = refl

    kept : (p : ℕ) → get_or image.unsynced p false ≡ false → get_or bytes_left p 0 ≡ get_or image.bytes p 0
    unfolding byte_at
    kept p flag =
        elim (cases_lt p n) [
          | inl below ↦ left_at p below ∙ kept_in p below flag (cases_lt p 4096) (of (host_at p)) refl
          | inr beyond ↦ get_or_past bytes_left p 0 (omega (arith, size, beyond)) ∙ sym (get_or_past image.bytes p 0 (omega (arith, shows.shape.1, beyond)))
        ]

    pub image_left : DiskState
    image_left = record { bytes = bytes_left; unsynced = replicate (length image.bytes) false; boot = image.boot + 1; gone = image.gone }

    pub image_crashes : Crashes image image_left
    unfolding image_left
    image_crashes =
        record { bytes = record { as_many = size ∙ sym shows.shape.1; same = kept }; unsynced = refl; boot = refl; gone = refl }

    new_size : length new.bytes ≡ length whole.bytes
    new_size = crash.bytes.as_many

    new_flags : length new.unsynced ≡ length whole.bytes
    new_flags = ap (λ (l : List Bool). length l) crash.unsynced ∙ length-replicate (length whole.bytes) false

    pub shows_left : ShowsEpoch n base of new image_left
    unfolding byte_at image_left
    shows_left =
        record {
          room = omega (arith, shows.room, new_size);
          marked = new_flags ∙ sym new_size;
          shape = (length-replicate (length image.bytes) false ∙ shows.shape.1 ∙ sym size, size);
          boot = ap (λ (b : ℕ). b + 1) shows.boot ∙ sym crash.boot;
          gone = shows.gone ∙ sym crash.gone;
          bytes = λ p high below is. left_at p below ∙ picked p (cases_lt p 4096) (of (host_at p)) high is;
          flags =
              λ p high below is flag. ap (λ (l : List Bool). get_or l (base + p) false) crash.unsynced ∙ no_flag (length whole.bytes) (base + p) (omega (arith, below, shows.room));
          blank = λ p below none. left_at p below ∙ stays p (cases_lt p 4096) (of (host_at p)) none ∙ shows.blank p below none;
          still = λ p below none. no_flag (length image.bytes) p (omega (arith, below, shows.shape.1));
        }

  -- READS

  module _ (shown : ℕ → Bool) (at len : ℕ) (aligned : at % 4096 ≡ 0) (ends : at + len ≤ n) (right : IsRight base at len shown whole image) where
    abbrev row : List ℕ
    row = part (base + at) len whole.bytes

    row_long : length row ≡ len
    row_long = length-part (base + at) len whole.bytes (omega (arith, ends, shows.room))

    shown_at : ℕ → ℕ
    shown_at o = cond (shown (host_at o)) (get_or row o 0) 0

    right_at : (k : ℕ) → k < len → shown_at k ≡ get_or image.bytes (at + k) 0
    unfolding shown_at
    right_at k below =
        let same : host_at (at + k) ≡ host_at k = omega (arith, aligned) in
        let sum : base + at + k ≡ base + (at + k) = omega arith in
        elim (right (host_at k)) [
          | inl is ↦
              ap (λ (b : Bool). cond b (get_or row k 0) 0) is.0
              ∙ get_or-part (base + at) len whole.bytes k below
              ∙ ap (λ (i : ℕ). get_or whole.bytes i 0) sum
              ∙ sym (is.1 (at + k) (omega arith) (omega (arith, below)) same)
          | inr is ↦ ap (λ (b : Bool). cond b (get_or row k 0) 0) is.0 ∙ sym (is.1 (at + k) (omega arith) (omega (arith, below)) same)
        ]

    masked_long : length (masked shown row) ≡ len
    unfolding masked shown_at
    masked_long = length-map-range_with_len shown_at 0 (length row) ∙ row_long

    masked_at : (k : ℕ) → k < len → get_or (masked shown row) k 0 ≡ shown_at k
    unfolding masked shown_at
    masked_at k below = get_or-map-range_with_len (λ o. cond (shown (host_at o)) (get_or row o 0) 0) 0 (length row) k k 0 (omega (arith, below, row_long)) (omega arith)

    pub masked_is : masked shown (slice_range whole.bytes (base + at) (base + at + len)) ≡ slice_range image.bytes at (at + len)
    masked_is =
        ap (masked shown) (part_is (base + at) len whole.bytes)
        ∙ ext_get_or 0 _ _ (masked_long ∙ sym (length-part at len image.bytes (omega (arith, ends, shows.shape.1)))) (λ k inside.
        let below : k < len = omega (arith, masked_long, inside) in
        masked_at k below ∙ right_at k below ∙ sym (get_or-part at len image.bytes k below))
        ∙ sym (part_is at len image.bytes)
