-- What stands in a part of a list, where items are put into it or elsewhere.
use Rattle.std.specs.Prelude.{◌≡◌, ◌⊎◌, ◌+◌, ◌-◌, ◌≤◌, ◌<◌, ℕ, List, length, take, drop}
use Rattle.std.proofs.Common.{sym, ◌∙◌, ap, arith, inl, inr, get_or, length-drop}
use Rattle.std.proofs.lemmas.List.{length-take-le, get_or-take, get_or-drop, ext_get_or, take-take}
use Rattle.std.proofs.lemmas.Bool.{cases_lt}
use Rattle.disk.specs.Disk.{put_at}
use Rattle.disk.proofs.CrashLemmas.{length-put, put-below, put-inside, put-above}

-- the n items from a place on
abbrev pub part : ℕ → ℕ → List ℕ → List ℕ
part place n items = take n (drop place items)

-- as a range that ends at a sum
pub part_is : (place n : ℕ) (items : List ℕ) → take ((place + n) - place) (drop place items) ≡ part place n items
part_is place n items = let e : (place + n) - place ≡ n = omega arith in ap (λ (k : ℕ). take k (drop place items)) e

pub length-part : (place n : ℕ) (items : List ℕ) → place + n ≤ length items → length (part place n items) ≡ n
length-part place n items fits = length-take-le n (drop place items) (omega (arith, length-drop place items))

pub get_or-part : (place n : ℕ) (items : List ℕ) (k : ℕ) → k < n → get_or (part place n items) k 0 ≡ get_or items (place + k) 0
get_or-part place n items k below = get_or-take n (drop place items) k 0 below ∙ get_or-drop place items k 0

-- the first items of a part are a shorter part
pub front_of : (place n m : ℕ) (items : List ℕ) → m ≤ n → take m (part place n items) ≡ part place m items
front_of place n m items less = take-take m n (drop place items) less

module _ (old items : List ℕ) (at : ℕ) (within : at + length items ≤ length old) where
  pub length_kept : length (put_at old at items) ≡ length old
  length_kept = length-put old at items within 0

  -- a part apart from them is as it was
  pub part_elsewhere : (place n : ℕ) → place + n ≤ length old → (at + length items ≤ place) ⊎ (place + n ≤ at) → part place n (put_at old at items) ≡ part place n old
  part_elsewhere place n fits apart =
      let long = length-part place n (put_at old at items) (omega (arith, length_kept)) in
      ext_get_or 0 _ _ (long ∙ sym (length-part place n old fits)) (λ k inside.
      let below : k < n = omega (arith, long) in
      get_or-part place n (put_at old at items) k below
      ∙ elim apart [
        | inl before ↦ put-above old at items within 0 (place + k) (omega arith)
        | inr behind ↦ put-below old at items within 0 (place + k) (omega arith)
      ]
      ∙ sym (get_or-part place n old k below))

  -- the part that they are
  pub part_there : (n : ℕ) → length items ≡ n → part at n (put_at old at items) ≡ items
  part_there n many =
      let long = length-part at n (put_at old at items) (omega (arith, length_kept)) in
      ext_get_or 0 _ _ (long ∙ sym many) (λ k inside.
      get_or-part at n (put_at old at items) k (omega (arith, long))
      ∙ put-inside old at items within 0 k (omega (arith, long)))

-- a part that they lie in has them at the same distance from its start
module _ (old items : List ℕ) (place n offset : ℕ) (fits : place + n ≤ length old) (within : offset + length items ≤ n) where
  inside_all : place + offset + length items ≤ length old
  inside_all = omega (arith, fits, within)

  inside_part : offset + length items ≤ length (part place n old)
  inside_part = omega (arith, length-part place n old fits)

  same_item : (k : ℕ) → k < n → get_or (put_at old (place + offset) items) (place + k) 0 ≡ get_or (put_at (part place n old) offset items) k 0
  same_item k below =
      elim (cases_lt k offset) [
        | inl before ↦
            put-below old (place + offset) items inside_all 0 (place + k) (omega arith)
            ∙ sym (get_or-part place n old k below)
            ∙ sym (put-below (part place n old) offset items inside_part 0 k before)
        | inr from_there ↦
            elim (cases_lt k (offset + length items)) [
              | inl inside ↦
                  (let j = k - offset in
                  let a : place + k ≡ place + offset + j = omega arith in
                  let b : offset + j ≡ k = omega arith in
                  ap (λ (i : ℕ). get_or (put_at old (place + offset) items) i 0) a
                  ∙ put-inside old (place + offset) items inside_all 0 j (omega arith)
                  ∙ sym (put-inside (part place n old) offset items inside_part 0 j (omega arith))
                  ∙ ap (λ (i : ℕ). get_or (put_at (part place n old) offset items) i 0) b)
              | inr behind ↦
                  put-above old (place + offset) items inside_all 0 (place + k) (omega arith)
                  ∙ sym (get_or-part place n old k below)
                  ∙ sym (put-above (part place n old) offset items inside_part 0 k behind)
            ]
      ]

  pub part_around : part place n (put_at old (place + offset) items) ≡ put_at (part place n old) offset items
  part_around =
      let new = put_at old (place + offset) items in
      let long = length-part place n new (omega (arith, length-put old (place + offset) items inside_all 0)) in
      ext_get_or 0 _ _ (long ∙ sym (length-put (part place n old) offset items inside_part 0 ∙ length-part place n old fits)) (λ k inside.
      let below : k < n = omega (arith, long) in
      get_or-part place n new k below ∙ same_item k below)
