-- What a write to one copy of a block leaves alone, and what a tail reads as.
use Rattle.std.specs.Prelude.{◌≡◌, ◌⊎◌, ◌+◌, ◌-◌, ◌≤◌, ◌<◌, ◌^◌, ◌++◌, ℕ, List, [], ◌∷◌, length, take, drop, slice_index, slice_range}
use Rattle.std.proofs.Common.{refl, sym, ◌∙◌, ap, arith, inl, inr, get_or, length-append, length-drop, append_assoc, suc, zero}
use Rattle.std.proofs.lemmas.List.{length-take-le, get_or-take, get_or-drop, take_at, drop_at, ext_get_or, take-append-drop}
use Rattle.std.proofs.lemmas.Bool.{cases_lt}
use Rattle.byteorder.specs.Endian.{big_number}
use Rattle.byteorder.specs.Numbers.{big_number-reads_back, length-bytes_high_first}
use Rattle.disk.specs.Crash.{ChangesOnly}
use Rattle.torn_block.specs.Layout.{Version, block_length, body_length, copy_length, tail_length}
use Rattle.torn_block.proofs.LayoutLaws.{long_copy}
use Rattle.torn_block.specs.declared.block.Half.{Half}
use Rattle.torn_block.specs.declared.block.Half.TheVariants.{First, Second}
use Rattle.torn_block.specs.Block.{other, sequence_of, body_of, tail_with, number_bytes}
use Rattle.torn_block.specs.Place.{block_in, copy_in, offset_of}

pub length-block_in : (v : Version) → (place : ℕ) (bytes : List ℕ) → place + block_length v ≤ length bytes → length (block_in v place bytes) ≡ block_length v
length-block_in v place bytes within =
    let n : (place + block_length v) - place ≡ block_length v = omega arith in
    ap (λ (k : ℕ). length (take k (drop place bytes))) n ∙ length-take-le (block_length v) (drop place bytes) (omega (arith, length-drop place bytes))

get_or-block_in : (v : Version) → (place : ℕ) (bytes : List ℕ) (k : ℕ) → k < block_length v → get_or (block_in v place bytes) k 0 ≡ get_or bytes (place + k) 0
get_or-block_in v place bytes k within = get_or-take _ (drop place bytes) k 0 (omega arith) ∙ get_or-drop place bytes k 0

pub length-copy_in : (v : Version) → (half : Half) (place : ℕ) (bytes : List ℕ) → place + block_length v ≤ length bytes → length (copy_in v half place bytes) ≡ copy_length v
unfolding copy_in
length-copy_in v First place bytes within = length-take-le (copy_length v) (block_in v place bytes) (omega (arith, length-block_in v place bytes within))
length-copy_in v Second place bytes within = omega (arith, length-drop (copy_length v) (block_in v place bytes), length-block_in v place bytes within)

pub get_or-copy_in : (v : Version) → (half : Half) (place : ℕ) (bytes : List ℕ) (k : ℕ) → k < copy_length v → get_or (copy_in v half place bytes) k 0 ≡ get_or bytes (place + offset_of v half + k) 0
unfolding copy_in
get_or-copy_in v First place bytes k within =
    let e : place + k ≡ place + 0 + k = omega arith in
    get_or-take (copy_length v) (block_in v place bytes) k 0 within ∙ get_or-block_in v place bytes k (omega arith) ∙ ap (λ (j : ℕ). get_or bytes j 0) e
get_or-copy_in v Second place bytes k within =
    let e : place + (copy_length v + k) ≡ place + copy_length v + k = omega arith in
    get_or-drop (copy_length v) (block_in v place bytes) k 0 ∙ get_or-block_in v place bytes (copy_length v + k) (omega arith) ∙ ap (λ (j : ℕ). get_or bytes j 0) e

pub offset_fits : (v : Version) → (half : Half) → offset_of v half + copy_length v ≤ block_length v
offset_fits v First = omega arith
offset_fits v Second = omega arith

module _ (v : Version) (half : Half) (place at n : ℕ) (old new : List ℕ) (room : place + block_length v ≤ length old) (changes : ChangesOnly at n old new) where
  same_at : (other_half : Half) (k : ℕ) → k < copy_length v → (place + offset_of v other_half + k < at) ⊎ (at + n ≤ place + offset_of v other_half + k) → get_or (copy_in v other_half place new) k 0 ≡ get_or (copy_in v other_half place old) k 0
  same_at h k within (inl below) = get_or-copy_in v h place new k within ∙ changes.below _ below ∙ sym (get_or-copy_in v h place old k within)
  same_at h k within (inr above) = get_or-copy_in v h place new k within ∙ changes.above _ above ∙ sym (get_or-copy_in v h place old k within)

  room' : place + block_length v ≤ length new
  room' = omega (arith, changes.as_many)

  copy_same : (h : Half) → ((k : ℕ) → k < copy_length v → (place + offset_of v h + k < at) ⊎ (at + n ≤ place + offset_of v h + k)) → copy_in v h place new ≡ copy_in v h place old
  copy_same h outside =
      ext_get_or 0 _ _ (length-copy_in v h place new room' ∙ sym (length-copy_in v h place old room)) (λ k within. let w : k < copy_length v = omega (arith, length-copy_in v h place new room') in same_at h k w (outside k w))

  other_same_at : (h : Half) → place + offset_of v h ≤ at → at + n ≤ place + offset_of v h + copy_length v → h ≡ half → copy_in v (other h) place new ≡ copy_in v (other h) place old
  other_same_at First from to is = copy_same Second (λ k within. inr (omega arith))
  other_same_at Second from to is = copy_same First (λ k within. inl (omega arith))

  -- a write into one copy leaves the other
  pub other_same : place + offset_of v half ≤ at → at + n ≤ place + offset_of v half + copy_length v → copy_in v (other half) place new ≡ copy_in v (other half) place old
  other_same from to = other_same_at half from to refl

  -- a write of nothing leaves both copies
  pub nothing_same : (h : Half) → n ≡ 0 → copy_in v h place new ≡ copy_in v h place old
  nothing_same h none =
      copy_same h (λ k within. elim (cases_lt (place + offset_of v h + k) at) [ inl below ↦ inl below | inr above ↦ inr (omega arith) ])

  -- a write of the gate leaves the rest of the copy
  pub tail_same : at ≡ place + offset_of v half → n ≤ 1 → drop 1 (copy_in v half place new) ≡ drop 1 (copy_in v half place old)
  tail_same is one =
      let a = length-copy_in v half place new room' in
      let b = length-copy_in v half place old room in
      ext_get_or 0 _ _ (length-drop 1 (copy_in v half place new) ∙ ap (λ (k : ℕ). k - 1) (a ∙ sym b) ∙ sym (length-drop 1 (copy_in v half place old))) (λ k within.
      get_or-drop 1 (copy_in v half place new) k 0
      ∙ same_at half (1 + k) (omega (arith, length-drop 1 (copy_in v half place new), a)) (inr (omega arith))
      ∙ sym (get_or-drop 1 (copy_in v half place old) k 0))

  -- a write behind the gate leaves the gate
  pub gate_same : at ≡ place + offset_of v half + 1 → slice_index (copy_in v half place new) 0 ≡ slice_index (copy_in v half place old) 0
  gate_same is = same_at half 0 (omega (arith, long_copy v)) (inl (omega arith))

  -- a write elsewhere leaves both copies
  pub elsewhere_same : (h : Half) → (at + n ≤ place) ⊎ (place + block_length v ≤ at) → copy_in v h place new ≡ copy_in v h place old
  elsewhere_same h (inl below) = copy_same h (λ k within. inr (omega arith))
  elsewhere_same h (inr above) = copy_same h (λ k within. inl (omega (arith, offset_fits v h)))

-- a write elsewhere leaves the whole block
pub block_elsewhere : (v : Version) → (place at n : ℕ) (old new : List ℕ) → place + block_length v ≤ length old → ChangesOnly at n old new → (at + n ≤ place) ⊎ (place + block_length v ≤ at) → block_in v place new ≡ block_in v place old
block_elsewhere v place at n old new room changes outside =
    let room' : place + block_length v ≤ length new = omega (arith, changes.as_many) in
    let long = length-block_in v place new room' in
    ext_get_or 0 _ _ (long ∙ sym (length-block_in v place old room)) (λ k within.
    get_or-block_in v place new k (omega (arith, long))
    ∙ elim outside [
      | inl below ↦ changes.above (place + k) (omega arith)
      | inr above ↦ changes.below (place + k) (omega (arith, long))
    ]
    ∙ sym (get_or-block_in v place old k (omega (arith, long))))

-- a block among bytes that were read from a place on is the block there
pub block_read : (v : Version) → (at q len : ℕ) (bytes : List ℕ) → q + block_length v ≤ len → at + len ≤ length bytes → block_in v q (slice_range bytes at (at + len)) ≡ block_in v (at + q) bytes
block_read v at q len bytes inside fits =
    let part = slice_range bytes at (at + len) in
    let n : (at + len) - at ≡ len = omega arith in
    let size : length part ≡ len = ap (λ (k : ℕ). length (take k (drop at bytes))) n ∙ length-take-le len (drop at bytes) (omega (arith, length-drop at bytes)) in
    let long = length-block_in v q part (omega (arith, size)) in
    ext_get_or 0 _ _ (long ∙ sym (length-block_in v (at + q) bytes (omega arith))) (λ k within.
    get_or-block_in v q part k (omega (arith, long))
    ∙ get_or-take ((at + len) - at) (drop at bytes) (q + k) 0 (omega (arith, long))
    ∙ get_or-drop at bytes (q + k) 0
    ∙ (let e : at + (q + k) ≡ at + q + k = omega arith in ap (λ (j : ℕ). get_or bytes j 0) e)
    ∙ sym (get_or-block_in v (at + q) bytes k (omega (arith, long))))

length-number : (n : ℕ) → length (number_bytes n) ≡ 8
unfolding number_bytes
length-number n = length-bytes_high_first 8 n

reads_back : (n : ℕ) (rest : List ℕ) → n < 2 ^ 64 → big_number 8 (number_bytes n ++ rest) ≡ n
unfolding number_bytes
reads_back n rest fits = big_number-reads_back 8 n rest fits

drop-nil : (n : ℕ) → ◌≡◌ {A = List ℕ} [] (drop n [])
drop-nil zero = refl
drop-nil (suc n) = refl

-- a copy's bytes behind the gate, by the tail
drop_tail : (n : ℕ) (copy : List ℕ) → drop (suc n) copy ≡ drop n (drop 1 copy)
drop_tail n [] = drop-nil n
drop_tail n (x ∷ copy) = refl

-- a tail reads as what was put into it
module _ (v : Version) (sequence : ℕ) (body : List ℕ) (long : length body ≡ body_length v) where
  front : length (take 7 body) ≡ 7
  front = length-take-le 7 body (omega (arith, long_copy v))

  pub length-tail_with : length (tail_with sequence body) ≡ tail_length v
  unfolding tail_with
  length-tail_with =
      omega (arith, long_copy v, front, length-number sequence, length-append (take 7 body ++ number_bytes sequence) (drop 7 body), length-append (take 7 body) (number_bytes sequence), length-drop 7 body)

  first_part : take 7 (tail_with sequence body) ≡ take 7 body
  unfolding tail_with
  first_part = ap (take 7) (append_assoc (take 7 body) (number_bytes sequence) (drop 7 body)) ∙ take_at (take 7 body) (number_bytes sequence ++ drop 7 body) 7 front

  number_part : drop 7 (tail_with sequence body) ≡ number_bytes sequence ++ drop 7 body
  unfolding tail_with
  number_part = ap (drop 7) (append_assoc (take 7 body) (number_bytes sequence) (drop 7 body)) ∙ drop_at (take 7 body) (number_bytes sequence ++ drop 7 body) 7 front

  last_part : drop 15 (tail_with sequence body) ≡ drop 7 body
  unfolding tail_with
  last_part = drop_at (take 7 body ++ number_bytes sequence) (drop 7 body) 15 (omega (arith, front, length-number sequence, length-append (take 7 body) (number_bytes sequence)))

  pub reads_sequence : (copy : List ℕ) → sequence < 2 ^ 64 → drop 1 copy ≡ tail_with sequence body → sequence_of copy ≡ sequence
  unfolding sequence_of
  reads_sequence copy fits holds =
      ap (big_number 8) (drop_tail 7 copy ∙ ap (drop 7) holds ∙ number_part) ∙ reads_back sequence (drop 7 body) fits

  pub reads_body : (copy : List ℕ) → drop 1 copy ≡ tail_with sequence body → body_of copy ≡ body
  unfolding body_of
  reads_body copy holds =
      ap (λ (l : List ℕ). take 7 l ++ drop 16 copy) holds
      ∙ ap (λ (l : List ℕ). l ++ drop 16 copy) first_part
      ∙ ap (λ (l : List ℕ). take 7 body ++ l) (drop_tail 15 copy ∙ ap (drop 15) holds ∙ last_part)
      ∙ take-append-drop 7 body
