-- A test that decides which copies are sound decides which blocks are damaged.
use Rattle.std.specs.Prelude.{◌≡◌, ◌==◌, ◌&&◌, ◌||◌, ◌^◌, ◌++◌, ℕ, Bool, true, false, not, nat_le, List, ◌∷◌, length, take, drop, slice_index}
use Rattle.std.proofs.Common.{sym, ap, ◌∙◌, arith, inl, inr, length-append, length-drop, append_assoc}
use Rattle.std.proofs.lemmas.List.{take_at, drop_at, drop-drop, take-append-drop, length-take-le, drop_more}
use Rattle.std.proofs.lemmas.Bool.{and_parts, and_from, leb-true, le-leb, eqb-true, eq-eqb, or_cases, or_parts, not-true, not-false, both_ways, cases_Bool, false_from_ne_true}
use Rattle.torn_block.specs.Layout.{Version, block_length, body_length, copy_length, tail_length}
use Rattle.torn_block.proofs.LayoutLaws.{long_copy}
use Rattle.torn_block.specs.declared.block.Half.{Half}
use Rattle.torn_block.specs.declared.block.Half.TheVariants.{First, Second}
use Rattle.torn_block.specs.Block.{is_open, sequence_of, body_of, tail_with, number_bytes, copy_of}
use Rattle.byteorder.specs.Numbers.{length-bytes_high_first}
use Rattle.std.proofs.lemmas.List.{length-take}
use Rattle.torn_block.specs.Numbers.{AreBytes}
use Rattle.torn_block.proofs.NumberLaws.{AreBytes-drop, AreBytes-take, spelled_8}
use Rattle.torn_block.specs.Damage.{first_of, second_of, IsSequence, IsSoundBlock, HasTwins, IsDamagedBlock, is_sequence, has_fault, has_twins, is_damaged_block}

pub is_sequence_tells : (number : ℕ) → is_sequence number ≡ true → IsSequence number
is_sequence_tells number t =
    let a = and_parts (nat_le 1 number) (nat_le number (2 ^ 62)) t in
    record { from_one = leb-true 1 number a.0; within = leb-true number (2 ^ 62) a.1 }

pub is_sequence_since : (number : ℕ) → IsSequence number → is_sequence number ≡ true
is_sequence_since number is =
    and_from (nat_le 1 number) (nat_le number (2 ^ 62)) (le-leb 1 number is.from_one) (le-leb number (2 ^ 62) is.within)

-- ---- an open copy is spelled by its sequence number and its body

module _ (v : Version) (copy : List ℕ) (long : length copy ≡ copy_length v) where
  front : length (take 7 (drop 1 copy)) ≡ 7
  front = length-take-le 7 (drop 1 copy) (omega (arith, long_copy v, length-drop 1 copy))

  pub length-body_of : length (body_of copy) ≡ body_length v
  unfolding body_of
  length-body_of = omega (arith, long_copy v, length-append (take 7 (drop 1 copy)) (drop 16 copy), length-drop 16 copy, front)

  number_stands : AreBytes copy → number_bytes (sequence_of copy) ≡ take 8 (drop 8 copy)
  unfolding sequence_of number_bytes
  number_stands fits = spelled_8 (drop 8 copy) (AreBytes-drop 8 copy fits) (omega (arith, long_copy v, length-drop 8 copy))

  body_front : take 7 (body_of copy) ≡ take 7 (drop 1 copy)
  unfolding body_of
  body_front = take_at (take 7 (drop 1 copy)) (drop 16 copy) 7 front

  body_back : drop 7 (body_of copy) ≡ drop 16 copy
  unfolding body_of
  body_back = drop_at (take 7 (drop 1 copy)) (drop 16 copy) 7 front

  regrouped : take 7 (drop 1 copy) ++ take 8 (drop 8 copy) ++ drop 16 copy ≡ drop 1 copy
  regrouped =
      append_assoc (take 7 (drop 1 copy)) (take 8 (drop 8 copy)) (drop 16 copy)
      ∙ ap (λ (l : List ℕ). take 7 (drop 1 copy) ++ (take 8 (drop 8 copy) ++ l)) (sym (drop-drop 8 8 copy))
      ∙ ap (λ (l : List ℕ). take 7 (drop 1 copy) ++ l) (take-append-drop 8 (drop 8 copy) ∙ sym (drop-drop 7 1 copy))
      ∙ take-append-drop 7 (drop 1 copy)

  tail_spelled : AreBytes copy → tail_with (sequence_of copy) (body_of copy) ≡ drop 1 copy
  unfolding tail_with
  tail_spelled fits =
      ap (λ (l : List ℕ). l ++ number_bytes (sequence_of copy) ++ drop 7 (body_of copy)) body_front
      ∙ ap (λ (l : List ℕ). take 7 (drop 1 copy) ++ l ++ drop 7 (body_of copy)) (number_stands fits)
      ∙ ap (λ (l : List ℕ). take 7 (drop 1 copy) ++ take 8 (drop 8 copy) ++ l) body_back
      ∙ regrouped

  pub open_copy_spelled : AreBytes copy → is_open copy ≡ true → copy ≡ 165 ∷ tail_with (sequence_of copy) (body_of copy)
  open_copy_spelled fits opened =
      let gate : slice_index copy 0 ≡ 165 = eqb-true (slice_index copy 0) 165 opened in
      drop_more copy 0 0 (omega (arith, long_copy v)) ∙ ap (λ (g : ℕ). g ∷ drop 1 copy) gate ∙ ap (λ (l : List ℕ). 165 ∷ l) (sym (tail_spelled fits))

-- a body is as long as the tail that it spells, but for the number
pub long_body : (v : Version) → (sequence : ℕ) (body : List ℕ) → length (tail_with sequence body) ≡ tail_length v → length body ≡ body_length v
unfolding tail_with number_bytes
long_body v sequence body long =
    omega (arith, long, long_copy v, length-append (take 7 body ++ number_bytes sequence) (drop 7 body), length-append (take 7 body) (number_bytes sequence), length-bytes_high_first 8 sequence, length-take 7 body, length-drop 7 body)

-- ---- blocks

-- a test of copies decides which open ones are sound
pub record Decides (v : Version) (IsSound : List ℕ → Type 0) (is_sound : List ℕ → Bool) : Type 0 where
  pub since : (copy : List ℕ) → length copy ≡ copy_length v → IsSound copy → is_sound copy ≡ true
  pub tells : (copy : List ℕ) → length copy ≡ copy_length v → AreBytes copy → is_open copy ≡ true → is_sound copy ≡ true → IsSound copy

twins_tell : (v : Version) (block : List ℕ) → has_twins (first_of v block) (second_of v block) ≡ true → HasTwins v block
twins_tell v block t =
    let a = and_parts (is_open (first_of v block) && is_open (second_of v block)) (sequence_of (first_of v block) == sequence_of (second_of v block)) t in
    let b = and_parts (is_open (first_of v block)) (is_open (second_of v block)) a.0 in
    (b.0, b.1, eqb-true (sequence_of (first_of v block)) (sequence_of (second_of v block)) a.1)

-- not both
pub sound_is_not_damaged : {v : Version} {IsSound : List ℕ → Type 0} → (block : List ℕ) → IsSoundBlock v IsSound block → IsDamagedBlock v IsSound block → ⊥
sound_is_not_damaged block sound (inl fault) = fault.2 (sound.copies fault.0 fault.1)
sound_is_not_damaged block sound (inr twins) = sound.apart twins.0 twins.1 twins.2

module _ {v : Version} {IsSound : List ℕ → Type 0} {is_sound : List ℕ → Bool} (decides : Decides v IsSound is_sound) where
  fault_tells : (copy : List ℕ) → length copy ≡ copy_length v → has_fault is_sound copy ≡ true → (is_open copy ≡ true) × ¬ IsSound copy
  fault_tells copy long t =
      let a = and_parts (is_open copy) (not (is_sound copy)) t in
      (a.0, λ sound. both_ways (is_sound copy) (not-true (is_sound copy) a.1) (decides.since copy long sound))

  pub damaged_tells : (block : List ℕ) → length block ≡ block_length v → is_damaged_block v is_sound block ≡ true → IsDamagedBlock v IsSound block
  damaged_tells block long t =
      elim (or_cases (has_fault is_sound (first_of v block) || has_fault is_sound (second_of v block)) (has_twins (first_of v block) (second_of v block)) t) [
        | inl fault ↦
            elim (or_cases (has_fault is_sound (first_of v block)) (has_fault is_sound (second_of v block)) fault) [
              | inl f ↦ (let told = fault_tells (take (copy_length v) block) (length-take-le (copy_length v) block (omega arith)) f in inl (First, told.0, told.1))
              | inr f ↦ (let told = fault_tells (drop (copy_length v) block) (omega (arith, length-drop (copy_length v) block)) f in inl (Second, told.0, told.1))
            ]
        | inr twins ↦ inr (twins_tell v block twins)
      ]

  no_fault_tells : (copy : List ℕ) → length copy ≡ copy_length v → AreBytes copy → has_fault is_sound copy ≡ false → is_open copy ≡ true → IsSound copy
  no_fault_tells copy long fits t opened =
      decides.tells copy long fits opened (not-false (is_sound copy) (ap (λ (b : Bool). b && not (is_sound copy)) (sym opened) ∙ t))

  sound_copies : (block : List ℕ) → length block ≡ block_length v → AreBytes block → has_fault is_sound (first_of v block) ≡ false → has_fault is_sound (second_of v block) ≡ false → (half : Half) → is_open (copy_of v half block) ≡ true → IsSound (copy_of v half block)
  sound_copies block long fits f s First opened =
      no_fault_tells (take (copy_length v) block) (length-take-le (copy_length v) block (omega arith)) (AreBytes-take (copy_length v) block fits) f opened
  sound_copies block long fits f s Second opened =
      no_fault_tells (drop (copy_length v) block) (omega (arith, length-drop (copy_length v) block)) (AreBytes-drop (copy_length v) block fits) s opened

  pub sound_block_tells : (block : List ℕ) → length block ≡ block_length v → AreBytes block → is_damaged_block v is_sound block ≡ false → IsSoundBlock v IsSound block
  sound_block_tells block long fits t =
      let a = or_parts (has_fault is_sound (first_of v block) || has_fault is_sound (second_of v block)) (has_twins (first_of v block) (second_of v block)) t in
      let b = or_parts (has_fault is_sound (first_of v block)) (has_fault is_sound (second_of v block)) a.0 in
      record {
        copies = sound_copies block long fits b.0 b.1;
        apart =
            λ o p same.
            both_ways (has_twins (first_of v block) (second_of v block)) a.1 (and_from (is_open (first_of v block) && is_open (second_of v block)) (sequence_of (first_of v block) == sequence_of (second_of v block)) (and_from (is_open (first_of v block)) (is_open (second_of v block)) o p) (eq-eqb (sequence_of (first_of v block)) (sequence_of (second_of v block)) same));
      }

  pub sound_is_undamaged : (block : List ℕ) → length block ≡ block_length v → IsSoundBlock v IsSound block → is_damaged_block v is_sound block ≡ false
  sound_is_undamaged block long sound =
      false_from_ne_true (is_damaged_block v is_sound block) (λ t. sound_is_not_damaged block sound (damaged_tells block long t))

  pub damage_is_found : (block : List ℕ) → length block ≡ block_length v → AreBytes block → IsDamagedBlock v IsSound block → is_damaged_block v is_sound block ≡ true
  damage_is_found block long fits damage =
      elim (cases_Bool (is_damaged_block v is_sound block)) [
        | inl t ↦ t
        | inr f ↦ absurd (sound_is_not_damaged block (sound_block_tells block long fits f) damage)
      ]
