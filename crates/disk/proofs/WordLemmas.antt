-- Which places of one word are marked once a run of bits is set.
use Rattle.std.proofs.Common.{◌≡◌, ℕ, ◌-◌, ◌*◌, ◌/◌, ◌%◌, ◌^◌, ◌<◌, ◌≤◌, ◌==◌, Bool, true, cond, max, bit_or, refl, ◌∙◌, ap, arith}
use Rattle.std.proofs.Math.Nat.{pow-le-pow_right}
use Rattle.std.proofs.lemmas.Bool.{eq-eqb}
use Rattle.std.proofs.lemmas.Nat.{one_shl}
use Rattle.std.proofs.lemmas.Nat.Bits.{bit_at_or, bit_at-lt, ones_shr}
use Rattle.std.specs.Int.{bit_at}
use Rattle.disk.specs.declared.word.Word.{Word}
use Rattle.disk.specs.Marks.{counted, is_marked_in}

-- what the shifts of a run give
pub shifted : (from to : ℕ) → from < 64 → from ≤ to → to ≤ 64 → (18446744073709551615 / 2 ^ (64 - to) ≡ 2 ^ to - 1) × (1 * 2 ^ from % 18446744073709551616 ≡ 2 ^ from) × (2 ^ from ≤ 2 ^ to)
shifted from to first order last =
    let k : 64 - (64 - to) ≡ to = omega arith in
    let two : 0 < 2 = omega arith in (
      ones_shr 64 (64 - to) (omega arith) ∙ ap (λ (n : ℕ). 2 ^ n - 1) k,
      one_shl from 64 first,
      pow-le-pow_right two order,
    )

module _ (epoch : ℕ) (word : Word) (bits more k : ℕ) (before : bits ≡ counted epoch word) where
  -- a place is marked where its bit was counted, or is among those that are set
  opened : is_marked_in epoch (record { stamp = epoch; bits = bit_or bits more }) k ≡ (max (bit_at (counted epoch word) k) (bit_at more k) == 1)
  opened =
      let here : (epoch == epoch) ≡ true = eq-eqb epoch epoch refl in
      ap (λ (b : Bool). bit_at (cond b (bit_or bits more) 0) k == 1) here
      ∙ ap (λ (n : ℕ). bit_at (bit_or n more) k == 1) before
      ∙ ap (λ (n : ℕ). n == 1) (bit_at_or (counted epoch word) more k)

  -- a place whose bit is among those that are set is marked
  pub set_place : bit_at more k ≡ 1 → is_marked_in epoch (record { stamp = epoch; bits = bit_or bits more }) k ≡ true
  set_place is =
      let low = bit_at-lt (counted epoch word) k in
      let top : max (bit_at (counted epoch word) k) (bit_at more k) ≡ 1 = omega arith in
      opened ∙ eq-eqb _ 1 top

  -- any other place is as before
  pub other_place : bit_at more k ≡ 0 → is_marked_in epoch (record { stamp = epoch; bits = bit_or bits more }) k ≡ is_marked_in epoch word k
  other_place is =
      let same : max (bit_at (counted epoch word) k) (bit_at more k) ≡ bit_at (counted epoch word) k = omega arith in
      opened ∙ ap (λ (n : ℕ). n == 1) same
