-- How numbers of an area and epochs belong together.
use Rattle.std.specs.Prelude.{◌≡◌, ◌≤◌, ◌<◌, ◌-◌, ◌↔◌, ℕ, Some}
use Rattle.standings.specs.Epochs.{epoch_of, epoch_by, BelongsTo}

-- The number tells the epoch to which it belongs, and no other.
abbrev pub NumbersTellEpochs : Type 0
NumbersTellEpochs = (area number e : ℕ) → area < 2 → (epoch_by area number ≡ Some e) ↔ BelongsTo area number e

-- an epoch's number, and the odd one below it, by which a host comes to it
pub record IsFound (e : ℕ) : Type 0 where
  pub inside : epoch_by (epoch_of e).area (epoch_of e).number ≡ Some e
  pub clearing : 0 < e → epoch_by (epoch_of e).area ((epoch_of e).number - 1) ≡ Some e

abbrev pub EpochsHaveTheirNumbers : Type 0
EpochsHaveTheirNumbers = (e : ℕ) → IsFound e

-- Numbers of one area rise with its epochs.
pub record IsRising : Type 0 where
  pub later : (d e : ℕ) → (epoch_of d).area ≡ (epoch_of e).area → d < e → (epoch_of d).number < (epoch_of e).number
  pub greater : (area lower higher d e : ℕ) → lower ≤ higher → epoch_by area lower ≡ Some d → epoch_by area higher ≡ Some e → d ≤ e

abbrev pub NumbersRise : Type 0
NumbersRise = IsRising
