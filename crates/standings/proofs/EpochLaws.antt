-- Which epoch a number belongs to, and where its area begins.
use Rattle.std.specs.Prelude.{nat_le, ◌%◌, ◌-◌, ◌+◌, ◌↔◌}
use Rattle.std.proofs.Common.{ℕ, zero, suc, ◌≡◌, ◌<◌, ◌≤◌, ◌∙◌, Option, Some, None, inl, inr, refl, sym, ap, arith}
use Rattle.std.proofs.lemmas.Bool.{cases_lt, cond-true, cond-false, lt-leb, le-leb}
use Rattle.torn_block.specs.declared.layout.TheConstants.{HOSTS}
use Rattle.standings.specs.Epochs.{epoch_by, base_of, BelongsTo, IsNewest}
use Rattle.standings.specs.Laws.{IsFound, IsRising}

-- the even number from this one on
abbrev own : ℕ → ℕ
own number = number + number % 2

pub some_epoch : (area number : ℕ) → area ≤ own number → epoch_by area number ≡ Some (own number - area)
some_epoch area number room = cond-true (nat_le area (own number)) (Some (own number - area)) None (le-leb area (own number) room)

pub no_epoch : (area number : ℕ) → own number < area → epoch_by area number ≡ None
no_epoch area number less = cond-false (nat_le area (own number)) (Some (own number - area)) None (lt-leb area (own number) less)

-- a number that belongs to one is no less than its area, and what is over is the epoch
pub has_epoch : (area number e : ℕ) → epoch_by area number ≡ Some e → own number ≡ area + e
has_epoch area number e is =
    elim (cases_lt (own number) area) [
      | inl less ↦ absurd (let none = no_epoch area number less in cc)
      | inr room ↦ (let some = some_epoch area number room in let same : own number - area ≡ e = cc in omega arith)
    ]

tells : (area number e : ℕ) → area < 2 → epoch_by area number ≡ Some e → BelongsTo area number e
tells area number e below is =
    let over : number + number % 2 ≡ area + e = has_epoch area number e is in
    record {
      area = omega arith;
      number = elim (cases_lt (number % 2) 1) [ inl even ↦ inl (omega arith) | inr odd ↦ inr (omega arith) ];
    }

told : (area number e : ℕ) → BelongsTo area number e → epoch_by area number ≡ Some e
told area number e is =
    let of_area : area ≡ e % 2 = is.area in
    let over : number + number % 2 ≡ area + e = elim is.number [ inl same ↦ omega arith | inr next ↦ omega arith ] in
    some_epoch area number (omega arith) ∙ ap Some (omega arith)

pub belongs : (area number e : ℕ) → area < 2 → (epoch_by area number ≡ Some e) ↔ BelongsTo area number e
belongs area number e below = (tells area number e below, told area number e)

pub is_found : (e : ℕ) → IsFound e
is_found e =
    record {
      inside = told (e % 2) (e + e % 2) e (record { area = refl; number = inl refl });
      clearing = λ some. told (e % 2) (e + e % 2 - 1) e (record { area = refl; number = inr (omega arith) });
    }

pub are_rising : IsRising
are_rising =
    record {
      later = λ d e same before. (let one : d % 2 ≡ e % 2 = same in omega arith);
      greater =
          λ area lower higher d e less of_lower of_higher.
          (let low : lower + lower % 2 ≡ area + d = has_epoch area lower d of_lower in
          let high : higher + higher % 2 ≡ area + e = has_epoch area higher e of_higher in omega arith);
    }

-- THE NEWEST

module _ (area : ℕ) (numbers : ℕ → ℕ) (greatest : ℕ) (some : (host : ℕ) × (host < HOSTS) × (numbers host ≡ greatest)) (most : (host : ℕ) → host < HOSTS → numbers host ≤ greatest) where
  -- by the greatest number none is newer
  pub newest_by : (newest : Option ℕ) → newest ≡ epoch_by area greatest → IsNewest area numbers newest
  newest_by None is =
      let less : own greatest < area =
      elim (cases_lt (own greatest) area) [ inl less ↦ less | inr room ↦ absurd (let one = some_epoch area greatest room in cc) ] in
      λ host below. no_epoch area (numbers host) (omega (arith, most host below))
  newest_by (Some e) is = (
    (some.0, some.1, ap (epoch_by area) some.2 ∙ sym is),
    (λ host other below of_other. are_rising.greater area (numbers host) greatest other e (most host below) of_other (sym is)),
  )

-- WHERE AN AREA BEGINS

pub first_base : (n area : ℕ) → area ≡ 0 → 0 ≡ base_of n area
first_base n zero is = refl
first_base n (suc area) is = absurd (omega arith)

pub second_base : (n area : ℕ) → 0 < area → 4096 + n ≡ base_of n area
second_base n zero some = absurd (omega arith)
second_base n (suc area) some = refl
