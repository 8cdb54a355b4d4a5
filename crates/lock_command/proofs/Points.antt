-- Words of digits with points between them.
use Rattle.std.proofs.Common.{◌≡◌, ◌<◌, ◌^◌, ◌++◌, ◌∙◌, ◌&&◌, ℕ, Bool, true, false, List, [], ◌∷◌, ap, refl, rules}
use Rattle.std.specs.Char.{is_ascii_digit}
use Rattle.std.specs.List.{list_all}
use Rattle.std.specs.Str.Parse.{digits_value}
use Rattle.std.specs.Prelude.{decimal}
use Rattle.std.proofs.lemmas.Str.Parse.{IsDigitsTest, IsNumeralModel, numerals_by_value}
use Rattle.std.proofs.lemmas.Fmt.{digits_decimal, decimal_injective}

abbrev pub AreDigits : List ℕ → Type 0
AreDigits bytes = list_all is_ascii_digit bytes ≡ true

tells_digits : IsDigitsTest AreDigits
tells_digits = search rules

own : IsNumeralModel AreDigits (digits_value 10)
own = numerals_by_value AreDigits tells_digits

both : (a b : Bool) → (a && b) ≡ true → (a ≡ true) × (b ≡ true)
both true b h = (refl, h)
both false b h = cc

-- a point is no digit
not_a_point : (c : ℕ) → is_ascii_digit c ≡ true → 46 ≡ c → ⊥
not_a_point c digit same = let never : is_ascii_digit 46 ≡ true = ap is_ascii_digit same ∙ digit in cc

-- up to the first point, and behind it
pub parted : (a b c d : List ℕ) → AreDigits a → AreDigits c → a ++ 46 ∷ b ≡ c ++ 46 ∷ d → (a ≡ c) × (b ≡ d)
parted [] b [] d da dc e = (refl, cc)
parted [] b (x ∷ c) d da dc e = absurd (not_a_point x (both (is_ascii_digit x) (list_all is_ascii_digit c) dc).0 (cc))
parted (x ∷ a) b [] d da dc e = absurd (not_a_point x (both (is_ascii_digit x) (list_all is_ascii_digit a) da).0 (cc))
parted (x ∷ a) b (y ∷ c) d da dc e =
    let rest = parted a b c d (both (is_ascii_digit x) (list_all is_ascii_digit a) da).1 (both (is_ascii_digit y) (list_all is_ascii_digit c) dc).1 (cc) in
    let first : x ≡ y = cc in
    (ap (λ z. z ∷ a) first ∙ ap (λ (l : List ℕ). y ∷ l) rest.0, rest.1)

-- numbers with a point behind them
pub numbers_parted : (m n : ℕ) (b d : List ℕ) → m < 2 ^ 64 → n < 2 ^ 64 → decimal m ++ 46 ∷ b ≡ decimal n ++ 46 ∷ d → (m ≡ n) × (b ≡ d)
numbers_parted m n b d small few e =
    let words = parted (decimal m) b (decimal n) d (digits_decimal own m small) (digits_decimal own n few) e in
    (decimal_injective m n small few words.0, words.1)
