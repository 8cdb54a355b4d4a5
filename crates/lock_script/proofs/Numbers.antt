-- Words that spell numbers.
use Rattle.std.proofs.Common.{◌≡◌, ◌≤◌, ◌<◌, ◌+◌, ◌-◌, ◌*◌, ◌^◌, ◌∙◌, ℕ, zero, suc, List, [], ◌∷◌, true, not, ◌&&◌, nat_eq, nat_lt, nat_le, eq-eqb, ne_eqb, ltb-true, lt-ltb, leb-true, le-leb, Option, Some, None, decimal, length, get_or, take, arith, rules, ap, sym, subst, refl, lit<, lit≤}
use Rattle.std.specs.Char.{is_ascii_digit, digit_value}
use Rattle.std.specs.Int.{IsInRange}
use Rattle.std.specs.List.{list_all}
use Rattle.std.specs.Option.{SomeIff}
use Rattle.std.specs.Str.Parse.{digits_value}
use Rattle.std.proofs.lemmas.Int.Digits.{digits_value_more}
use Rattle.std.proofs.lemmas.Str.{digit_value_digit}
use Rattle.std.proofs.lemmas.Str.Parse.{IsDigitsTest, IsNumeralModel, numerals_by_value, digits_value-take-le, digit_at}
use Rattle.std.proofs.lemmas.Fmt.{decimal-digits_value, digits_value-decimal, decimal_digit, digits_decimal, first_decimal, decimal_nonempty}
use Rattle.std.specs.Cmp.Derive.{both_true}
use Rattle.lock_command.specs.Reading.{◌>>=◌, passed}
use Rattle.lock_script.proofs.Readings.{bound, was_passed, is_passed, both_are}
use Rattle.lock_script.specs.Reading.{leads_well, number_of, number_in}

abbrev pub AreDigits : List ℕ → Type 0
AreDigits bytes = list_all is_ascii_digit bytes ≡ true

tells_digits : IsDigitsTest AreDigits
tells_digits = search rules

pub own : IsNumeralModel AreDigits (digits_value 10)
own = numerals_by_value AreDigits tells_digits

-- one digit more
pub one_more : (digits : List ℕ) (i value : ℕ) → AreDigits digits → i < length digits → value ≡ digits_value 10 (take i digits)
    → digits_value 10 (take (i + 1) digits) ≡ value * 10 + (get_or digits i 0 - 48)
one_more digits i value are inside is =
    let d = get_or digits i 0 in
    let range : IsInRange 48 57 d = digit_at digits i (own.to digits are) inside in
    let same : digit_value d + 48 ≡ d = digit_value_digit d range in
    let worth : digit_value d ≡ d - 48 = omega arith in
    digits_value_more 10 digits i inside ∙ ap (λ v. v * 10 + digit_value d) (sym is) ∙ ap (λ w. value * 10 + w) worth

-- where the first digits are worth too much, all are
pub too_much : (digits : List ℕ) (i : ℕ) (r : Option ℕ) → r ≡ None → 2 ^ 64 ≤ digits_value 10 (take i digits) → SomeIff r (digits_value 10 digits < 2 ^ 64) (digits_value 10 digits)
too_much digits i r none much =
    let more : digits_value 10 (take i digits) ≤ digits_value 10 digits = digits_value-take-le 10 digits i (lit≤ tt) in
    subst (λ (o : Option ℕ). SomeIff o (digits_value 10 digits < 2 ^ 64) (digits_value 10 digits)) (sym none) (λ small. omega arith)

-- how digits may begin
leads : (word : List ℕ) → leads_well word ≡ true → (0 < length word) × (get_or word 0 0 ≡ 48 → length word ≡ 1)
leads [] h = absurd (cc)
leads (byte ∷ []) h = (omega arith, λ _. refl)
leads (byte ∷ next ∷ bytes) h = (omega arith, λ zero_first. let same : nat_eq byte 48 ≡ true = eq-eqb byte 48 zero_first in let never : not true ≡ true = sym (ap not same) ∙ h in absurd (cc))

may_lead : (word : List ℕ) → 0 < length word → (get_or word 0 0 ≡ 48 → length word ≤ 1) → leads_well word ≡ true
may_lead [] some short = absurd (omega arith)
may_lead (byte ∷ []) some short = refl
may_lead (byte ∷ next ∷ bytes) some short = ap not (ne_eqb byte 48 (λ zero_first. let few : length (byte ∷ next ∷ bytes) ≤ 1 = short zero_first in omega arith))

-- of a number in more than one digit the first is not 0
decimal_leads : (n : ℕ) → n < 2 ^ 64 → get_or (decimal n) 0 0 ≡ 48 → length (decimal n) ≤ 1
decimal_leads zero small zero_first = rw (decimal_digit 0 (lit< tt)) (omega arith)
decimal_leads (suc m) small zero_first =
    let above : 48 < get_or (decimal (suc m)) 0 0 = first_decimal (suc m) (omega arith) small in
    absurd (omega arith)

number_of-found : (word : List ℕ) (n : ℕ) → number_of word ≡ Some n → word ≡ decimal n
unfolding number_of
number_of-found word n h =
    let v = digits_value 10 word in
    let p = was_passed (leads_well word && list_all is_ascii_digit word && nat_lt v (2 ^ 64)) v n h in
    let tests = both_are (leads_well word && list_all is_ascii_digit word) (nat_lt v (2 ^ 64)) p.0 in
    let begins = both_are (leads_well word) (list_all is_ascii_digit word) tests.0 in
    let lead = leads word begins.0 in
    sym (decimal-digits_value own word begins.1 lead.0 lead.1 (ltb-true v (2 ^ 64) tests.1)) ∙ ap decimal p.1

number_of-only : (n : ℕ) → n < 2 ^ 64 → number_of (decimal n) ≡ Some n
unfolding number_of
number_of-only n small =
    let word = decimal n in
    let v = digits_value 10 word in
    let e : v ≡ n = digits_value-decimal own n small in
    let first = may_lead word (decimal_nonempty n small) (decimal_leads n small) in
    let fits : nat_lt v (2 ^ 64) ≡ true = lt-ltb v (2 ^ 64) (omega (arith, e)) in
    is_passed (leads_well word && list_all is_ascii_digit word && nat_lt v (2 ^ 64)) v (both_true (both_true first (digits_decimal own n small)) fits) ∙ ap Some e

-- a word is read as a number in a range where it is how that number is written
pub record IsNumber (least most : ℕ) (word : List ℕ) (n : ℕ) : Type 0 where
  pub spelled : word ≡ decimal n
  pub low : least ≤ n
  pub high : n ≤ most

pub number_in-found : (least most : ℕ) (word : List ℕ) (n : ℕ) → number_in least most word ≡ Some n → IsNumber least most word n
unfolding number_in
number_in-found least most word n h =
    let found = bound (number_of word) (λ k. passed (nat_le least k && nat_le k most) k) n h in
    let p = was_passed (nat_le least found.0 && nat_le found.0 most) found.0 n found.2 in
    let range = both_are (nat_le least found.0) (nat_le found.0 most) p.0 in
    let low : least ≤ found.0 = leb-true least found.0 range.0 in
    let high : found.0 ≤ most = leb-true found.0 most range.1 in
    subst (IsNumber least most word) p.1 (record { spelled = number_of-found word found.0 found.1; low = low; high = high })

pub number_in-only : (least most n : ℕ) → least ≤ n → n ≤ most → n < 2 ^ 64 → number_in least most (decimal n) ≡ Some n
unfolding number_in
number_in-only least most n low high small =
    ap (λ (found : Option ℕ). found >>= λ k. passed (nat_le least k && nat_le k most) k) (number_of-only n small)
    ∙ is_passed (nat_le least n && nat_le n most) n (both_true (le-leb least n low) (le-leb n most high))
