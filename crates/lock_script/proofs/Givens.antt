-- A word is read as bytes exactly where it is how they are written.
use Rattle.std.proofs.Common.{◌≡◌, ◌≤◌, ◌<◌, ◌+◌, ◌-◌, ◌*◌, ◌/◌, ◌%◌, ◌^◌, ◌∙◌, ℕ, Bool, true, false, cond, ◌&&◌, ◌==◌, nat_le, nat_lt, List, [], ◌∷◌, Option, Some, None, length, arith, refl, sym, ap, subst, suc, leb-true, le-leb, ltb-true, ltb-false, lt-ltb, le-ltb}
use Rattle.std.specs.Prelude.{All}
use Rattle.std.specs.Cmp.Derive.{both_true}
use Rattle.std.proofs.lemmas.List.Elements.{All-cons, All-nil}
use Rattle.std.proofs.lemmas.Bool.Decides.{nat_tests}
use Rattle.lock_command.specs.Reading.{◌>>=◌, passed}
use Rattle.std.proofs.lemmas.Bool.{eqb-true, eq-eqb}
use Rattle.lock_script.specs.Reading.{digit_of, byte_of, hex_bytes, given_of, value_of}
use Rattle.lock_script.specs.Spelling.{hex_digit, hex_word, AreGiven}
use Rattle.lock_script.proofs.Readings.{bound, was_passed, is_passed, both_are}

-- a digit and what it stands for
record IsDigit (byte digit : ℕ) : Type 0 where
  spelled : byte ≡ hex_digit digit
  small : digit < 16

digit_of-found : (byte digit : ℕ) → digit_of byte ≡ Some digit → IsDigit byte digit
unfolding digit_of
digit_of-found byte digit h = by_tests (nat_le 48 byte && nat_le byte 57) (nat_le 97 byte && nat_le byte 102) refl refl h where
  by_tests : (decimal_one letter : Bool) → (nat_le 48 byte && nat_le byte 57) ≡ decimal_one → (nat_le 97 byte && nat_le byte 102) ≡ letter
      → cond decimal_one (Some (byte - 48)) (cond letter (Some (byte - 87)) None) ≡ Some digit → IsDigit byte digit
  by_tests true letter d l found =
      let range = both_are (nat_le 48 byte) (nat_le byte 57) d in
      let low : 48 ≤ byte = leb-true 48 byte range.0 in
      let high : byte ≤ 57 = leb-true byte 57 range.1 in
      let e : byte - 48 ≡ digit = cc in
      let below : nat_lt digit 10 ≡ true = lt-ltb digit 10 (omega arith) in
      let is : byte ≡ 48 + digit = omega arith in
      record { spelled = is ∙ sym (ap (λ t. cond t (48 + digit) (87 + digit)) below); small = omega arith }
  by_tests false true d l found =
      let range = both_are (nat_le 97 byte) (nat_le byte 102) l in
      let low : 97 ≤ byte = leb-true 97 byte range.0 in
      let high : byte ≤ 102 = leb-true byte 102 range.1 in
      let e : byte - 87 ≡ digit = cc in
      let above : nat_lt digit 10 ≡ false = le-ltb digit 10 (omega arith) in
      let is : byte ≡ 87 + digit = omega arith in
      record { spelled = is ∙ sym (ap (λ t. cond t (48 + digit) (87 + digit)) above); small = omega arith }
  by_tests false false d l found = absurd (cc)

digit_of-only : (digit : ℕ) → digit < 16 → digit_of (hex_digit digit) ≡ Some digit
unfolding digit_of
digit_of-only digit small = by_test (nat_lt digit 10) refl where
  by_test : (test : Bool) → nat_lt digit 10 ≡ test → digit_of (cond test (48 + digit) (87 + digit)) ≡ Some digit
  by_test true is =
      let below = ltb-true digit 10 is in
      let low : nat_le 48 (48 + digit) ≡ true = le-leb 48 (48 + digit) (omega arith) in
      let high : nat_le (48 + digit) 57 ≡ true = le-leb (48 + digit) 57 (omega arith) in
      let e : 48 + digit - 48 ≡ digit = omega arith in
      ap (λ t. cond t (Some (48 + digit - 48)) (cond (nat_le 97 (48 + digit) && nat_le (48 + digit) 102) (Some (48 + digit - 87)) None)) (both_true low high) ∙ ap Some e
  by_test false is =
      let above = ltb-false digit 10 is in
      let not_decimal : (nat_le 48 (87 + digit) && nat_le (87 + digit) 57) ≡ false = grind (arith, nat_tests) in
      let low : nat_le 97 (87 + digit) ≡ true = le-leb 97 (87 + digit) (omega arith) in
      let high : nat_le (87 + digit) 102 ≡ true = le-leb (87 + digit) 102 (omega arith) in
      let e : 87 + digit - 87 ≡ digit = omega arith in
      ap (λ t. cond t (Some (87 + digit - 48)) (cond (nat_le 97 (87 + digit) && nat_le (87 + digit) 102) (Some (87 + digit - 87)) None)) not_decimal
      ∙ ap (λ t. cond t (Some (87 + digit - 87)) None) (both_true low high) ∙ ap Some e

-- two digits and their byte
record IsByte (high low byte : ℕ) : Type 0 where
  first : high ≡ hex_digit (byte / 16)
  second : low ≡ hex_digit (byte % 16)
  small : byte < 2 ^ 8

halves : (h l : ℕ) → l < 16 → ((16 * h + l) / 16 ≡ h) × ((16 * h + l) % 16 ≡ l)
halves h l small = (omega arith, omega arith)

byte_of-found : (high low byte : ℕ) → byte_of high low ≡ Some byte → IsByte high low byte
unfolding byte_of
byte_of-found high low byte found =
    let one = bound (digit_of high) (λ h. digit_of low >>= λ l. Some (16 * h + l)) byte found in
    let two = bound (digit_of low) (λ l. Some (16 * one.0 + l)) byte one.2 in
    let h = digit_of-found high one.0 one.1 in
    let l = digit_of-found low two.0 two.1 in
    let parts = halves one.0 two.0 l.small in
    let e : 16 * one.0 + two.0 ≡ byte = cc in
    let b : one.0 < 16 = h.small in
    let c : two.0 < 16 = l.small in
    subst (IsByte high low) e (record { first = h.spelled ∙ ap hex_digit (sym parts.0); second = l.spelled ∙ ap hex_digit (sym parts.1); small = omega arith })

byte_of-only : (byte : ℕ) → byte < 2 ^ 8 → byte_of (hex_digit (byte / 16)) (hex_digit (byte % 16)) ≡ Some byte
unfolding byte_of
byte_of-only byte small =
    let h : byte / 16 < 16 = omega arith in
    let l : byte % 16 < 16 = omega arith in
    let e : 16 * (byte / 16) + byte % 16 ≡ byte = omega arith in
    ap (λ (found : Option ℕ). found >>= λ a. digit_of (hex_digit (byte % 16)) >>= λ b. Some (16 * a + b)) (digit_of-only (byte / 16) h)
    ∙ ap (λ (found : Option ℕ). found >>= λ b. Some (16 * (byte / 16) + b)) (digit_of-only (byte % 16) l)
    ∙ ap Some e

-- a word and its bytes
record AreBytes (word bytes : List ℕ) : Type 0 where
  spelled : word ≡ hex_word bytes
  small : All (λ byte. byte < 2 ^ 8) bytes

hex_bytes-found : (word bytes : List ℕ) → hex_bytes word ≡ Some bytes → AreBytes word bytes
hex_bytes-found [] bytes h = let e : [] ≡ bytes = cc in subst (AreBytes []) e (record { spelled = refl; small = All-nil (λ byte. byte < 2 ^ 8) })
hex_bytes-found (high ∷ []) bytes h = absurd (cc)
hex_bytes-found (high ∷ low ∷ rest) bytes h =
    let one = bound (byte_of high low) (λ b. hex_bytes rest >>= λ more. Some (b ∷ more)) bytes h in
    let more = bound (hex_bytes rest) (λ more. Some (one.0 ∷ more)) bytes one.2 in
    let b = byte_of-found high low one.0 one.1 in
    let behind = hex_bytes-found rest more.0 more.1 in
    let e : one.0 ∷ more.0 ≡ bytes = cc in
    let is : high ∷ low ∷ rest ≡ hex_word (one.0 ∷ more.0) =
    ap (λ x. x ∷ low ∷ rest) b.first ∙ ap (λ x. hex_digit (one.0 / 16) ∷ x ∷ rest) b.second ∙ ap (λ x. hex_digit (one.0 / 16) ∷ hex_digit (one.0 % 16) ∷ x) behind.spelled in
    subst (AreBytes (high ∷ low ∷ rest)) e (record { spelled = is; small = All-cons (λ byte. byte < 2 ^ 8) one.0 more.0 b.small behind.small })

hex_bytes-only : (bytes : List ℕ) → All (λ byte. byte < 2 ^ 8) bytes → hex_bytes (hex_word bytes) ≡ Some bytes
hex_bytes-only [] small = refl
hex_bytes-only (byte ∷ bytes) small =
    let here : byte < 2 ^ 8 = small 0 0 (omega arith) in
    let behind : All (λ b. b < 2 ^ 8) bytes = λ k d inside. small (suc k) d (omega arith) in
    ap (λ (found : Option ℕ). found >>= λ b. hex_bytes (hex_word bytes) >>= λ more. Some (b ∷ more)) (byte_of-only byte here)
    ∙ ap (λ (found : Option (List ℕ)). found >>= λ more. Some (byte ∷ more)) (hex_bytes-only bytes behind)

-- a word that gives bytes
pub record Gives (word given : List ℕ) : Type 0 where
  pub spelled : word ≡ hex_word given
  pub fits : AreGiven given

pub given_of-found : (word given : List ℕ) → given_of word ≡ Some given → Gives word given
unfolding given_of
given_of-found word given h =
    let found = bound (hex_bytes word) (λ bytes. passed (nat_le 1 (length bytes) && nat_le (length bytes) 64) bytes) given h in
    let p = was_passed (nat_le 1 (length found.0) && nat_le (length found.0) 64) found.0 given found.2 in
    let range = both_are (nat_le 1 (length found.0)) (nat_le (length found.0) 64) p.0 in
    let are = hex_bytes-found word found.0 found.1 in
    let some : 1 ≤ length found.0 = leb-true 1 (length found.0) range.0 in
    let few : length found.0 ≤ 64 = leb-true (length found.0) 64 range.1 in
    subst (Gives word) p.1 (record { spelled = are.spelled; fits = record { some = some; few = few; bytes = are.small } })

pub given_of-only : (given : List ℕ) → AreGiven given → given_of (hex_word given) ≡ Some given
unfolding given_of
given_of-only given fits =
    ap (λ (found : Option (List ℕ)). found >>= λ bytes. passed (nat_le 1 (length bytes) && nat_le (length bytes) 64) bytes) (hex_bytes-only given fits.bytes)
    ∙ is_passed (nat_le 1 (length given) && nat_le (length given) 64) given (both_true (le-leb 1 (length given) fits.some) (le-leb (length given) 64 fits.few))

-- a word that spells a value
pub record SpellsValue (word bytes : List ℕ) : Type 0 where
  pub spelled : word ≡ hex_word bytes
  pub long : length bytes ≡ 16
  pub small : All (λ byte. byte < 2 ^ 8) bytes

pub value_of-found : (word bytes : List ℕ) → value_of word ≡ Some bytes → SpellsValue word bytes
unfolding value_of
value_of-found word bytes h =
    let found = bound (hex_bytes word) (λ b. passed (length b == 16) b) bytes h in
    let p = was_passed (length found.0 == 16) found.0 bytes found.2 in
    let are = hex_bytes-found word found.0 found.1 in
    let long : length found.0 ≡ 16 = eqb-true (length found.0) 16 p.0 in
    subst (SpellsValue word) p.1 (record { spelled = are.spelled; long = long; small = are.small })

pub value_of-only : (bytes : List ℕ) → length bytes ≡ 16 → All (λ byte. byte < 2 ^ 8) bytes → value_of (hex_word bytes) ≡ Some bytes
unfolding value_of
value_of-only bytes long small =
    ap (λ (found : Option (List ℕ)). found >>= λ b. passed (length b == 16) b) (hex_bytes-only bytes small)
    ∙ is_passed (length bytes == 16) bytes (eq-eqb (length bytes) 16 long)
