-- A number in eight or four bytes, highest first, is spelled as it stands.
use Rattle.std.specs.Prelude.{◌≡◌, ◌+◌, ◌≤◌, ℕ, List, length, take, drop}
use Rattle.std.proofs.Common.{sym, ap, ◌∙◌, arith, inl, inr}
use Rattle.std.proofs.lemmas.List.{length-take-le, length-take, get_or-take, get_or-drop, get_or_past}
use Rattle.std.proofs.lemmas.Bool.{cases_lt}
use Rattle.std.proofs.lemmas.Nat.{be_bytes_4, be_bytes_8}
use Rattle.std.specs.Int.{w32, w64, from_be_bytes}
use Rattle.byteorder.specs.Endian.{big_number, big_bytes}
use Rattle.byteorder.specs.Numbers.{big_from-take}
use Rattle.torn_block.specs.Numbers.{AreBytes}

pub AreBytes-drop : (n : ℕ) (bytes : List ℕ) → AreBytes bytes → AreBytes (drop n bytes)
AreBytes-drop n bytes fits i = rw get_or-drop (fits (n + i))

pub AreBytes-take : (n : ℕ) (bytes : List ℕ) → AreBytes bytes → AreBytes (take n bytes)
AreBytes-take n bytes fits i =
    elim (cases_lt i n) [
      | inl lt ↦ rw (get_or-take n bytes i 0 lt) (fits i)
      | inr le ↦ rw (get_or_past (take n bytes) i 0 (omega (arith, length-take n bytes))) (omega arith)
    ]

same_8 : (bytes : List ℕ) → big_number 8 bytes ≡ from_be_bytes w64 bytes
same_8 bytes = omega arith

same_4 : (bytes : List ℕ) → big_number 4 bytes ≡ from_be_bytes w32 bytes
same_4 bytes = omega arith

pub spelled_8 : (bytes : List ℕ) → AreBytes bytes → 8 ≤ length bytes → big_bytes 8 (big_number 8 bytes) ≡ take 8 bytes
spelled_8 bytes fits long =
    ap (big_bytes 8) (sym (big_from-take 0 8 8 bytes (omega arith)))
    ∙ be_bytes_8 (take 8 bytes) (big_number 8 (take 8 bytes)) (length-take-le 8 bytes long) (AreBytes-take 8 bytes fits) (same_8 (take 8 bytes))

pub spelled_4 : (bytes : List ℕ) → AreBytes bytes → 4 ≤ length bytes → big_bytes 4 (big_number 4 bytes) ≡ take 4 bytes
spelled_4 bytes fits long =
    ap (big_bytes 4) (sym (big_from-take 0 4 4 bytes (omega arith)))
    ∙ be_bytes_4 (take 4 bytes) (big_number 4 (take 4 bytes)) (length-take-le 4 bytes long) (AreBytes-take 4 bytes fits) (same_4 (take 4 bytes))
