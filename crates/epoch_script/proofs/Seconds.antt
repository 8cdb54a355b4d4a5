-- The second line that is not passed over.
use Rattle.std.proofs.Common.{◌≡◌, ◌+◌, ◌-◌, ◌≤◌, ◌<◌, ◌∙◌, ℕ, Bool, true, false, cond, not, List, [], ◌∷◌, ◌++◌, take, drop, length, length-append, arith, refl, ap, subst, sym}
use Rattle.std.proofs.lemmas.List.Elements.{filter-append}
use Rattle.std.proofs.lemmas.List.{append-nil, take-append-drop}
use Rattle.lock_script.specs.Lines.{lines_of, is_passed_over}
use Rattle.lock_script.specs.Script.{said_lines}
use Rattle.epoch_script.specs.Scripts.{IsSecondSaid, said_of}
use Rattle.epoch_script.proofs.Cutting.{cut}

one_count : (line : List ℕ) (b : Bool) → is_passed_over line ≡ b → length (said_lines (line ∷ [])) ≡ cond b 0 1
one_count line true is = ap (λ (b : Bool). length (cond (not b) (line ∷ []) [])) is
one_count line false is = ap (λ (b : Bool). length (cond (not b) (line ∷ []) [])) is

-- one line more, which is passed over, or is not
more_said : (lines : List (List ℕ)) (n : ℕ) (line : List ℕ) (rest : List (List ℕ)) (b : Bool) → line ∷ rest ≡ drop n lines → is_passed_over line ≡ b
    → said_of (n + 1) lines ≡ said_of n lines + cond b 0 1
more_said lines n line rest b is over =
    let p = λ (l : List ℕ). not (is_passed_over l) in
    ap (λ (l : List (List ℕ)). length (said_lines l)) (cut lines n line rest is).front
    ∙ ap length (filter-append p (take n lines) (line ∷ []))
    ∙ length-append (said_lines (take n lines)) (said_lines (line ∷ []))
    ∙ ap (λ (k : ℕ). said_of n lines + k) (one_count line b over)

-- so many lines were read, of which one was not passed over, or none
pub record IsCounted (bytes : List ℕ) (n : ℕ) (rest : List ℕ) (one_said : Bool) : Type 0 where
  pub left : lines_of rest ≡ drop n (lines_of bytes)
  pub said : said_of n (lines_of bytes) ≡ cond one_said 1 0
  pub in_range : n + length rest ≤ length bytes

pub none_counted : (bytes : List ℕ) → IsCounted bytes 0 bytes false
none_counted bytes = record { left = refl; said = refl; in_range = omega arith }

module _ (bytes : List ℕ) (n : ℕ) (rest : List ℕ) (one_said : Bool) (so : IsCounted bytes n rest one_said) (line behind : List ℕ) (lines : lines_of rest ≡ line ∷ lines_of behind) (shorter : length behind < length rest) where
  at : line ∷ lines_of behind ≡ drop n (lines_of bytes)
  at = sym lines ∙ so.left

  pub one_passed : is_passed_over line ≡ true → IsCounted bytes (n + 1) behind one_said
  one_passed over =
      let more = more_said (lines_of bytes) n line (lines_of behind) true at over in
      let before = so.said in
      record {
        left = (cut (lines_of bytes) n line (lines_of behind) at).behind;
        said = omega arith;
        in_range = let r = so.in_range in omega arith;
      }

  pub one_counted : is_passed_over line ≡ false → one_said ≡ false → IsCounted bytes (n + 1) behind true
  one_counted over none =
      let more = more_said (lines_of bytes) n line (lines_of behind) false at over in
      let before : said_of n (lines_of bytes) ≡ 0 = so.said ∙ ap (λ (b : Bool). cond b 1 0) none in
      record {
        left = (cut (lines_of bytes) n line (lines_of behind) at).behind;
        said = omega arith;
        in_range = let r = so.in_range in omega arith;
      }

  pub two_counted : is_passed_over line ≡ false → one_said ≡ true → IsSecondSaid (lines_of bytes) (n + 1)
  two_counted over one = λ two.
      let more = more_said (lines_of bytes) n line (lines_of behind) false at over in
      let before : said_of n (lines_of bytes) ≡ 1 = so.said ∙ ap (λ (b : Bool). cond b 1 0) one in
      let back : n ≡ n + 1 - 1 = omega arith in
      record { here = omega arith; before = subst (λ (k : ℕ). said_of k (lines_of bytes) ≡ 1) back before }

at_most_one : (b : Bool) → cond b 1 0 ≤ 1
at_most_one true = omega arith
at_most_one false = omega arith

whole_taken : (n : ℕ) (lines : List (List ℕ)) → drop n lines ≡ [] → take n lines ≡ lines
whole_taken n lines none = sym (append-nil (take n lines)) ∙ ap (λ (l : List (List ℕ)). take n lines ++ l) (sym none) ∙ take-append-drop n lines

-- where all lines were read there are not two
pub all_counted : (bytes : List ℕ) (n : ℕ) (rest : List ℕ) (one_said : Bool) → IsCounted bytes n rest one_said → length rest ≡ 0 → IsSecondSaid (lines_of bytes) n
all_counted bytes n [] one_said so empty = λ two.
    let all : length (said_lines (lines_of bytes)) ≡ cond one_said 1 0 = ap (λ (l : List (List ℕ)). length (said_lines l)) (sym (whole_taken n (lines_of bytes) (sym so.left))) ∙ so.said in
    let few = at_most_one one_said in
    absurd (omega arith)
all_counted bytes n (byte ∷ rest) one_said so empty = absurd (omega arith)
