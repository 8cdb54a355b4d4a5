-- A script without the word, line by line.
use Rattle.std.proofs.Common.{◌≡◌, ◌-◌, ◌∙◌, ℕ, Bool, true, false, cond, nat_lt, ◌&&◌, List, [], ◌∷◌, ◌++◌, take, drop, length, append_assoc, Option, Some, None, arith, refl, ap, subst, sym}
use Rattle.std.specs.Prelude.{codes, bytes_eq}
use Rattle.lock_command.specs.Reading.{◌>>=◌, passed}
use Rattle.lock_script.specs.Lines.{lines_of, is_passed_over}
use Rattle.epoch_script.specs.Scripts.{HasNoEnd, line_without, lines_without}
use Rattle.epoch_script.proofs.Cutting.{line_first, part_whole}

-- the lines behind others
abbrev pub put_behind : List (List ℕ) → Option (List (List ℕ)) → Option (List (List ℕ))
put_behind over found = do
  rest ← found
  Some (over ++ rest)

-- So much of the script was passed over, and is in the text without the word.
pub record IsPlain (lines : List (List ℕ)) (rest plain : List ℕ) : Type 0 where
  pub over : List (List ℕ)
  pub front : (more : List ℕ) → lines_of (plain ++ more) ≡ over ++ lines_of more
  pub left : lines_without lines ≡ put_behind over (lines_without (lines_of rest))

one_behind : (over : List (List ℕ)) (line : List ℕ) (found : Option (List (List ℕ)))
    → put_behind over (do rest ← found; Some (line ∷ rest)) ≡ put_behind (over ++ line ∷ []) found
one_behind over line None = refl
one_behind over line (Some rest) = ap Some (sym (append_assoc over (line ∷ []) rest))

behind_none : (found : Option (List (List ℕ))) → found ≡ put_behind [] found
behind_none None = refl
behind_none (Some rest) = refl

-- a line that is put behind the text
grown : (plain line more : List ℕ) → (plain ++ (line ++ 10 ∷ [])) ++ more ≡ plain ++ (line ++ 10 ∷ more)
grown plain line more = append_assoc plain (line ++ 10 ∷ []) more ∙ ap (λ (l : List ℕ). plain ++ l) (append_assoc line (10 ∷ []) more)

-- at first none was
pub none_passed : (bytes : List ℕ) → IsPlain (lines_of bytes) bytes []
none_passed bytes = record { over = []; front = λ more. refl; left = behind_none (lines_without (lines_of bytes)) }

kept : (test : Bool) (part first : List ℕ) → Some first ≡ passed test part → HasNoEnd part → HasNoEnd first
kept true part first is whole = let e : part ≡ first = cc in subst HasNoEnd e whole
kept false part first is whole = absurd (let never : ⊥ = cc in never)

-- a line without the word ends no line
without_whole : (line first : List ℕ) → Some first ≡ line_without line → HasNoEnd line → HasNoEnd first
unfolding line_without
without_whole line first is whole =
    kept (nat_lt 7 (length line) && bytes_eq (drop (length line - 7) line) (codes " epochs")) (take (length line - 7) line) first is (part_whole (length line - 7) line whole)

module _ (lines : List (List ℕ)) (rest plain line behind : List ℕ) (so : IsPlain lines rest plain) (cut : lines_of rest ≡ line ∷ lines_of behind) (whole : HasNoEnd line) where
  -- one line more is passed over
  pub one_passed : is_passed_over line ≡ true → IsPlain lines behind (plain ++ (line ++ 10 ∷ []))
  one_passed is = record {
    over = so.over ++ line ∷ [];
    front = λ more.
        ap lines_of (grown plain line more) ∙ so.front (line ++ 10 ∷ more)
        ∙ ap (λ (l : List (List ℕ)). so.over ++ l) (line_first line more whole)
        ∙ sym (append_assoc so.over (line ∷ []) (lines_of more));
    left =
        so.left
        ∙ ap (λ (l : List (List ℕ)). put_behind so.over (lines_without l)) cut
        ∙ ap (λ (b : Bool). put_behind so.over (cond b (do r ← lines_without (lines_of behind); Some (line ∷ r)) (do first ← line_without line; Some (first ∷ lines_of behind)))) is
        ∙ one_behind so.over line (lines_without (lines_of behind));
  }

  -- what the line makes of the lines
  said : is_passed_over line ≡ false → lines_without lines ≡ put_behind so.over (do first ← line_without line; Some (first ∷ lines_of behind))
  said is =
      so.left
      ∙ ap (λ (l : List (List ℕ)). put_behind so.over (lines_without l)) cut
      ∙ ap (λ (b : Bool). put_behind so.over (cond b (do r ← lines_without (lines_of behind); Some (line ∷ r)) (do first ← line_without line; Some (first ∷ lines_of behind)))) is

  -- the line does not end with the word
  pub no_word : is_passed_over line ≡ false → None ≡ line_without line → lines_without lines ≡ None
  no_word is none = said is ∙ ap (λ (o : Option (List ℕ)). put_behind so.over (do first ← o; Some (first ∷ lines_of behind))) (sym none)

  -- it does
  pub word : (first : List ℕ) → is_passed_over line ≡ false → Some first ≡ line_without line
      → lines_without lines ≡ Some (lines_of ((plain ++ (first ++ 10 ∷ [])) ++ behind))
  word first is some =
      said is
      ∙ ap (λ (o : Option (List ℕ)). put_behind so.over (do first ← o; Some (first ∷ lines_of behind))) (sym some)
      ∙ ap Some (sym (
      ap lines_of (grown plain first behind) ∙ so.front (first ++ 10 ∷ behind)
      ∙ ap (λ (l : List (List ℕ)). so.over ++ l) (line_first first behind (without_whole line first some whole))))

-- no line is left
pub none_left : (lines : List (List ℕ)) (rest plain : List ℕ) → IsPlain lines rest plain → length rest ≡ 0 → lines_without lines ≡ None
none_left lines [] plain so empty = so.left
none_left lines (byte ∷ rest) plain so empty = absurd (omega arith)
