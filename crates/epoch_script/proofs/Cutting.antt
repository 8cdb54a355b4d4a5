-- Lines that are put together again.
use Rattle.std.proofs.Common.{◌≡◌, ◌+◌, ◌∙◌, ℕ, zero, suc, Bool, true, false, cond, not, nat_eq, List, [], ◌∷◌, ◌++◌, take, drop, arith, refl, ap, subst, sym}
use Rattle.std.specs.List.{onto_first, position_or_len, before_first}
use Rattle.lock_script.specs.Lines.{lines_of}
use Rattle.lock_script.proofs.LineLemmas.{ends}
use Rattle.epoch_script.specs.Scripts.{HasNoEnd}

-- a line and its end stand in front of the lines behind them
pub line_first : (line rest : List ℕ) → HasNoEnd line → lines_of (line ++ 10 ∷ rest) ≡ line ∷ lines_of rest
line_first [] rest whole = refl
line_first (byte ∷ line) rest whole =
    ap (λ (b : Bool). cond b ([] ∷ lines_of (line ++ 10 ∷ rest)) (onto_first byte (lines_of (line ++ 10 ∷ rest)))) whole.0
    ∙ ap (onto_first byte) (line_first line rest whole.1)

-- a part of a line ends no line
pub part_whole : (n : ℕ) (line : List ℕ) → HasNoEnd line → HasNoEnd (take n line)
part_whole zero [] whole = tt
part_whole zero (byte ∷ line) whole = tt
part_whole (suc n) [] whole = tt
part_whole (suc n) (byte ∷ line) whole = (whole.0, part_whole n line whole.1)

one_more : (byte : ℕ) (bytes : List ℕ) (b : Bool) → nat_eq byte 10 ≡ b → HasNoEnd (before_first ends bytes)
    → HasNoEnd (take (cond (not b) (1 + position_or_len ends bytes) 0) (byte ∷ bytes))
one_more byte bytes true is whole = tt
one_more byte bytes false is whole =
    let n = position_or_len ends bytes in
    let one : suc n ≡ 1 + n = omega arith in
    subst (λ (k : ℕ). HasNoEnd (take k (byte ∷ bytes))) one (is, whole)

-- what stands before the first end ends no line
pub first_whole : (bytes : List ℕ) → HasNoEnd (before_first ends bytes)
first_whole [] = tt
first_whole (byte ∷ bytes) = one_more byte bytes (nat_eq byte 10) refl (first_whole bytes)

-- One more line of those that are left is cut off.
pub record IsCut (all : List (List ℕ)) (n : ℕ) (line : List ℕ) (rest : List (List ℕ)) : Type 0 where
  pub front : take (n + 1) all ≡ take n all ++ line ∷ []
  pub behind : rest ≡ drop (n + 1) all

pub cut : (all : List (List ℕ)) (n : ℕ) (line : List ℕ) (rest : List (List ℕ)) → line ∷ rest ≡ drop n all → IsCut all n line rest
cut [] zero line rest h = absurd (let e : [] ≡ line ∷ rest = sym h in let never : ⊥ = cc in never)
cut [] (suc n) line rest h = absurd (let e : [] ≡ line ∷ rest = sym h in let never : ⊥ = cc in never)
cut (first ∷ all) zero line rest h =
    let e : line ≡ first = cc in
    let f : rest ≡ all = cc in
    record { front = ap (λ l. l ∷ []) (sym e); behind = f }
cut (first ∷ all) (suc n) line rest h =
    let c = cut all n line rest h in
    let s : suc n + 1 ≡ suc (n + 1) = omega arith in
    record {
      front = ap (λ k. take k (first ∷ all)) s ∙ ap (λ l. first ∷ l) c.front;
      behind = c.behind ∙ ap (λ k. drop k (first ∷ all)) (sym s);
    }
