-- One end more that is counted.
use Rattle.std.specs.Prelude.{filter, sum_by, position, not}
use Rattle.std.specs.List.{position_from}
use Rattle.std.specs.Option.{option_or}
use Rattle.std.proofs.Common.{ℕ, suc, ◌+◌, ◌<◌, ◌≤◌, ◌≡◌, Bool, true, false, cond, Option, Some, None, List, [], ◌∷◌, ◌++◌, length, take, get_or, refl, sym, ap, ◌∙◌, length-append, arith}
use Rattle.std.proofs.lemmas.Iterator.Adapters.{position_from-zero}
use Rattle.std.proofs.lemmas.List.{get_or_default, take_more}
use Rattle.std.proofs.lemmas.List.Elements.{filter-append}
use Rattle.std.proofs.lemmas.List.Sums.{sum_by-append, sum_by-cons}
use Rattle.epoch_sweep.specs.declared.tally.End.{End}
use Rattle.epoch_sweep.specs.declared.tally.Sweep.{Sweep}
use Rattle.epoch_sweep.specs.Counting.{counted, is_wrong, with_end}

abbrev sweep_of : ℕ → ℕ → ℕ → Option ℕ → Sweep
sweep_of runs recovered wrong first = record { runs = runs; recovered = recovered; wrong = wrong; first = first }

same_sweep : (runs other recovered also wrong too : ℕ) (first found : Option ℕ) → runs ≡ other → recovered ≡ also → wrong ≡ too → first ≡ found → sweep_of runs recovered wrong first ≡ sweep_of other also too found
same_sweep runs other recovered also wrong too first found a b c d =
    ap (λ (n : ℕ). sweep_of n recovered wrong first) a ∙ ap (λ (n : ℕ). sweep_of other n wrong first) b ∙ ap (λ (n : ℕ). sweep_of other also n first) c ∙ ap (sweep_of other also too) d

-- the sum is one number more
sum_more : (l : List End) (end : End) → sum_by (λ (e : End). e.recovered) (l ++ end ∷ []) ≡ sum_by (λ (e : End). e.recovered) l + end.recovered
sum_more l end =
    sum_by-append (λ (e : End). e.recovered) l (end ∷ [])
    ∙ ap (λ (n : ℕ). sum_by (λ (e : End). e.recovered) l + n) (sum_by-cons (λ (e : End). e.recovered) end [] ∙ plus_none end.recovered)
  where
    plus_none : (n : ℕ) → n + 0 ≡ n
    plus_none n = omega arith

-- a wrong one is one more
one_wrong : (right : Bool) (end : End) (n : ℕ) → n + length (cond (not right) (end ∷ []) []) ≡ cond right n (n + 1)
one_wrong true end n = omega arith
one_wrong false end n = refl

wrong_more : (l : List End) (end : End) → length (filter is_wrong (l ++ end ∷ [])) ≡ cond end.right (length (filter is_wrong l)) (length (filter is_wrong l) + 1)
wrong_more l end =
    ap (λ (x : List End). length x) (filter-append is_wrong l (end ∷ []))
    ∙ length-append (filter is_wrong l) (filter is_wrong (end ∷ []))
    ∙ one_wrong end.right end (length (filter is_wrong l))

-- where one is found, it stays the first
by_first : (b : Bool) (n : ℕ) (r s e f : Option ℕ) → r ≡ option_or s e → e ≡ f → cond b (Some n) r ≡ option_or (cond b (Some n) s) f
by_first true n r s e f is same = refl
by_first false n r s e f is same = is ∙ ap (option_or s) same

zero_more : (n : ℕ) → n ≡ n + 0
zero_more n = omega arith

further : (n m : ℕ) → n + 1 + m ≡ n + suc m
further n m = omega arith

first_more : (l : List End) (end : End) (n : ℕ) → position_from is_wrong n (l ++ end ∷ []) ≡ option_or (position_from is_wrong n l) (cond (is_wrong end) (Some (n + length l)) None)
first_more [] end n = ap (λ (m : ℕ). cond (is_wrong end) (Some m) None) (zero_more n)
first_more (y ∷ l) end n =
    by_first (is_wrong y) n (position_from is_wrong (n + 1) (l ++ end ∷ [])) (position_from is_wrong (n + 1) l) (cond (is_wrong end) (Some (n + 1 + length l)) None)
    (cond (is_wrong end) (Some (n + length (y ∷ l))) None) (first_more l end (n + 1)) (ap (λ (m : ℕ). cond (is_wrong end) (Some m) None) (further n (length l)))

-- the first of all
pub position_is : (l : List End) → position is_wrong l ≡ position_from is_wrong 0 l
position_is l = position_from-zero is_wrong l

-- where none is the first wrong one, none is wrong
by_rest : (right : Bool) (end : End) (n : ℕ) (first : Option ℕ) (rest : List End) → (first ≡ None → length rest ≡ 0) → cond (not right) (Some n) first ≡ None → length (cond (not right) (end ∷ rest) rest) ≡ 0
by_rest true end n first rest later none = later none
by_rest false end n first rest later none = absurd (let both : Some n ≡ None = none in cc)

no_first : (l : List End) (n : ℕ) → position_from is_wrong n l ≡ None → length (filter is_wrong l) ≡ 0
no_first [] n none = refl
no_first (end ∷ l) n none = by_rest end.right end n (position_from is_wrong (n + 1) l) (filter is_wrong l) (no_first l (n + 1)) none

pub none_wrong : (ends : List End) (swept : Sweep) → swept ≡ counted ends → swept.first ≡ None → swept.wrong ≡ 0
none_wrong ends swept is none =
    ap (λ (s : Sweep). s.wrong) is ∙ no_first ends 0 (sym (position_is ends) ∙ sym (ap (λ (s : Sweep). s.first) is) ∙ none)

or_none : (first : Option ℕ) → option_or first None ≡ first
or_none None = refl
or_none (Some n) = refl

one_first : (right : Bool) (first : Option ℕ) (n m : ℕ) → 0 + n ≡ m → option_or first (cond (not right) (Some (0 + n)) None) ≡ cond right first (option_or first (Some m))
one_first true first n m is = or_none first
one_first false first n m is = ap (λ (x : ℕ). option_or first (Some x)) is

pub counted_on : (l : List End) (end : End) → counted (l ++ end ∷ []) ≡ with_end (counted l) end
counted_on l end =
    same_sweep (length (l ++ end ∷ [])) (length l + 1) (sum_by (λ (e : End). e.recovered) (l ++ end ∷ [])) (sum_by (λ (e : End). e.recovered) l + end.recovered)
    (length (filter is_wrong (l ++ end ∷ []))) (cond end.right (length (filter is_wrong l)) (length (filter is_wrong l) + 1))
    (position is_wrong (l ++ end ∷ [])) (cond end.right (position is_wrong l) (option_or (position is_wrong l) (Some (length l))))
    (length-append l (end ∷ [])) (sum_more l end) (wrong_more l end)
    (position_is (l ++ end ∷ []) ∙ first_more l end 0
    ∙ ap (λ (o : Option ℕ). option_or o (cond (is_wrong end) (Some (0 + length l)) None)) (sym (position_is l))
    ∙ one_first end.right (position is_wrong l) (length l) (length l) (zero_plus (length l)))
  where
    zero_plus : (n : ℕ) → 0 + n ≡ n
    zero_plus n = omega arith

pub counted_more : (ends : List End) (i : ℕ) (end : End) → i < length ends → end ≡ get_or ends i end → counted (take (i + 1) ends) ≡ with_end (counted (take i ends)) end
counted_more ends i end within is =
    ap counted (take_more ends i end within ∙ ap (λ (e : End). take i ends ++ e ∷ []) (sym is)) ∙ counted_on (take i ends) end

-- ONE BY ONE

pub more : (ends : List End) (i : ℕ) (d : End) (before after : Sweep) → i < length ends → before ≡ counted (take i ends) → after ≡ with_end before (get_or ends i d) → after ≡ counted (take (i + 1) ends)
more ends i d before after within so_far is =
    let end : End = get_or ends i d in
    is ∙ ap (λ (s : Sweep). with_end s end) so_far ∙ sym (counted_more ends i end within (get_or_default ends i d end within))

module _ (end : End) (before after : Sweep) (is : after ≡ with_end before end) where
  pub runs_more : after.runs ≡ before.runs + 1
  runs_more = ap (λ (s : Sweep). s.runs) is

  pub recovered_more : end.recovered ≤ 2 → after.recovered ≤ before.recovered + 2
  recovered_more two = let same : after.recovered ≡ before.recovered + end.recovered = ap (λ (s : Sweep). s.recovered) is in omega (arith, same, two)

  at_most_one : (right : Bool) (n : ℕ) → cond right n (n + 1) ≤ n + 1
  at_most_one true n = omega arith
  at_most_one false n = omega arith

  pub wrong_by : after.wrong ≤ before.wrong + 1
  wrong_by =
      let same : after.wrong ≡ cond end.right before.wrong (before.wrong + 1) = ap (λ (s : Sweep). s.wrong) is in
      let one : cond end.right before.wrong (before.wrong + 1) ≤ before.wrong + 1 = at_most_one end.right before.wrong in
      omega (arith, same, one)
