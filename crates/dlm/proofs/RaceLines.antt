-- One line of a race more.
use Rattle.std.proofs.Common.{◌≡◌, ◌<◌, ◌+◌, ◌∙◌, ℕ, suc, List, ◌++◌, Option, length, get_or, drop, arith, sym, ap, append_assoc}
use Rattle.std.proofs.Math.Seq.{drop-cons}
use Rattle.std.specs.Io.KnownBytes.{Appends}
use Rattle.std.proofs.KnownBytes.{Appends-trans}
use Rattle.race.specs.declared.answer.Answer.{Answer}
use Rattle.dlm.specs.RaceText.{race_line, race_lines}

-- the lines from a host on
from_on : (answers : List Answer) (h : ℕ) (d : Answer) → h < length answers
    → race_lines h (drop h answers) ≡ race_line h (get_or answers h d) ++ race_lines (h + 1) (drop (h + 1) answers)
from_on answers h d inside =
    let next : suc h ≡ h + 1 = omega arith in
    ap (race_lines h) (drop-cons answers h d inside)
    ∙ ap (λ (k : ℕ). race_line h (get_or answers h d) ++ race_lines (h + 1) (drop k answers)) next

pub one_line_more : (a b c : Option (List ℕ)) (all : List ℕ) (answers : List Answer) (h : ℕ) (d : Answer) → h < length answers
    → (done : List ℕ) × Appends a b done × (done ++ race_lines h (drop h answers) ≡ all)
    → Appends b c (race_line h (get_or answers h d))
    → (done : List ℕ) × Appends a c done × (done ++ race_lines (h + 1) (drop (h + 1) answers) ≡ all)
one_line_more a b c all answers h d inside so_far lined =
    let line = race_line h (get_or answers h d) in
    let rest = race_lines (h + 1) (drop (h + 1) answers) in (
      so_far.0 ++ line,
      Appends-trans a b c so_far.0 line so_far.1 lined,
      append_assoc so_far.0 line rest ∙ ap (λ (k : List ℕ). so_far.0 ++ k) (sym (from_on answers h d inside)) ∙ so_far.2,
    )
