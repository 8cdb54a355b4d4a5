-- One lock more.
use Rattle.std.proofs.Common.{◌≡◌, ◌<◌, ◌≤◌, ◌+◌, ◌∙◌, ◌⊎◌, inl, inr, ℕ, suc, List, [], ◌∷◌, ◌++◌, Option, length, get_or, drop, arith, refl, sym, ap, subst, append_assoc, append-nil}
use Rattle.std.proofs.Math.ListN.{drop_of_length-le}
use Rattle.std.proofs.Math.Seq.{drop-cons}
use Rattle.std.specs.Io.KnownBytes.{Appends}
use Rattle.std.proofs.KnownBytes.{Appends-trans}
use Rattle.lock_command.specs.declared.record.LockRecord.{LockRecord}
use Rattle.lock_command.specs.declared.reply.LockValue.{LockValue}
use Rattle.inspect.specs.Text.{lock_line, name_line, lines_behind}

-- the lines from a lock on
from_on : (before : List ℕ) (locks : List LockRecord) (values : List LockValue) (i : ℕ) (r : LockRecord) (v : LockValue) → i < length locks → i < length values → r ≡ get_or locks i r → v ≡ get_or values i v
    → lines_behind before (drop i locks) (drop i values) ≡ name_line before r.name v ++ (lock_line r ++ lines_behind r.name (drop (i + 1) locks) (drop (i + 1) values))
from_on before locks values i r v inside valued is has =
    let next : suc i ≡ i + 1 = omega arith in
    let here : drop i locks ≡ r ∷ drop (i + 1) locks = drop-cons locks i r inside ∙ (λ j. sym is j ∷ drop (next j) locks) in
    let beside : drop i values ≡ v ∷ drop (i + 1) values = drop-cons values i v valued ∙ (λ j. sym has j ∷ drop (next j) values) in
    λ j. lines_behind before (here j) (beside j)

pub one_more : (a b c d : Option (List ℕ)) (before after all : List ℕ) (locks : List LockRecord) (values : List LockValue) (i : ℕ) (r : LockRecord) (v : LockValue)
    → i < length locks → i < length values → r ≡ get_or locks i r → v ≡ get_or values i v → after ≡ r.name
    → (x : List ℕ) × Appends a b x × (x ++ lines_behind before (drop i locks) (drop i values) ≡ all)
    → Appends b c (name_line before r.name v) → Appends c d (lock_line r)
    → (x : List ℕ) × Appends a d x × (x ++ lines_behind after (drop (i + 1) locks) (drop (i + 1) values) ≡ all)
one_more a b c d before after all locks values i r v inside valued is has name so_far named lined =
    let x = so_far.0 in
    let n = name_line before r.name v in
    let l = lock_line r in
    let rest = lines_behind r.name (drop (i + 1) locks) (drop (i + 1) values) in
    let grouped : (x ++ n ++ l) ++ rest ≡ x ++ (n ++ (l ++ rest)) = append_assoc (x ++ n) l rest ∙ append_assoc x n (l ++ rest) in (
      x ++ n ++ l,
      Appends-trans a c d (x ++ n) l (Appends-trans a b c x n so_far.1 named) lined,
      ap (λ (k : List ℕ). (x ++ n ++ l) ++ lines_behind k (drop (i + 1) locks) (drop (i + 1) values)) name ∙ grouped ∙ ap (λ (k : List ℕ). x ++ k) (sym (from_on before locks values i r v inside valued is has)) ∙ so_far.2,
    )

none_behind : (before : List ℕ) (locks : List LockRecord) (values : List LockValue) → (locks ≡ []) ⊎ (values ≡ []) → lines_behind before locks values ≡ []
none_behind before [] values none = refl
none_behind before (r ∷ rs) [] none = refl
none_behind before (r ∷ rs) (v ∷ vs) (inl none) = let impossible : ⊥ = cc in absurd impossible
none_behind before (r ∷ rs) (v ∷ vs) (inr none) = let impossible : ⊥ = cc in absurd impossible

-- behind the last lock nothing is left
pub all_written : (a b : Option (List ℕ)) (before all : List ℕ) (locks : List LockRecord) (values : List LockValue) (i : ℕ) → (length locks ≤ i) ⊎ (length values ≤ i)
    → (x : List ℕ) × Appends a b x × (x ++ lines_behind before (drop i locks) (drop i values) ≡ all) → Appends a b all
all_written a b before all locks values i last so_far =
    let gone : (drop i locks ≡ []) ⊎ (drop i values ≡ []) = elim last [ inl l ↦ inl (drop_of_length-le locks l) | inr l ↦ inr (drop_of_length-le values l) ] in
    subst (λ (l : List ℕ). Appends a b l) (sym (append-nil so_far.0) ∙ ap (λ (l : List ℕ). so_far.0 ++ l) (sym (none_behind before (drop i locks) (drop i values) gone)) ∙ so_far.2) so_far.1
