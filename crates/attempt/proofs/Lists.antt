-- One answer more at the end of a disk's answers: what follows from them then.
use Rattle.std.specs.Prelude.{option_and_then, slice_get}
use Rattle.std.specs.List.{list_any}
use Rattle.std.proofs.Common.{ℕ, zero, suc, pred, ◌+◌, ◌<◌, ◌≤◌, ◌≡◌, ◌≢◌, ◌==◌, ◌&&◌, ◌||◌, not, inl, inr, Bool, true, false, Option, Some, None, List, [], ◌∷◌, ◌++◌, length, refl, sym, ap, ◌∙◌, arith, length-append}
use Rattle.std.proofs.lemmas.Bool.{and_right, eqb-true, eqb-false, cases_lt}
use Rattle.paxos_block.specs.Row.{DecodedBlock}
use Rattle.attempt.specs.Calls.{Phase, Opening, One, Two, goal}
use Rattle.attempt.specs.Heard as hearing
use Rattle.attempt.specs.Answers.{Heard, Booted, is_bad, all_good, told, row_in, later_row, last_row, boot_of}

-- what holds in both cases of a comparison holds of it
pub by_eq : (P : Bool → Type 0) (i k : ℕ) → (i ≡ k → P true) → (i ≢ k → P false) → P (i == k)
by_eq P i k here there = go (i == k) refl
  where
    go : (t : Bool) → (i == k) ≡ t → P t
    go true e = here (eqb-true i k e)
    go false e = there (eqb-false i k e)

-- THE LIST

-- it is one longer
pub length_more : {A : Type 0} (a : List (hearing.Heard A)) (x : hearing.Heard A) → length (a ++ x ∷ []) ≡ length a + 1
length_more a x = length-append a (x ∷ [])

-- the answers before are as they were
pub get_front : {A : Type 0} (a : List (hearing.Heard A)) (x : hearing.Heard A) (n : ℕ) → n < length a → slice_get (a ++ x ∷ []) n ≡ slice_get a n
get_front [] x n l = absurd (omega arith)
get_front (y ∷ a) x zero l = refl
get_front (y ∷ a) x (suc n) l = get_front a x n (omega arith)

-- the new one is the last
pub get_last : {A : Type 0} (a : List (hearing.Heard A)) (x : hearing.Heard A) (n : ℕ) → n ≡ length a → slice_get (a ++ x ∷ []) n ≡ Some x
get_last [] x zero l = refl
get_last [] x (suc n) l = absurd (omega arith)
get_last (y ∷ a) x zero l = absurd (omega arith)
get_last (y ∷ a) x (suc n) l = get_last a x n (omega arith)

-- behind the last there is none
pub get_none : {A : Type 0} (a : List (hearing.Heard A)) (n : ℕ) → length a ≤ n → slice_get a n ≡ None
get_none [] n l = refl
get_none (y ∷ a) zero l = absurd (omega arith)
get_none (y ∷ a) (suc n) l = get_none a n (omega arith)

-- ALL GOOD

-- a list of one is good where its answer is
or_none : (t : Bool) → not (t || false) ≡ not t
or_none true = refl
or_none false = refl

-- the answer before makes no difference to that
one_more : (t rest before new : Bool) → not rest ≡ (not before && new) → not (t || rest) ≡ (not (t || before) && new)
one_more true rest before new e = refl
one_more false rest before new e = e

-- all are good where those before are, and the new one
pub good_more : {A : Type 0} (a : List (hearing.Heard A)) (x : hearing.Heard A) → all_good (a ++ x ∷ []) ≡ (all_good a && not (is_bad x))
good_more [] x = or_none (is_bad x)
good_more (y ∷ a) x = one_more (is_bad y) (list_any is_bad (a ++ x ∷ [])) (list_any is_bad a) (not (is_bad x)) (good_more a x)

-- so they are not all good with one that is bad
pub bad_more : {A : Type 0} (a : List (hearing.Heard A)) (x : hearing.Heard A) → is_bad x ≡ true → all_good (a ++ x ∷ []) ≡ false
bad_more a x bad = good_more a x ∙ and_right (all_good a) (not (is_bad x)) (ap not bad)

-- THE ROW READ LAST

-- of three rows the last is read last
later_assoc : (first second third : Option (List DecodedBlock)) → later_row first (later_row second third) ≡ later_row (later_row first second) third
later_assoc first second None = refl
later_assoc first second (Some row) = refl

-- of one row that one is
later_first : (o : Option (List DecodedBlock)) → later_row o None ≡ later_row None o
later_first None = refl
later_first (Some row) = refl

-- it is the new answer's, or else the one before
pub last_more : (a : List Heard) (x : Heard) → last_row (a ++ x ∷ []) ≡ later_row (last_row a) (told x)
last_more [] x = later_first (told x)
last_more (y ∷ a) x = ap (later_row (told y)) (last_more a x) ∙ later_assoc (told y) (last_row a) (told x)

-- THE BOOT NUMBER

module _ {A : Type 0} where
  boot_at : (x : hearing.Heard A) (a : List (hearing.Heard A)) (boot : ℕ) → x ≡ Booted boot → boot_of (x ∷ a) ≡ boot
  boot_at x a boot is = ap (λ (y : hearing.Heard A). boot_of (y ∷ a)) is

  -- it is told by the first answer
  pub boot_is : (a : List (hearing.Heard A)) (boot : ℕ) → slice_get a 0 ≡ Some (Booted boot) → boot_of a ≡ boot
  boot_is [] boot is = absurd (cc)
  boot_is (x ∷ a) boot is = boot_at x a boot (let both : Some x ≡ Some (Booted boot) = is in cc)

  -- and stays
  pub boot_more : (a : List (hearing.Heard A)) (x : hearing.Heard A) (boot : ℕ) → slice_get a 0 ≡ Some (Booted boot) → boot_of (a ++ x ∷ []) ≡ boot_of a
  boot_more [] x boot is = absurd (cc)
  boot_more (y ∷ a) x boot is = boot_is (y ∷ a ++ x ∷ []) boot is ∙ sym (boot_is (y ∷ a) boot is)

-- THE ROW OF A PHASE

-- a phase has calls
pub positive : (p : Phase) → 0 < goal p
positive Opening = omega arith
positive One = omega arith
positive Two = omega arith

-- a phase that is over has the row that it had
pub row_kept : (p : Phase) (a : List Heard) (x : Heard) → goal p ≤ length a → row_in p (a ++ x ∷ []) ≡ row_in p a
row_kept p a x l = ap (option_and_then told) (get_front a x (pred (goal p)) (let z = positive p in omega arith))

-- the phase's last answer tells its row
pub row_last : (p : Phase) (a : List Heard) (x : Heard) → length a + 1 ≡ goal p → row_in p (a ++ x ∷ []) ≡ told x
row_last p a x e = ap (option_and_then told) (get_last a x (pred (goal p)) (omega arith))

-- before it there is none
pub row_none : (p : Phase) (a : List Heard) → length a < goal p → row_in p a ≡ None
row_none p a l = ap (option_and_then told) (get_none a (pred (goal p)) (omega arith))

-- a new answer that tells no row leaves the rows of all phases
pub row_same : (p : Phase) (a : List Heard) (x : Heard) → told x ≡ None → row_in p (a ++ x ∷ []) ≡ row_in p a
row_same p a x none =
    elim (cases_lt (length a) (goal p)) [
      | inl before ↦
          elim (cases_lt (length a + 1) (goal p)) [
            | inl early ↦ row_none p (a ++ x ∷ []) (omega (arith, length_more a x)) ∙ sym (row_none p a before)
            | inr late ↦ row_last p a x (omega arith) ∙ none ∙ sym (row_none p a before)
          ]
      | inr over ↦ row_kept p a x over
    ]
