-- What a block reads as while one copy is written.
use Rattle.std.specs.Prelude.{◌≡◌, ◌<◌, ℕ, Bool, true, false, List, nat_lt, Some}
use Rattle.std.proofs.Common.{refl, ◌∙◌, ap, arith}
use Rattle.std.proofs.lemmas.Bool.Decides.{nat_tests}
use Rattle.torn_block.specs.declared.block.Half.TheVariants.{First, Second}
use Rattle.torn_block.specs.Block.{is_open, sequence_of, body_of, choice, current_by, value_at, value_by, target_at, next_sequence_at}

closed_first_at : (p q r z z' : Bool) (a b c : List ℕ) → target_at (choice p q z) ≡ First → r ≡ false → value_at (choice r q z') c b ≡ value_at (choice p q z) a b
closed_first_at p q true z z' a b c is closed = cc
closed_first_at true true false true z' a b c is closed = refl
closed_first_at true true false false z' a b c is closed = cc
closed_first_at true false false z z' a b c is closed = cc
closed_first_at false true false z z' a b c is closed = refl
closed_first_at false false false z z' a b c is closed = refl

closed_second_at : (p q r z z' : Bool) (a b c : List ℕ) → target_at (choice p q z) ≡ Second → r ≡ false → value_at (choice p r z') a c ≡ value_at (choice p q z) a b
closed_second_at p q true z z' a b c is closed = cc
closed_second_at true true false true z' a b c is closed = cc
closed_second_at true true false false z' a b c is closed = refl
closed_second_at true false false z z' a b c is closed = refl
closed_second_at false true false z z' a b c is closed = cc
closed_second_at false false false z z' a b c is closed = cc

-- with the copy to be written closed, the other one decides
pub closed_first : (a b c : List ℕ) → target_at (current_by a b) ≡ First → is_open c ≡ false → value_by c b ≡ value_by a b
closed_first a b c is closed = closed_first_at (is_open a) (is_open b) (is_open c) _ _ a b c is closed

pub closed_second : (a b c : List ℕ) → target_at (current_by a b) ≡ Second → is_open c ≡ false → value_by a c ≡ value_by a b
closed_second a b c is closed = closed_second_at (is_open a) (is_open b) (is_open c) _ _ a b c is closed

later : (m n : ℕ) → m < n → nat_lt m n ≡ true
later m n less = grind (arith, nat_tests)

no_later : (m n : ℕ) → n < m → nat_lt m n ≡ false
no_later m n less = grind (arith, nat_tests)

-- with it open at the next sequence number, it is the current one
opened_first_at : (p q z : Bool) (a b c : List ℕ) → target_at (choice p q z) ≡ First → sequence_of c ≡ next_sequence_at (value_at (choice p q z) a b) → value_at (choice true q (nat_lt (sequence_of c) (sequence_of b))) c b ≡ Some (sequence_of c, body_of c)
opened_first_at true true true a b c is next = let e : nat_lt (sequence_of c) (sequence_of b) ≡ false = no_later _ _ (omega arith) in rw e refl
opened_first_at true true false a b c is next = cc
opened_first_at true false z a b c is next = refl
opened_first_at false true z a b c is next = let e : nat_lt (sequence_of c) (sequence_of b) ≡ false = no_later _ _ (omega arith) in rw e refl
opened_first_at false false z a b c is next = refl

opened_second_at : (p q z : Bool) (a b c : List ℕ) → target_at (choice p q z) ≡ Second → sequence_of c ≡ next_sequence_at (value_at (choice p q z) a b) → value_at (choice p true (nat_lt (sequence_of a) (sequence_of c))) a c ≡ Some (sequence_of c, body_of c)
opened_second_at true true true a b c is next = cc
opened_second_at true true false a b c is next = let e : nat_lt (sequence_of a) (sequence_of c) ≡ true = later _ _ (omega arith) in rw e refl
opened_second_at true false z a b c is next = let e : nat_lt (sequence_of a) (sequence_of c) ≡ true = later _ _ (omega arith) in rw e refl
opened_second_at false true z a b c is next = cc
opened_second_at false false z a b c is next = cc

pub opened_first : (a b c : List ℕ) → target_at (current_by a b) ≡ First → is_open c ≡ true → sequence_of c ≡ next_sequence_at (value_by a b) → value_by c b ≡ Some (sequence_of c, body_of c)
opened_first a b c is opened next =
    ap (λ (r : Bool). value_at (choice r (is_open b) (nat_lt (sequence_of c) (sequence_of b))) c b) opened ∙ opened_first_at (is_open a) (is_open b) _ a b c is next

pub opened_second : (a b c : List ℕ) → target_at (current_by a b) ≡ Second → is_open c ≡ true → sequence_of c ≡ next_sequence_at (value_by a b) → value_by a c ≡ Some (sequence_of c, body_of c)
opened_second a b c is opened next =
    ap (λ (r : Bool). value_at (choice (is_open a) r (nat_lt (sequence_of a) (sequence_of c))) a c) opened ∙ opened_second_at (is_open a) (is_open b) _ a b c is next
