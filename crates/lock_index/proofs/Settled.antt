-- What a name is once it is settled.
use Rattle.std.proofs.Common.{◌≡◌, ◌≤◌, ℕ, Bool, true, false, cond, ◌||◌, List, [], ◌∷◌, length, Some, None, refl, sym, ap, ◌∙◌, arith}
use Rattle.std.specs.List.{filter, list_any}
use Rattle.lock_command.specs.Name.{same_name}
use Rattle.lock_command.specs.declared.record.LockRecord.{LockRecord}
use Rattle.lock_command.specs.State.{goal_of}
use Rattle.lock_command.specs.Locks.{is_lock, is_on, put, queue, head_of, admits, granted, grant_from, settled, settled_all, IsDistinct, IsSettled}
use Rattle.lock_index.specs.Printed.{HasSameLocks}
use Rattle.lock_index.proofs.Parts.{filter-filter}
use Rattle.lock_index.proofs.Numbered.{IsDistinct-put, IsDistinct-filter}
use Rattle.lock_index.proofs.Turns.{head_stands_first, queue-granted, settled-blocked, settled-idle}
use Rattle.lock_index.proofs.Alike.{same-filter, same-settled, same-distinct}
use Rattle.lock_index.proofs.Apart.{on, name_is, same_name-itself, conversions-on, waiting-on, settled-on, settled-apart, IsDistinct-settled, IsDistinct-settled_all}

-- once a name is settled, the lock whose turn it is could not be granted
settles : (q locks : List LockRecord) (name : List ℕ) → IsDistinct locks → queue locks name ≡ q → IsSettled (grant_from q locks) name
settles [] locks name distinct stands = λ r turn.
    let first = head_stands_first locks name r turn in
    let clash : [] ≡ r ∷ first.0 = sym stands ∙ first.1 in let impossible : ⊥ = cc in absurd impossible
settles (r ∷ rest) locks name distinct stands =
    elim (admits locks r.lock r.name (goal_of r.state)) as (λ b. admits locks r.lock r.name (goal_of r.state) ≡ b → IsSettled (cond b (grant_from rest (put locks (granted r))) locks) name) [
      | true ↦ λ may. settles rest (put locks (granted r)) name (IsDistinct-put locks (granted r) distinct) (queue-granted locks name r rest distinct stands)
      | false ↦ λ may other turn.
          let first = head_stands_first locks name other turn in
          let lists : r ∷ rest ≡ other ∷ first.0 = sym stands ∙ first.1 in
          let same : r ≡ other = cc in
          ap (λ (o : LockRecord). admits locks o.lock o.name (goal_of o.state)) (sym same) ∙ may
    ] refl

pub settled_is_settled : (locks : List LockRecord) (name : List ℕ) → IsDistinct locks → IsSettled (settled locks name) name
unfolding settled
settled_is_settled locks name distinct = settles (queue locks name) locks name distinct refl

-- to settle a name again changes nothing
settled_twice : (name : List ℕ) (a : List LockRecord) → IsDistinct a → settled (settled a name) name ≡ settled a name
settled_twice name a distinct =
    elim (head_of (settled a name) name) as (λ turn. head_of (settled a name) name ≡ turn → settled (settled a name) name ≡ settled a name) [
      | None ↦ λ turn. settled-idle (settled a name) name turn
      | Some r ↦ λ turn. settled-blocked (settled a name) name r turn (settled_is_settled a name distinct r turn)
    ] refl

abbrev pub is_among : List (List ℕ) → List ℕ → Bool
is_among names name = list_any (λ n. same_name n name) names

-- of several names that are settled each is settled once, whatever their order
pub settled_all-on : (names : List (List ℕ)) (name : List ℕ) (a : List LockRecord) → IsDistinct a
    → on name (settled_all a names) ≡ cond (is_among names name) (settled (on name a) name) (on name a)
settled_all-on [] name a distinct = refl
settled_all-on (n ∷ names) name a distinct =
    let next = settled_all-on names name (settled a n) (IsDistinct-settled n a distinct) in
    elim (same_name n name) as (λ t. same_name n name ≡ t → on name (settled_all (settled a n) names) ≡ cond (t || is_among names name) (settled (on name a) name) (on name a)) [
      | true ↦ λ e.
          let own : on name (settled a n) ≡ settled (on name a) name = ap (λ k. on name (settled a k)) (name_is n name e) ∙ settled-on name a in
          next ∙ ap (λ x. cond (is_among names name) (settled x name) x) own
          ∙ elim (is_among names name) as (λ t. cond t (settled (settled (on name a) name) name) (settled (on name a) name) ≡ settled (on name a) name) [
            | true ↦ settled_twice name (on name a) (IsDistinct-filter (is_on name) a distinct)
            | false ↦ refl
          ]
      | false ↦ λ e. next ∙ ap (λ x. cond (is_among names name) (settled x name) x) (settled-apart n name a e distinct)
    ] refl

at_most_one : (a b : List LockRecord) → length a ≤ 1 → length b ≤ 1 → ((name : List ℕ) → on name a ≡ on name b) → a ≡ b
at_most_one [] [] few_a few_b same = refl
at_most_one [] (y ∷ b) few_a few_b same =
    let there : [] ≡ y ∷ on y.name b = same y.name ∙ ap (λ t. cond t (y ∷ on y.name b) (on y.name b)) (same_name-itself y.name) in let impossible : ⊥ = cc in absurd impossible
at_most_one (x ∷ a) [] few_a few_b same =
    let there : [] ≡ x ∷ on x.name a = sym (same x.name) ∙ ap (λ t. cond t (x ∷ on x.name a) (on x.name a)) (same_name-itself x.name) in let impossible : ⊥ = cc in absurd impossible
at_most_one (x ∷ []) (y ∷ []) few_a few_b same =
    let there : x ∷ [] ≡ cond (is_on x.name y) (y ∷ []) [] = ap (λ t. cond t (x ∷ []) []) (sym (same_name-itself x.name)) ∙ same x.name in
    elim (is_on x.name y) as (λ t. x ∷ [] ≡ cond t (y ∷ []) [] → x ∷ [] ≡ y ∷ []) [
      | true ↦ λ e. e
      | false ↦ λ e. let impossible : ⊥ = cc in absurd impossible
    ] there
at_most_one (x ∷ []) (y ∷ (z ∷ b)) few_a few_b same = absurd (omega (arith, few_b))
at_most_one (x ∷ (w ∷ a)) (y ∷ b) few_a few_b same = absurd (omega (arith, few_a))

-- tables that are alike on each name are alike
pub same_by_names : (a b : List LockRecord) → IsDistinct a → IsDistinct b → ((name : List ℕ) → HasSameLocks (on name a) (on name b)) → HasSameLocks a b
same_by_names a b distinct_a distinct_b same = record {
  numbers = λ lock. at_most_one (filter (is_lock lock) a) (filter (is_lock lock) b) (distinct_a lock) (distinct_b lock)
      (λ name. filter-filter (is_on name) (is_lock lock) a ∙ (same name).numbers lock ∙ filter-filter (is_lock lock) (is_on name) b);
  conversions = λ name. sym (conversions-on name a) ∙ (same name).conversions name ∙ conversions-on name b;
  waiting = λ name. sym (waiting-on name a) ∙ (same name).waiting name ∙ waiting-on name b;
}

-- to settle the same names, in whatever order, keeps tables alike
pub same-settled_all : (names others : List (List ℕ)) (a b : List LockRecord) → HasSameLocks a b → IsDistinct a
    → ((name : List ℕ) → is_among names name ≡ is_among others name) → HasSameLocks (settled_all a names) (settled_all b others)
same-settled_all names others a b s distinct_a among =
    let distinct_b = same-distinct a b s distinct_a in
    same_by_names (settled_all a names) (settled_all b others) (IsDistinct-settled_all names a distinct_a) (IsDistinct-settled_all others b distinct_b)
    (λ name. rw (settled_all-on names name a distinct_a, settled_all-on others name b distinct_b, among name)
    (elim (is_among others name) as (λ t. HasSameLocks (cond t (settled (on name a) name) (on name a)) (cond t (settled (on name b) name) (on name b))) [
      | true ↦ same-settled name (on name a) (on name b) (same-filter (is_on name) a b s)
      | false ↦ same-filter (is_on name) a b s
    ]))
