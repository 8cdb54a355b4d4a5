-- Where the locks of lower keys end.
use Rattle.std.proofs.Common.{◌≡◌, ◌≤◌, ◌<◌, ◌+◌, ℕ, Bool, true, false, not, nat_lt, List, length, get_or, insert, sym, ap, ◌∙◌, inl, inr, arith}
use Rattle.std.specs.List.{AllWithin}
use Rattle.std.specs.List.Sorted.{IsSorted, IsPartitionedBy, IsPartitionPoint}
use Rattle.std.specs.Ordering.{is_lt}
use Rattle.std.proofs.lemmas.Bool.{cases_lt, ltb-true, ltb-false, lt-ltb, le-ltb}
use Rattle.std.proofs.lemmas.List.Sorted.{sorted_far}
use Rattle.lock_command.specs.Name.{IsName}
use Rattle.lock_command.specs.declared.record.LockRecord.{LockRecord}
use Rattle.lock_index.specs.Printed.{printed_cmp}
use Rattle.lock_index.specs.Placed.{placed}
use Rattle.lock_index.specs.Indexed.{stands_before_rank}
use Rattle.lock_index.specs.Keys.{key_of, lock_key, HasKey}
use Rattle.lock_index.proofs.PrintedOrder.{printed_order}
use Rattle.lock_index.proofs.Keyed.{is_lt_nat}
use Rattle.lock_index.proofs.Cuts.{inserted_is_placed}
use Rattle.lock_index.proofs.Spelled.{printed_by_key, before_by_key}

lower : (a b : LockRecord) → HasKey a → HasKey b → nat_lt (lock_key a) (lock_key b) ≡ is_lt (printed_cmp a b)
lower a b one two = sym (is_lt_nat (lock_key a) (lock_key b)) ∙ ap is_lt (printed_by_key a b one two)

below_too : (x y key : ℕ) → nat_lt y x ≡ false → nat_lt y key ≡ true → nat_lt x key ≡ true
below_too x y key not_lower passes = lt-ltb x key (omega (arith, ltb-false y x not_lower, ltb-true y key passes))

next_below : (a b : ℕ) → nat_lt b (a + 1) ≡ not (nat_lt a b)
next_below a b = elim (cases_lt a b) as (λ w. nat_lt b (a + 1) ≡ not (nat_lt a b)) [
  | inl less ↦ le-ltb b (a + 1) (omega (arith, less)) ∙ ap not (sym (lt-ltb a b less))
  | inr not_less ↦ lt-ltb b (a + 1) (omega (arith, not_less)) ∙ ap not (sym (le-ltb a b not_less))
]

-- where one test cuts a list, another cuts it that tells the same of each element
same_point : {X : Type 0} (p q : X → Bool) (xs : List X) (i : ℕ) → i ≤ length xs → AllWithin (λ x. p x ≡ q x) xs 0 (length xs)
    → IsPartitionPoint (λ x. p x ≡ true) (λ x. p x ≡ false) xs i → IsPartitionPoint (λ x. q x ≡ true) (λ x. q x ≡ false) xs i
same_point p q xs i bound same point = (
  λ k d low high. sym (same k d low (omega (arith, high, bound))) ∙ point.0 k d low high,
  λ k d low high. sym (same k d (omega arith) high) ∙ point.1 k d low high,
)

module _ (xs : List LockRecord) (fit : AllWithin HasKey xs 0 (length xs)) where
  -- locks of lower keys stand in front
  pub below_partitioned : (key : ℕ) → IsSorted printed_cmp xs → IsPartitionedBy (λ r. nat_lt (lock_key r) key) xs
  below_partitioned key up i j d before inside passes =
      let a = get_or xs i d in
      let b = get_or xs j d in
      let one : HasKey a = fit i d (omega arith) (omega (arith, before, inside)) in
      let two : HasKey b = fit j d (omega arith) inside in
      below_too (lock_key a) (lock_key b) key (lower b a two one ∙ sorted_far (λ x y. is_lt (printed_cmp x y)) printed_order xs up i j d before inside) passes

  -- so a search by key finds where a name and a rank begin
  pub rank_point : (name : List ℕ) (rank key i : ℕ) → IsName name → rank < 4 → key ≡ key_of name rank 0 → i ≤ length xs
      → IsPartitionPoint (λ r. nat_lt (lock_key r) key ≡ true) (λ r. nat_lt (lock_key r) key ≡ false) xs i
      → IsPartitionPoint (λ r. stands_before_rank name rank r ≡ true) (λ r. stands_before_rank name rank r ≡ false) xs i
  rank_point name rank key i named few is bound point =
      same_point (λ r. nat_lt (lock_key r) key) (stands_before_rank name rank) xs i bound
      (λ k d low high. ap (nat_lt (lock_key (get_or xs k d))) is ∙ before_by_key name rank (get_or xs k d) (fit k d low high) named few) point

  -- and where a record joins the others
  pub joins_at : (new : LockRecord) (key i : ℕ) → HasKey new → key ≡ lock_key new → i ≤ length xs
      → IsPartitionPoint (λ r. nat_lt (lock_key r) (key + 1) ≡ true) (λ r. nat_lt (lock_key r) (key + 1) ≡ false) xs i → insert xs i new ≡ placed printed_cmp new xs
  joins_at new key i own is bound point =
      inserted_is_placed printed_cmp new xs i
      (same_point (λ r. nat_lt (lock_key r) (key + 1)) (λ r. not (is_lt (printed_cmp new r))) xs i bound
      (λ k d low high. ap (λ n. nat_lt (lock_key (get_or xs k d)) (n + 1)) is ∙ next_below (lock_key new) (lock_key (get_or xs k d)) ∙ ap not (lower new (get_or xs k d) own (fit k d low high)))
      point)

  -- and in front of it none but those that are printed before it
  pub below_own : (own : LockRecord) (key i : ℕ) → HasKey own → key ≡ lock_key own → i ≤ length xs → AllWithin (λ r. nat_lt (lock_key r) key ≡ true) xs 0 i
      → AllWithin (λ r. is_lt (printed_cmp r own) ≡ true) xs 0 i
  below_own own key i fits is bound front = λ k d low high.
      sym (lower (get_or xs k d) own (fit k d low (omega (arith, high, bound))) fits) ∙ ap (nat_lt (lock_key (get_or xs k d))) (sym is) ∙ front k d low high
