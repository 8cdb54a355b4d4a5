-- Where the granted locks of a name end.
use Rattle.std.proofs.Common.{◌≡◌, ◌≤◌, ◌<◌, ◌+◌, ◌-◌, ℕ, Bool, true, false, List, length, get_or, insert, remove, refl, sym, ap, ◌∙◌, inl, inr, arith}
use Rattle.std.specs.List.Sorted.{IsPartitionPoint}
use Rattle.std.specs.Ordering.{is_lt, nat_cmp, ordering_then}
use Rattle.std.specs.Cmp.Lexicographic.{slice_cmp}
use Rattle.std.specs.declared.cmp.Ordering.{Ordering}
use Rattle.std.specs.declared.cmp.Ordering.TheVariants.{Less, Equal, Greater}
use Rattle.std.proofs.lemmas.Bool.{cases_lt}
use Rattle.std.proofs.lemmas.Cmp.{nat_list_cmp_total, tied_itself}
use Rattle.std.proofs.lemmas.List.Edits.{length-insert, length-remove, get_or-insert_at, get_or-insert_below, get_or-insert_above, get_or-remove_below, get_or-remove_above}
use Rattle.lock_command.specs.declared.state.LockState.{LockState}
use Rattle.lock_command.specs.declared.state.LockState.TheVariants.{Granted, Converting, Waiting}
use Rattle.lock_command.specs.declared.record.LockRecord.{LockRecord}
use Rattle.lock_command.specs.State.{is_queued}
use Rattle.lock_index.specs.Printed.{rank_of, number_among}
use Rattle.lock_index.specs.Indexed.{stands_before_rank, IsGrantedEnd}
use Rattle.lock_index.specs.Shelved.{no_lock}
use Rattle.lock_index.proofs.Holders.{rank_not_lowest}

-- A cut stays where one behind it is taken out, and moves by one where one in front of it is.
pub cut_without : {X : Type 0} (p : X → Bool) (xs : List X) (at cut rest : ℕ) → at < length xs → cut ≤ length xs
    → IsPartitionPoint (λ x. p x ≡ true) (λ x. p x ≡ false) xs cut → (at < cut → rest + 1 ≡ cut) → (cut ≤ at → rest ≡ cut)
    → (rest ≤ length (remove xs at)) × IsPartitionPoint (λ x. p x ≡ true) (λ x. p x ≡ false) (remove xs at) rest
cut_without p xs at cut rest inside bound point front behind =
    let fewer = length-remove xs at inside in
    elim (cases_lt at cut) as (λ w. (rest ≤ length (remove xs at)) × IsPartitionPoint (λ x. p x ≡ true) (λ x. p x ≡ false) (remove xs at) rest) [
      | inl before ↦
          let is = front before in (
            omega (arith, is, fewer, bound),
            (
              λ k d low high. elim (cases_lt k at) as (λ w. p (get_or (remove xs at) k d) ≡ true) [
                | inl less ↦ ap p (get_or-remove_below xs at d k less inside) ∙ point.0 k d low (omega (arith, high, is))
                | inr more ↦ ap p (get_or-remove_above xs at d k more inside) ∙ point.0 (k + 1) d (omega arith) (omega (arith, high, is))
              ],
              λ k d low high. ap p (get_or-remove_above xs at d k (omega (arith, low, is, before)) inside) ∙ point.1 (k + 1) d (omega (arith, low, is)) (omega (arith, high, fewer)),
            ),
          )
      | inr after ↦
          let is = behind after in (
            omega (arith, is, fewer, after, inside),
            (
              λ k d low high. ap p (get_or-remove_below xs at d k (omega (arith, high, is, after)) inside) ∙ point.0 k d low (omega (arith, high, is)),
              λ k d low high. elim (cases_lt k at) as (λ w. p (get_or (remove xs at) k d) ≡ false) [
                | inl less ↦ ap p (get_or-remove_below xs at d k less inside) ∙ point.1 k d (omega (arith, low, is)) (omega (arith, less, inside))
                | inr more ↦ ap p (get_or-remove_above xs at d k more inside) ∙ point.1 (k + 1) d (omega (arith, low, is)) (omega (arith, high, fewer))
              ],
            ),
          )
    ]

-- A cut moves by one where one that passes is put in in front of it.
pub cut_with : {X : Type 0} (p : X → Bool) (xs : List X) (x : X) (at cut : ℕ) → p x ≡ true → at ≤ cut → cut ≤ length xs
    → IsPartitionPoint (λ y. p y ≡ true) (λ y. p y ≡ false) xs cut
    → (cut + 1 ≤ length (insert xs at x)) × IsPartitionPoint (λ y. p y ≡ true) (λ y. p y ≡ false) (insert xs at x) (cut + 1)
cut_with p xs x at cut passes front bound point =
    let more = length-insert xs at x (omega (arith, front, bound)) in
    let fits : at ≤ length xs = omega (arith, front, bound) in (
      omega (arith, more, bound),
      (
        λ k d low high. elim (cases_lt k at) as (λ w. p (get_or (insert xs at x) k d) ≡ true) [
          | inl less ↦ ap p (get_or-insert_below xs at x d k less fits) ∙ point.0 k d low (omega (arith, less, front))
          | inr after ↦ elim (cases_lt at k) as (λ w. p (get_or (insert xs at x) k d) ≡ true) [
            | inl above ↦
                let is : k ≡ k - 1 + 1 = omega (arith, above) in
                ap (λ i. p (get_or (insert xs at x) i d)) is
                ∙ ap p (get_or-insert_above xs at x d (k - 1) (omega (arith, above)) fits) ∙ point.0 (k - 1) d (omega arith) (omega (arith, high, above))
            | inr not_above ↦
                let is : k ≡ at = omega (arith, after, not_above) in
                ap (λ i. p (get_or (insert xs at x) i d)) is ∙ ap p (get_or-insert_at xs at x d fits) ∙ passes
          ]
        ],
        λ k d low high.
            let is : k ≡ k - 1 + 1 = omega (arith, low) in
            ap (λ i. p (get_or (insert xs at x) i d)) is
            ∙ ap p (get_or-insert_above xs at x d (k - 1) (omega (arith, low, front)) fits) ∙ point.1 (k - 1) d (omega (arith, low)) (omega (arith, high, more, low)),
      ),
    )

lower_then : (o p : Ordering) → is_lt o ≡ true → is_lt (ordering_then o p) ≡ true
lower_then Less p h = refl
lower_then Equal p h = let impossible : ⊥ = cc in absurd impossible
lower_then Greater p h = let impossible : ⊥ = cc in absurd impossible

-- what stands before the granted locks stands before the queues
before_queues : (name : List ℕ) (r : LockRecord) → stands_before_rank name 0 r ≡ true → stands_before_rank name 1 r ≡ true
before_queues name r h =
    lower_then (slice_cmp nat_cmp r.name name) (nat_cmp (rank_of r.state) 1) (sym (rank_not_lowest (slice_cmp nat_cmp r.name name) (rank_of r.state)) ∙ h)

granted_in_front : (s : LockState) → is_queued s ≡ false → is_lt (nat_cmp (rank_of s) 1) ≡ true
granted_in_front (Granted mode) h = refl
granted_in_front (Converting held wanted) h = let impossible : ⊥ = cc in absurd impossible
granted_in_front (Waiting wanted) h = let impossible : ⊥ = cc in absurd impossible

module _ (name : List ℕ) (xs : List LockRecord) (from end : ℕ) (inside : from ≤ length xs)
    (point : IsPartitionPoint (λ r. stands_before_rank name 0 r ≡ true) (λ r. stands_before_rank name 0 r ≡ false) xs from) (ends : IsGrantedEnd name xs end) where
  -- the granted locks of a name begin before they end
  pub begins_before : from ≤ end
  begins_before = elim (cases_lt end from) as (λ w. from ≤ end) [
    | inl less ↦
        let r = get_or xs end no_lock in
        let clash : true ≡ false = sym (before_queues name r (point.0 end no_lock (omega arith) less)) ∙ ends.point.1 end no_lock (omega arith) (omega (arith, less, inside)) in
        let impossible : ⊥ = cc in absurd impossible
    | inr more ↦ more
  ]

pub held_is_first : (s : LockState) (lock : ℕ) → is_queued s ≡ false → (rank_of s ≡ 0) × (number_among s lock ≡ lock)
held_is_first (Granted mode) lock h = (refl, refl)
held_is_first (Converting held wanted) lock h = let impossible : ⊥ = cc in absurd impossible
held_is_first (Waiting wanted) lock h = let impossible : ⊥ = cc in absurd impossible

-- a lock that holds and wants nothing more stands before the queues
pub held_in_front : (name : List ℕ) (new : LockRecord) → name ≡ new.name → is_queued new.state ≡ false → stands_before_rank name 1 new ≡ true
held_in_front name new named held =
    (λ i. is_lt (ordering_then (slice_cmp nat_cmp (sym named i) name) (nat_cmp (rank_of new.state) 1)))
    ∙ (λ i. is_lt (ordering_then (tied_itself nat_list_cmp_total name i) (nat_cmp (rank_of new.state) 1)))
    ∙ granted_in_front new.state held
