-- A granted lock in another mode stands where it stood.
use Rattle.std.proofs.Common.{◌≡◌, ◌<◌, ℕ, suc, true, false, ◌==◌, List, length, get_or, take, drop, remove, set, refl, sym, ap, ◌∙◌, arith}
use Rattle.std.specs.List.Sorted.{IsSorted}
use Rattle.std.specs.Ordering.{is_lt, nat_cmp, ordering_then, ordering_reverse}
use Rattle.std.specs.Cmp.Lexicographic.{slice_cmp}
use Rattle.std.specs.declared.cmp.Ordering.TheVariants.{Less, Equal, Greater}
use Rattle.std.proofs.lemmas.Bool.{eq-eqb}
use Rattle.std.proofs.lemmas.List.{set_split}
use Rattle.std.proofs.lemmas.List.Sorted.{sorted_far}
use Rattle.lock_command.specs.declared.state.LockState.{LockState}
use Rattle.lock_command.specs.declared.state.LockState.TheVariants.{Granted, Converting, Waiting}
use Rattle.lock_command.specs.declared.record.LockRecord.{LockRecord}
use Rattle.lock_command.specs.State.{is_queued}
use Rattle.lock_command.specs.Locks.{is_lock, without, in_state, IsDistinct}
use Rattle.lock_index.specs.Printed.{rank_of, number_among, printed_cmp}
use Rattle.lock_index.specs.Placed.{placed}
use Rattle.lock_index.specs.Indexed.{stands_before_rank}
use Rattle.lock_index.specs.Keys.{key_of, lock_key, HasKey}
use Rattle.lock_index.proofs.Cuts.{each_in_front, each_behind, placed_between}
use Rattle.lock_index.proofs.PrintedOrder.{printed_total, printed_order}
use Rattle.lock_index.proofs.Standing.{none_later}
use Rattle.lock_index.proofs.Unique.{printed_equal, granted_number}

granted_rank : (s : LockState) → is_queued s ≡ false → rank_of s ≡ 0
granted_rank (Granted mode) granted = refl
granted_rank (Converting held wanted) granted = let impossible : ⊥ = cc in absurd impossible
granted_rank (Waiting wanted) granted = let impossible : ⊥ = cc in absurd impossible

granted_among : (s : LockState) (lock : ℕ) → is_queued s ≡ false → number_among s lock ≡ lock
granted_among (Granted mode) lock granted = refl
granted_among (Converting held wanted) lock granted = let impossible : ⊥ = cc in absurd impossible
granted_among (Waiting wanted) lock granted = let impossible : ⊥ = cc in absurd impossible

-- a state is no part of what has to fit
pub fits_still : (own : LockRecord) (s : LockState) → HasKey own → HasKey (in_state own s)
fits_still own s fits = record { named = fits.named; number = fits.number }

module _ (own : LockRecord) (granted : is_queued own.state ≡ false) where
  module _ (s : LockState) (stays : is_queued s ≡ false) where
    rank : rank_of s ≡ rank_of own.state
    rank = granted_rank s stays ∙ sym (granted_rank own.state granted)

    -- so it stands before the same ranks
    pub same_rank : (name : List ℕ) (n : ℕ) → stands_before_rank name n (in_state own s) ≡ stands_before_rank name n own
    same_rank name n = λ i. is_lt (ordering_then (slice_cmp nat_cmp own.name name) (nat_cmp (rank i) n))

    among : number_among s own.lock ≡ number_among own.state own.lock
    among = granted_among s own.lock stays ∙ sym (granted_among own.state own.lock granted)

    pub same_key : lock_key (in_state own s) ≡ lock_key own
    same_key = λ i. key_of own.name (rank i) (among i)

    same_cmp : (y : LockRecord) → printed_cmp (in_state own s) y ≡ printed_cmp own y
    same_cmp y = λ i. ordering_then (slice_cmp nat_cmp own.name y.name) (ordering_then (nat_cmp (rank i) (rank_of y.state)) (nat_cmp (among i) (number_among y.state y.lock)))

  -- no other lock ties with a granted one
  other_above : (y : LockRecord) → is_lock own.lock y ≡ false → is_lt (printed_cmp y own) ≡ false → is_lt (printed_cmp own y) ≡ true
  other_above y other not_below =
      elim (printed_cmp own y) as (λ o. printed_cmp own y ≡ o → is_lt o ≡ true) [
        | Less ↦ λ e. refl
        | Equal ↦ λ e.
            let tie = printed_equal own y e in
            let same = granted_number y.state y.lock own.lock (sym (granted_rank own.state granted) ∙ tie.1) (ap (λ n. number_among y.state y.lock == n) (sym (granted_among own.state own.lock granted)) ∙ tie.2) in
            let clash : true ≡ false = sym same ∙ other in
            let impossible : ⊥ = cc in absurd impossible
        | Greater ↦ λ e.
            let clash : true ≡ false = ap is_lt (sym (ap ordering_reverse e)) ∙ ap is_lt (sym (printed_total.antisymm y own)) ∙ not_below in
            let impossible : ⊥ = cc in absurd impossible
      ] refl

  -- so it is placed where it stood
  pub set_is_placed : (s : LockState) → is_queued s ≡ false → (xs : List LockRecord) (at : ℕ) → IsSorted printed_cmp xs → IsDistinct xs → at < length xs → ((d : LockRecord) → get_or xs at d ≡ own)
      → remove xs at ≡ without xs own.lock → set xs at (in_state own s) ≡ placed printed_cmp (in_state own s) (without xs own.lock)
  set_is_placed s stays xs at sorted distinct inside here left =
      let new = in_state own s in
      set_split xs at new inside
      ∙ placed_between printed_cmp new (take at xs) (drop (suc at) xs)
      (each_in_front printed_cmp (λ y. is_lt (printed_cmp new y) ≡ false) xs at (λ k d from front.
      ap is_lt (same_cmp s stays (get_or xs k d))
      ∙ ap (λ r. is_lt (printed_cmp r (get_or xs k d))) (sym (here d))
      ∙ sorted_far (λ a b. is_lt (printed_cmp a b)) printed_order xs sorted k at d (omega (arith, front)) inside))
      (each_behind printed_cmp (λ y. is_lt (printed_cmp new y) ≡ true) xs (suc at) (λ k d behind end.
      ap is_lt (same_cmp s stays (get_or xs k d))
      ∙ other_above (get_or xs k d)
      (none_later (is_lock own.lock) xs at k d (omega (arith, behind)) end (ap (is_lock own.lock) (here d) ∙ eq-eqb own.lock own.lock refl) (distinct own.lock))
      (ap (λ r. is_lt (printed_cmp (get_or xs k d) r)) (sym (here d)) ∙ sorted_far (λ a b. is_lt (printed_cmp a b)) printed_order xs sorted at k d (omega (arith, behind)) end)))
      ∙ ap (placed printed_cmp new) left
