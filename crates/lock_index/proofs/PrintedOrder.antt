-- Locks in printed order are the same locks.
use Rattle.std.proofs.Common.{◌≡◌, ℕ, Bool, true, false, ◌&&◌, List, refl, sym, ap, ◌∙◌}
use Rattle.std.specs.Ordering.{is_lt, nat_cmp, ordering_then}
use Rattle.std.specs.Cmp.{IsTotalOrder, IsStrictWeakOrder}
use Rattle.std.specs.Cmp.Lexicographic.{slice_cmp}
use Rattle.std.specs.declared.cmp.Ordering.{Ordering}
use Rattle.std.specs.declared.cmp.Ordering.TheVariants.{Equal}
use Rattle.std.proofs.lemmas.Cmp.{then_total, on_total, nat_cmp_total, nat_list_cmp_total, tied_itself}
use Rattle.std.proofs.lemmas.List.MinMax.{ranks_by}
use Rattle.lock_command.specs.declared.record.LockRecord.{LockRecord}
use Rattle.lock_command.specs.declared.state.LockState.{LockState}
use Rattle.lock_command.specs.declared.state.LockState.TheVariants.{Granted, Converting, Waiting}
use Rattle.lock_command.specs.State.{is_converting, is_waiting}
use Rattle.lock_command.specs.Locks.{is_lock, is_on, converts_on, waits_on, IsDistinct}
use Rattle.lock_index.specs.Printed.{rank_of, number_among, printed_cmp, HasSameLocks}
use Rattle.lock_index.specs.Placed.{in_order}
use Rattle.lock_index.proofs.Apart.{name_is}
use Rattle.lock_index.proofs.Ordered.{filter-in_order, filter-in_order_single}

pub printed_total : IsTotalOrder printed_cmp
printed_total =
    then_total (on_total (λ (r : LockRecord). r.name) nat_list_cmp_total)
    (then_total (on_total (λ (r : LockRecord). rank_of r.state) nat_cmp_total) (on_total (λ (r : LockRecord). number_among r.state r.lock) nat_cmp_total))

pub printed_order : IsStrictWeakOrder (λ a b. is_lt (printed_cmp a b))
printed_order = ranks_by printed_total (λ (r : LockRecord). r)

both_parts : (a b : Bool) → (a && b) ≡ true → (a ≡ true) × (b ≡ true)
both_parts true b h = (refl, h)
both_parts false b h = let impossible : ⊥ = cc in absurd impossible

-- what locks of one queue are compared by
states_cmp : LockState → LockState → ℕ → ℕ → Ordering
states_cmp s t lock other = ordering_then (nat_cmp (rank_of s) (rank_of t)) (nat_cmp (number_among s lock) (number_among t other))

conversions_tie : (s t : LockState) (lock other : ℕ) → is_converting s ≡ true → is_converting t ≡ true → states_cmp s t lock other ≡ Equal
unfolding states_cmp
conversions_tie (Converting h w) (Converting i v) lock other one two = refl
conversions_tie (Granted m) t lock other one two = let impossible : ⊥ = cc in absurd impossible
conversions_tie (Waiting m) t lock other one two = let impossible : ⊥ = cc in absurd impossible
conversions_tie (Converting h w) (Granted m) lock other one two = let impossible : ⊥ = cc in absurd impossible
conversions_tie (Converting h w) (Waiting m) lock other one two = let impossible : ⊥ = cc in absurd impossible

waiting_tie : (s t : LockState) (lock other : ℕ) → is_waiting s ≡ true → is_waiting t ≡ true → states_cmp s t lock other ≡ Equal
unfolding states_cmp
waiting_tie (Waiting w) (Waiting v) lock other one two = refl
waiting_tie (Granted m) t lock other one two = let impossible : ⊥ = cc in absurd impossible
waiting_tie (Converting h w) t lock other one two = let impossible : ⊥ = cc in absurd impossible
waiting_tie (Waiting w) (Granted m) lock other one two = let impossible : ⊥ = cc in absurd impossible
waiting_tie (Waiting w) (Converting h m) lock other one two = let impossible : ⊥ = cc in absurd impossible

names_tie : (name : List ℕ) (x z : LockRecord) → is_on name x ≡ true → is_on name z ≡ true → slice_cmp nat_cmp x.name z.name ≡ Equal
names_tie name x z one two = ap (λ n. slice_cmp nat_cmp n z.name) (name_is x.name name one ∙ sym (name_is z.name name two)) ∙ tied_itself nat_list_cmp_total z.name

queue_ties : (name : List ℕ) (x z : LockRecord) → is_on name x ≡ true → is_on name z ≡ true → states_cmp x.state z.state x.lock z.lock ≡ Equal → is_lt (printed_cmp x z) ≡ false
unfolding states_cmp
queue_ties name x z one two states = λ i. is_lt (ordering_then (names_tie name x z one two i) (states i))

-- locks in printed order are the same locks
pub same_in_order : (a : List LockRecord) → IsDistinct a → HasSameLocks (in_order printed_cmp a) a
same_in_order a distinct = record {
  numbers = λ lock. filter-in_order_single printed_cmp printed_order (is_lock lock) a (distinct lock);
  conversions = λ name. filter-in_order printed_cmp printed_order (converts_on name) (λ x z one two.
      queue_ties name x z (both_parts _ _ one).0 (both_parts _ _ two).0 (conversions_tie x.state z.state x.lock z.lock (both_parts _ _ one).1 (both_parts _ _ two).1)) a;
  waiting = λ name. filter-in_order printed_cmp printed_order (waits_on name) (λ x z one two.
      queue_ties name x z (both_parts _ _ one).0 (both_parts _ _ two).0 (waiting_tie x.state z.state x.lock z.lock (both_parts _ _ one).1 (both_parts _ _ two).1)) a;
}
