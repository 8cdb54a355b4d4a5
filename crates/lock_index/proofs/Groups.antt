-- Where the granted locks of a name stand, as locks come and go.
use Rattle.std.proofs.Common.{cond, drop, Some, None, ◌≡◌, ◌≤◌, ◌<◌, ◌+◌, ◌-◌, ℕ, Bool, true, false, nat_lt, List, length, get_or, insert, remove, set, refl, sym, ap, ◌∙◌, inl, inr, arith}
use Rattle.std.specs.List.{AllWithin}
use Rattle.std.specs.List.Sorted.{IsSorted, IsPartitionPoint}
use Rattle.std.specs.Ordering.{is_lt, nat_cmp, ordering_then, ordering_reverse}
use Rattle.std.specs.declared.cmp.Ordering.TheVariants.{Less, Equal, Greater}
use Rattle.std.specs.Cmp.Lexicographic.{slice_cmp}
use Rattle.std.proofs.lemmas.Bool.{cases_lt, ltb-true, ltb-false, lt-ltb, le-ltb}
use Rattle.std.proofs.lemmas.Cmp.{nat_list_cmp_total, tied_itself}
use Rattle.std.proofs.lemmas.Option.{slice_get-get_or}
use Rattle.std.proofs.lemmas.List.{drop_all, length-set, get_or-set_same, get_or-set_other}
use Rattle.std.proofs.lemmas.List.Edits.{length-insert, get_or-insert_at, get_or-insert_below, get_or-insert_above}
use Rattle.lock_command.specs.Name.{IsName}
use Rattle.lock_command.specs.declared.state.LockState.{LockState}
use Rattle.lock_command.specs.declared.state.LockState.TheVariants.{Granted, Converting, Waiting}
use Rattle.lock_command.specs.declared.record.LockRecord.{LockRecord}
use Rattle.lock_command.specs.State.{is_queued}
use Rattle.lock_command.specs.Locks.{is_on, head_of}
use Rattle.lock_index.specs.Printed.{rank_of, number_among, printed_cmp}
use Rattle.lock_index.specs.Indexed.{stands_before_rank, IsGrantedEnd, IsGrantedGroup}
use Rattle.lock_index.specs.Keys.{key_of, lock_key, HasKey}
use Rattle.lock_index.specs.Narrowed.{IsNarrowed}
use Rattle.lock_index.specs.Shelved.{no_lock}
use Rattle.lock_index.proofs.Holders.{rank_not_lowest}
use Rattle.lock_index.proofs.Granting.{begins_before, cut_without, cut_with, held_is_first, held_in_front}
use Rattle.lock_index.proofs.Spelled.{before_by_key}
use Rattle.lock_index.proofs.Cuts.{slice_get_is_first}
use Rattle.lock_index.proofs.Keyed.{first_if}
use Rattle.lock_index.proofs.Parts.{first}
use Rattle.lock_index.proofs.Queued.{head_at_cut, tied_names}
use Rattle.lock_index.proofs.Unique.{names_equal}

-- A cut stays where one that fails is put in behind it.
pub cut_behind : {X : Type 0} (p : X → Bool) (xs : List X) (x : X) (at cut : ℕ) → p x ≡ false → cut ≤ at → at ≤ length xs
    → IsPartitionPoint (λ y. p y ≡ true) (λ y. p y ≡ false) xs cut
    → (cut ≤ length (insert xs at x)) × IsPartitionPoint (λ y. p y ≡ true) (λ y. p y ≡ false) (insert xs at x) cut
cut_behind p xs x at cut fails behind fits point =
    let more = length-insert xs at x fits in (
      omega (arith, more, behind, fits),
      (
        λ k d low high. ap p (get_or-insert_below xs at x d k (omega (arith, high, behind)) fits) ∙ point.0 k d low high,
        λ k d low high. elim (cases_lt k at) as (λ w. p (get_or (insert xs at x) k d) ≡ false) [
          | inl less ↦ ap p (get_or-insert_below xs at x d k less fits) ∙ point.1 k d low (omega (arith, less, fits))
          | inr after ↦ elim (cases_lt at k) as (λ w. p (get_or (insert xs at x) k d) ≡ false) [
            | inl above ↦
                let is : k ≡ k - 1 + 1 = omega (arith, above) in
                ap (λ i. p (get_or (insert xs at x) i d)) is
                ∙ ap p (get_or-insert_above xs at x d (k - 1) (omega (arith, above)) fits) ∙ point.1 (k - 1) d (omega (arith, above, behind)) (omega (arith, high, more, above))
            | inr not_above ↦
                let is : k ≡ at = omega (arith, after, not_above) in
                ap (λ i. p (get_or (insert xs at x) i d)) is ∙ ap p (get_or-insert_at xs at x d fits) ∙ fails
          ]
        ],
      ),
    )

-- A cut stays where one is replaced that the test does not tell from it.
pub cut_set : {X : Type 0} (p : X → Bool) (xs : List X) (x : X) (at cut : ℕ) → at < length xs → ((d : X) → p x ≡ p (get_or xs at d)) → cut ≤ length xs
    → IsPartitionPoint (λ y. p y ≡ true) (λ y. p y ≡ false) xs cut
    → (cut ≤ length (set xs at x)) × IsPartitionPoint (λ y. p y ≡ true) (λ y. p y ≡ false) (set xs at x) cut
cut_set {X} p xs x at cut inside same bound point =
    let long : length (set xs at x) ≡ length xs = length-set xs at x in
    let stays : (k : ℕ) (d : X) → p (get_or (set xs at x) k d) ≡ p (get_or xs k d) = λ k d.
    elim (cases_lt k at) as (λ w. p (get_or (set xs at x) k d) ≡ p (get_or xs k d)) [
      | inl less ↦ ap p (get_or-set_other xs at k x d (λ e. absurd (omega (arith, e, less))))
      | inr after ↦ elim (cases_lt at k) as (λ w. p (get_or (set xs at x) k d) ≡ p (get_or xs k d)) [
        | inl above ↦ ap p (get_or-set_other xs at k x d (λ e. absurd (omega (arith, e, above))))
        | inr not_above ↦
            let is : k ≡ at = omega (arith, after, not_above) in
            ap (λ i. p (get_or (set xs at x) i d)) is ∙ ap p (get_or-set_same xs at x d inside) ∙ same d ∙ ap (λ i. p (get_or xs i d)) (sym is)
      ]
    ] in (
      omega (arith, long, bound),
      (
        λ k d low high. stays k d ∙ point.0 k d low high,
        λ k d low high. stays k d ∙ point.1 k d low (omega (arith, high, long)),
      ),
    )

-- A lock of the name stands behind those of lower names.
pub not_before_own : (name : List ℕ) (r : LockRecord) → name ≡ r.name → stands_before_rank name 0 r ≡ false
not_before_own name r named =
    rank_not_lowest (slice_cmp nat_cmp r.name name) (rank_of r.state)
    ∙ (λ i. is_lt (slice_cmp nat_cmp (sym named i) name)) ∙ ap is_lt (tied_itself nat_list_cmp_total name)

queued_later : (s : LockState) → is_queued s ≡ true → is_lt (nat_cmp (rank_of s) 1) ≡ false
queued_later (Granted mode) h = let impossible : ⊥ = cc in absurd impossible
queued_later (Converting held wanted) h = refl
queued_later (Waiting wanted) h = refl

queued_rank : (s : LockState) → is_queued s ≡ true → 1 ≤ rank_of s
queued_rank (Granted mode) h = let impossible : ⊥ = cc in absurd impossible
queued_rank (Converting held wanted) h = omega arith
queued_rank (Waiting wanted) h = omega arith

-- One that queues stands behind those that are granted.
pub queued_not_before : (name : List ℕ) (r : LockRecord) → name ≡ r.name → is_queued r.state ≡ true → stands_before_rank name 1 r ≡ false
queued_not_before name r named queued =
    (λ i. is_lt (ordering_then (slice_cmp nat_cmp (sym named i) name) (nat_cmp (rank_of r.state) 1)))
    ∙ (λ i. is_lt (ordering_then (tied_itself nat_list_cmp_total name i) (nat_cmp (rank_of r.state) 1)))
    ∙ queued_later r.state queued

-- Which keys the granted locks of a name have, and which those that queue.
pub granted_key : (name : List ℕ) (r : LockRecord) → name ≡ r.name → is_queued r.state ≡ false → lock_key r ≡ key_of name 0 r.lock
granted_key name r named granted =
    let first = held_is_first r.state r.lock granted in
    λ i. key_of (sym named i) (first.0 i) (first.1 i)

pub queued_key : (name : List ℕ) (r : LockRecord) → name ≡ r.name → is_queued r.state ≡ true → key_of name 1 0 ≤ lock_key r
queued_key name r named queued =
    let is : lock_key r ≡ key_of name (rank_of r.state) (number_among r.state r.lock) = λ i. key_of (sym named i) (rank_of r.state) (number_among r.state r.lock) in
    omega (arith, is, queued_rank r.state queued)

module _ (name : List ℕ) (xs : List LockRecord) (fit : AllWithin HasKey xs 0 (length xs)) (is_name : IsName name) (rank cut : ℕ) (few : rank < 4) (bound : cut ≤ length xs)
    (point : IsPartitionPoint (λ r. stands_before_rank name rank r ≡ true) (λ r. stands_before_rank name rank r ≡ false) xs cut) where
  -- those in front of a rank have lower keys than those that begin there
  pub lower_in_front : (key : ℕ) → key_of name rank 0 ≤ key → AllWithin (λ r. nat_lt (lock_key r) key ≡ true) xs 0 cut
  lower_in_front key more = λ k d low high.
      let r = get_or xs k d in
      let less : lock_key r < key_of name rank 0 = ltb-true _ _ (before_by_key name rank r (fit k d low (omega (arith, high, bound))) is_name few ∙ point.0 k d low high) in
      lt-ltb (lock_key r) key (omega (arith, less, more))

  pub no_lower_behind : (key : ℕ) → key ≤ key_of name rank 0 → AllWithin (λ r. nat_lt (lock_key r) key ≡ false) xs cut (length xs)
  no_lower_behind key less = λ k d low high.
      let r = get_or xs k d in
      let more : key_of name rank 0 ≤ lock_key r = ltb-false _ _ (before_by_key name rank r (fit k d (omega arith) high) is_name few ∙ point.1 k d low high) in
      le-ltb (lock_key r) key (omega (arith, less, more))

  -- so a key that is no lower has its place behind them
  pub place_behind : (key at : ℕ) → key_of name rank 0 ≤ key → AllWithin (λ r. nat_lt (lock_key r) key ≡ false) xs at (length xs) → cut ≤ at
  place_behind key at more fails = elim (cases_lt at cut) as (λ w. cut ≤ at) [
    | inl less ↦
        let clash : true ≡ false = sym (lower_in_front key more at no_lock (omega arith) less) ∙ fails at no_lock (omega arith) (omega (arith, less, bound)) in
        let impossible : ⊥ = cc in absurd impossible
    | inr not_less ↦ not_less
  ]

  -- and one that is no higher has it in front of the others
  pub place_in_front : (key at : ℕ) → key ≤ key_of name rank 0 → at ≤ length xs → AllWithin (λ r. nat_lt (lock_key r) key ≡ true) xs 0 at → at ≤ cut
  place_in_front key at less inside passes = elim (cases_lt cut at) as (λ w. at ≤ cut) [
    | inl more ↦
        let clash : true ≡ false = sym (passes cut no_lock (omega arith) more) ∙ no_lower_behind key less cut no_lock (omega arith) (omega (arith, more, inside)) in
        let impossible : ⊥ = cc in absurd impossible
    | inr not_more ↦ not_more
  ]

module _ (name : List ℕ) (xs : List LockRecord) (begin end : ℕ) (group : IsGrantedGroup name xs begin end) where
  -- the granted locks of a name begin before they end
  pub group_ordered : begin ≤ end
  group_ordered = begins_before name xs begin end group.bound group.point group.ends

  -- so the place of a granted lock is among them
  pub group_narrows : AllWithin HasKey xs 0 (length xs) → IsName name → (key : ℕ) → key_of name 0 0 ≤ key → key ≤ key_of name 1 0
      → IsNarrowed (λ r. nat_lt (lock_key r) key) xs begin (end - begin)
  group_narrows fit is_name key more less = record {
    front = lower_in_front name xs fit is_name 0 begin (omega arith) group.bound group.point key more;
    behind = λ k d low high.
        no_lower_behind name xs fit is_name 1 end (omega arith) group.ends.bound group.ends.point key less k d (omega (arith, low, group_ordered)) high;
    inside = omega (arith, group_ordered, group.ends.bound);
  }

  -- one of them is taken out, or one behind them
  pub group_without : (at rest : ℕ) (own : LockRecord) → at < length xs → ((d : LockRecord) → get_or xs at d ≡ own) → name ≡ own.name → (at < end → rest + 1 ≡ end) → (end ≤ at → rest ≡ end)
      → IsGrantedGroup name (remove xs at) begin rest
  group_without at rest own inside here named front behind =
      let clash : at < begin → ⊥ = λ less.
      let both : true ≡ false = sym (group.point.0 at no_lock (omega arith) less) ∙ ap (stands_before_rank name 0) (here no_lock) ∙ not_before_own name own named in
      cc in
      let begins = cut_without (stands_before_rank name 0) xs at begin begin inside group.bound group.point (λ less. absurd (clash less)) (λ more. refl) in
      let ends = cut_without (stands_before_rank name 1) xs at end rest inside group.ends.bound group.ends.point front behind in
      record {
        bound = begins.0;
        point = begins.1;
        ends = record { bound = ends.0; point = ends.1 };
      }

  -- one joins them
  pub group_with_granted : (new : LockRecord) (at : ℕ) → name ≡ new.name → is_queued new.state ≡ false → begin ≤ at → at ≤ end → IsGrantedGroup name (insert xs at new) begin (end + 1)
  group_with_granted new at named granted after before =
      let fits : at ≤ length xs = omega (arith, before, group.ends.bound) in
      let begins = cut_behind (stands_before_rank name 0) xs new at begin (not_before_own name new named) after fits group.point in
      let ends = cut_with (stands_before_rank name 1) xs new at end (held_in_front name new named granted) before group.ends.bound group.ends.point in
      record {
        bound = begins.0;
        point = begins.1;
        ends = record { bound = ends.0; point = ends.1 };
      }

  -- one queues behind them
  pub group_with_queued : (new : LockRecord) (at : ℕ) → name ≡ new.name → is_queued new.state ≡ true → end ≤ at → at ≤ length xs → IsGrantedGroup name (insert xs at new) begin end
  group_with_queued new at named queued after fits =
      let begins = cut_behind (stands_before_rank name 0) xs new at begin (not_before_own name new named) (omega (arith, after, group_ordered)) fits group.point in
      let ends = cut_behind (stands_before_rank name 1) xs new at end (queued_not_before name new named queued) after fits group.ends.point in
      record {
        bound = begins.0;
        point = begins.1;
        ends = record { bound = ends.0; point = ends.1 };
      }

  -- one is replaced that has the same rank
  pub group_set : (new : LockRecord) (at : ℕ) → at < length xs → ((rank : ℕ) (d : LockRecord) → stands_before_rank name rank new ≡ stands_before_rank name rank (get_or xs at d))
      → IsGrantedGroup name (set xs at new) begin end
  group_set new at inside same =
      let begins = cut_set (stands_before_rank name 0) xs new at begin inside (same 0) group.bound group.point in
      let ends = cut_set (stands_before_rank name 1) xs new at end inside (same 1) group.ends.bound group.ends.point in
      record {
        bound = begins.0;
        point = begins.1;
        ends = record { bound = ends.0; point = ends.1 };
      }

below_last : (s : LockState) → is_lt (nat_cmp (rank_of s) 3) ≡ true
below_last (Granted mode) = refl
below_last (Converting held wanted) = refl
below_last (Waiting wanted) = refl

-- what stands behind the granted locks of a name is of the name where it stands before all that follow the name
on_name_by_rank : (name : List ℕ) (r : LockRecord) → stands_before_rank name 1 r ≡ false → stands_before_rank name 3 r ≡ is_on name r
on_name_by_rank name r later =
    elim (slice_cmp nat_cmp r.name name) as (λ o. slice_cmp nat_cmp r.name name ≡ o → is_lt (ordering_then o (nat_cmp (rank_of r.state) 3)) ≡ is_on name r) [
      | Less ↦ λ e.
          let clash : true ≡ false = sym (ap (λ o. is_lt (ordering_then o (nat_cmp (rank_of r.state) 1))) e) ∙ later in
          let impossible : ⊥ = cc in absurd impossible
      | Equal ↦ λ e. below_last r.state ∙ sym (names_equal name r.name (nat_list_cmp_total.antisymm name r.name ∙ ap ordering_reverse e))
      | Greater ↦ λ e. elim (is_on name r) as (λ b. is_on name r ≡ b → false ≡ b) [
        | true ↦ λ own.
            let clash : Greater ≡ Equal = sym e ∙ tied_names name r own in
            let impossible : ⊥ = cc in absurd impossible
        | false ↦ λ own. refl
      ] refl
    ] refl

module _ (name : List ℕ) (xs : List LockRecord) (end : ℕ) (d : LockRecord) (ends : IsGrantedEnd name xs end) (sorted : IsSorted printed_cmp xs) where
  -- so the key of the lock there tells whether it is its turn
  pub turn_by_key : AllWithin HasKey xs 0 (length xs) → IsName name → end < length xs → (t : Bool) → nat_lt (lock_key (get_or xs end d)) (key_of name 3 0) ≡ t → head_of xs name ≡ cond t (Some (get_or xs end d)) None
  turn_by_key fit is_name inside t tells =
      let r = get_or xs end d in
      let own : nat_lt (lock_key r) (key_of name 3 0) ≡ is_on name r =
      before_by_key name 3 r (fit end d (omega arith) inside) is_name (omega arith) ∙ on_name_by_rank name r (ends.point.1 end d (omega arith) inside) in
      let stands : first (drop end xs) ≡ Some r = sym (slice_get_is_first xs end) ∙ slice_get-get_or xs end d inside in
      head_at_cut name xs end sorted ends.point ∙ ap (first_if (is_on name)) stands ∙ ap (λ b. cond b (Some r) None) (sym own ∙ tells)

  -- and where no lock is there, it is nobody's turn
  pub no_turn_behind : length xs ≤ end → head_of xs name ≡ None
  no_turn_behind far = head_at_cut name xs end sorted ends.point ∙ ap (λ l. first_if (is_on name) (first l)) (drop_all end xs far)
