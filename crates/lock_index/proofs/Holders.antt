-- Who holds a mode of a name, where the locks stand in printed order.
use Rattle.std.proofs.Common.{◌≡◌, ◌≤◌, ◌<◌, ℕ, Bool, true, false, not, ◌&&◌, ◌||◌, List, [], ◌∷◌, ◌++◌, length, get_or, take, drop, Option, Some, None, refl, sym, ap, subst, ◌∙◌, ◌+◌, inl, inr, arith}
use Rattle.std.specs.List.{list_any, AllWithin}
use Rattle.std.specs.List.Sorted.{IsSorted, IsPartitionPoint}
use Rattle.std.specs.Ordering.{is_lt, nat_cmp, ordering_then, ordering_reverse}
use Rattle.std.specs.Cmp.Lexicographic.{slice_cmp}
use Rattle.std.specs.declared.cmp.Ordering.{Ordering}
use Rattle.std.specs.declared.cmp.Ordering.TheVariants.{Less, Equal, Greater}
use Rattle.std.proofs.lemmas.Cmp.{nat_list_cmp_total}
use Rattle.std.proofs.lemmas.Bool.{cases_lt, le-ltb}
use Rattle.std.proofs.lemmas.List.{take-append-drop, drop_more}
use Rattle.lock_command.specs.declared.mode.Mode.{Mode}
use Rattle.lock_command.specs.declared.record.LockRecord.{LockRecord}
use Rattle.lock_command.specs.declared.state.LockState.{LockState}
use Rattle.lock_command.specs.declared.state.LockState.TheVariants.{Granted, Converting, Waiting}
use Rattle.lock_command.specs.State.{holds_against}
use Rattle.lock_command.specs.Locks.{is_lock, is_on, stands_against, admits}
use Rattle.lock_index.specs.Printed.{rank_of, number_among, printed_cmp}
use Rattle.lock_index.specs.Indexed.{stands_before_rank}
use Rattle.lock_index.proofs.Ordered.{Each, IsAscending, each_more}
use Rattle.lock_index.proofs.Keyed.{is_lt_nat}
use Rattle.lock_index.proofs.Unique.{ascends, names_equal}
use Rattle.lock_index.proofs.Parts.{first}
use Rattle.lock_index.proofs.Apart.{name_is}
use Rattle.lock_index.proofs.PrintedOrder.{printed_order}
use Rattle.lock_index.proofs.Queued.{tied_names, name_behind}
use Rattle.lock_index.proofs.Cuts.{each_in_front, each_behind, ascends_behind}

pub rank_not_lowest : (o : Ordering) (n : ℕ) → is_lt (ordering_then o (nat_cmp n 0)) ≡ is_lt o
rank_not_lowest Less n = refl
rank_not_lowest Equal n = is_lt_nat n 0 ∙ le-ltb n 0 (omega arith)
rank_not_lowest Greater n = refl

no_any : (P : LockRecord → Bool) (xs : List LockRecord) → Each printed_cmp (λ c. P c ≡ false) xs → list_any P xs ≡ false
no_any P [] each = refl
no_any P (x ∷ xs) each = ap (λ b. b || list_any P xs) each.0 ∙ no_any P xs each.1

any_behind : (P : LockRecord → Bool) (A B : List LockRecord) → Each printed_cmp (λ c. P c ≡ false) A → list_any P (A ++ B) ≡ list_any P B
any_behind P [] B each = refl
any_behind P (a ∷ A) B each = ap (λ b. b || list_any P (A ++ B)) each.0 ∙ any_behind P A B each.1

no_and : (b c : Bool) → (b ≡ true → c ≡ false) → (b && c) ≡ false
no_and true c h = h refl
no_and false c h = refl

-- those in front are not of the name
front_is_other : (name : List ℕ) (lock : ℕ) (mode : Mode) (r : LockRecord) → stands_before_rank name 0 r ≡ true → stands_against lock name mode r ≡ false
front_is_other name lock mode r before = no_and (is_on name r) (not (is_lock lock r) && holds_against mode r.state) (λ own.
    let clash : true ≡ false = sym before ∙ rank_not_lowest (slice_cmp nat_cmp r.name name) (rank_of r.state) ∙ ap is_lt (tied_names name r own) in
    let impossible : ⊥ = cc in absurd impossible)

pub admits_from_name : (name : List ℕ) (lock : ℕ) (mode : Mode) (xs : List LockRecord) (i : ℕ) → AllWithin (λ r. stands_before_rank name 0 r ≡ true) xs 0 i
    → admits xs lock name mode ≡ admits (drop i xs) lock name mode
admits_from_name name lock mode xs i before =
    ap (λ l. admits l lock name mode) (sym (take-append-drop i xs))
    ∙ ap not (any_behind (stands_against lock name mode) (take i xs) (drop i xs)
    (each_more printed_cmp (λ r. stands_before_rank name 0 r ≡ true) (λ r. stands_against lock name mode r ≡ false) (λ r h. front_is_other name lock mode r h) (take i xs) (each_in_front printed_cmp (λ r. stands_before_rank name 0 r ≡ true) xs i before)))

waiting_holds_nothing : (mode : Mode) (s : LockState) → is_lt (nat_cmp (rank_of s) 2) ≡ false → holds_against mode s ≡ false
waiting_holds_nothing mode (Granted m) h = let impossible : ⊥ = cc in absurd impossible
waiting_holds_nothing mode (Converting m w) h = let impossible : ⊥ = cc in absurd impossible
waiting_holds_nothing mode (Waiting w) h = refl

and_no : (b : Bool) → (b && false) ≡ false
and_no true = refl
and_no false = refl

-- what does not stand before the waiting locks of the name holds nothing of it
none_behind : (name : List ℕ) (lock : ℕ) (mode : Mode) (r : LockRecord) → stands_before_rank name 2 r ≡ false → stands_against lock name mode r ≡ false
none_behind name lock mode r later =
    no_and (is_on name r) (not (is_lock lock r) && holds_against mode r.state) (λ own.
    let ranks : is_lt (nat_cmp (rank_of r.state) 2) ≡ false = ap (λ o. is_lt (ordering_then o (nat_cmp (rank_of r.state) 2))) (sym (tied_names name r own)) ∙ later in
    ap (λ b. not (is_lock lock r) && b) (waiting_holds_nothing mode r.state ranks) ∙ and_no (not (is_lock lock r)))

-- and nobody from there on stands against a lock
pub admits_behind : (name : List ℕ) (lock : ℕ) (mode : Mode) (xs : List LockRecord) (i j : ℕ) → AllWithin (λ r. stands_before_rank name 2 r ≡ false) xs i (length xs) → i ≤ j
    → admits (drop j xs) lock name mode ≡ true
admits_behind name lock mode xs i j later behind =
    ap not (no_any (stands_against lock name mode) (drop j xs)
    (each_more printed_cmp (λ r. stands_before_rank name 2 r ≡ false) (λ r. stands_against lock name mode r ≡ false) (λ r h. none_behind name lock mode r h) (drop j xs)
    (each_behind printed_cmp (λ r. stands_before_rank name 2 r ≡ false) xs j (λ k d low high. later k d (omega (arith, behind, low)) high))))

-- where none of the holders of a name holds a mode against it, any lock of the name may have it
pub clear_admits : (name : List ℕ) (lock : ℕ) (mode : Mode) (xs : List LockRecord) (from to : ℕ) → AllWithin (λ r. stands_before_rank name 0 r ≡ true) xs 0 from
    → AllWithin (λ r. stands_before_rank name 2 r ≡ false) xs to (length xs) → AllWithin (λ r. holds_against mode r.state ≡ false) xs from to → admits xs lock name mode ≡ true
clear_admits name lock mode xs from to before later clear =
    ap not (no_any (stands_against lock name mode) xs (each_behind printed_cmp (λ r. stands_against lock name mode r ≡ false) xs 0 (λ k d low high.
    elim (cases_lt k from) as (λ w. stands_against lock name mode (get_or xs k d) ≡ false) [
      | inl front ↦ front_is_other name lock mode (get_or xs k d) (before k d low front)
      | inr after ↦ elim (cases_lt k to) as (λ w. stands_against lock name mode (get_or xs k d) ≡ false) [
        | inl within ↦
            ap (λ b. is_on name (get_or xs k d) && (not (is_lock lock (get_or xs k d)) && b)) (clear k d after within)
            ∙ ap (λ b. is_on name (get_or xs k d) && b) (and_no (not (is_lock lock (get_or xs k d)))) ∙ and_no (is_on name (get_or xs k d))
        | inr behind ↦ none_behind name lock mode (get_or xs k d) (later k d behind high)
      ]
    ])))

-- what stands neither before the name nor behind its holders is of the name
pub between : (name : List ℕ) (r : LockRecord) → stands_before_rank name 0 r ≡ false → stands_before_rank name 2 r ≡ true → is_on name r ≡ true
between name r from to =
    elim (slice_cmp nat_cmp r.name name) as (λ o. slice_cmp nat_cmp r.name name ≡ o → is_on name r ≡ true) [
      | Less ↦ λ e.
          let clash : false ≡ true = sym from ∙ rank_not_lowest (slice_cmp nat_cmp r.name name) (rank_of r.state) ∙ ap is_lt e in
          let impossible : ⊥ = cc in absurd impossible
      | Equal ↦ λ e. names_equal name r.name (nat_list_cmp_total.antisymm name r.name ∙ ap ordering_reverse e)
      | Greater ↦ λ e.
          let clash : true ≡ false = sym to ∙ ap (λ o. is_lt (ordering_then o (nat_cmp (rank_of r.state) 2))) e in
          let impossible : ⊥ = cc in absurd impossible
    ] refl

module _ (name : List ℕ) (lock : ℕ) (mode : Mode) (xs : List LockRecord) (from to at : ℕ)
    (after : AllWithin (λ r. stands_before_rank name 0 r ≡ false) xs from (length xs)) (before : AllWithin (λ r. stands_before_rank name 2 r ≡ true) xs 0 to)
    (above : from ≤ at) (below : at < to) (inside : at < length xs) (d : LockRecord) where
  step : drop at xs ≡ get_or xs at d ∷ drop (at + 1) xs
  step = drop_more xs at d inside

  past : (not (is_lock lock (get_or xs at d)) && holds_against mode (get_or xs at d).state) ≡ false → admits (drop at xs) lock name mode ≡ admits (drop (at + 1) xs) lock name mode
  past idle =
      ap (λ l. admits l lock name mode) step
      ∙ ap (λ b. not (b || list_any (stands_against lock name mode) (drop (at + 1) xs))) (ap (λ b. is_on name (get_or xs at d) && b) idle ∙ and_no (is_on name (get_or xs at d)))

  -- the lock itself may be passed over, and so may one that holds nothing against it
  pub past_itself : is_lock lock (get_or xs at d) ≡ true → admits (drop at xs) lock name mode ≡ admits (drop (at + 1) xs) lock name mode
  past_itself own = past (ap (λ b. not b && holds_against mode (get_or xs at d).state) own)

  pub past_other : holds_against mode (get_or xs at d).state ≡ false → admits (drop at xs) lock name mode ≡ admits (drop (at + 1) xs) lock name mode
  past_other idle = past (ap (λ b. not (is_lock lock (get_or xs at d)) && b) idle ∙ and_no (not (is_lock lock (get_or xs at d))))

  pub admits_not : is_lock lock (get_or xs at d) ≡ false → holds_against mode (get_or xs at d).state ≡ true → admits (drop at xs) lock name mode ≡ false
  admits_not other holds =
      ap (λ l. admits l lock name mode) step
      ∙ (λ i. not ((between name (get_or xs at d) (after at d above inside) (before at d (omega arith) below) i && (not (other i) && holds i)) || list_any (stands_against lock name mode) (drop (at + 1) xs)))

-- whether a name has locks: those in front are of other names, and so are all behind where the first is
on_first : List ℕ → Option LockRecord → Bool
on_first name None = false
on_first name (Some r) = is_on name r

front_is_elsewhere : (name : List ℕ) (r : LockRecord) → stands_before_rank name 0 r ≡ true → is_on name r ≡ false
front_is_elsewhere name r before = elim (is_on name r) as (λ b. is_on name r ≡ b → b ≡ false) [
  | true ↦ λ own.
      let clash : true ≡ false = sym before ∙ rank_not_lowest (slice_cmp nat_cmp r.name name) (rank_of r.state) ∙ ap is_lt (tied_names name r own) in
      let impossible : ⊥ = cc in absurd impossible
  | false ↦ λ other. refl
] refl

-- what does not stand before a lock of a later name is of another name too
later_is_elsewhere : (name : List ℕ) (b c : LockRecord) → slice_cmp nat_cmp name b.name ≡ Less → is_lt (printed_cmp c b) ≡ false → is_on name c ≡ false
later_is_elsewhere name b c less later = elim (is_on name c) as (λ t. is_on name c ≡ t → t ≡ false) [
  | true ↦ λ own.
      let first_less : slice_cmp nat_cmp c.name b.name ≡ Less = ap (λ n. slice_cmp nat_cmp n b.name) (name_is c.name name own) ∙ less in
      let clash : true ≡ false = sym (ap (λ o. is_lt (ordering_then o (ordering_then (nat_cmp (rank_of c.state) (rank_of b.state)) (nat_cmp (number_among c.state c.lock) (number_among b.state b.lock))))) first_less) ∙ later in
      let impossible : ⊥ = cc in absurd impossible
  | false ↦ λ other. refl
] refl

locked_behind : (name : List ℕ) (B : List LockRecord) → Each printed_cmp (λ r. stands_before_rank name 0 r ≡ false) B → IsAscending printed_cmp B → list_any (is_on name) B ≡ on_first name (first B)
unfolding on_first
locked_behind name [] later up = refl
locked_behind name (b ∷ C) later up = elim (is_on name b) as (λ t. is_on name b ≡ t → (t || list_any (is_on name) C) ≡ t) [
  | true ↦ λ own. refl
  | false ↦ λ other.
      let less = name_behind name b (sym (rank_not_lowest (slice_cmp nat_cmp b.name name) (rank_of b.state)) ∙ later.0) other in
      no_any (is_on name) C (each_more printed_cmp (λ c. is_lt (printed_cmp c b) ≡ false) (λ c. is_on name c ≡ false) (λ c h. later_is_elsewhere name b c less h) C up.0)
] refl

locked_at_cut : (name : List ℕ) (xs : List LockRecord) (i : ℕ) → IsSorted printed_cmp xs → IsPartitionPoint (λ r. stands_before_rank name 0 r ≡ true) (λ r. stands_before_rank name 0 r ≡ false) xs i
    → list_any (is_on name) xs ≡ on_first name (first (drop i xs))
locked_at_cut name xs i up point =
    let whole = take-append-drop i xs in
    let rise : IsAscending printed_cmp (take i xs ++ drop i xs) = subst (λ (l : List LockRecord). IsAscending printed_cmp l) (sym whole) (ascends printed_cmp printed_order xs up) in
    ap (list_any (is_on name)) (sym whole)
    ∙ any_behind (is_on name) (take i xs) (drop i xs) (each_more printed_cmp (λ r. stands_before_rank name 0 r ≡ true) (λ r. is_on name r ≡ false) (λ r h. front_is_elsewhere name r h) (take i xs) (each_in_front printed_cmp (λ r. stands_before_rank name 0 r ≡ true) xs i point.0))
    ∙ locked_behind name (drop i xs) (each_behind printed_cmp (λ r. stands_before_rank name 0 r ≡ false) xs i point.1) (ascends_behind printed_cmp (take i xs) (drop i xs) rise)

pub locked_first : (name : List ℕ) (xs : List LockRecord) (i : ℕ) (r : LockRecord) → IsSorted printed_cmp xs → IsPartitionPoint (λ r. stands_before_rank name 0 r ≡ true) (λ r. stands_before_rank name 0 r ≡ false) xs i
    → first (drop i xs) ≡ Some r → is_on name r ≡ list_any (is_on name) xs
unfolding on_first
locked_first name xs i r up point is = sym (locked_at_cut name xs i up point ∙ ap (on_first name) is)

pub locked_none : (name : List ℕ) (xs : List LockRecord) (i : ℕ) → IsSorted printed_cmp xs → IsPartitionPoint (λ r. stands_before_rank name 0 r ≡ true) (λ r. stands_before_rank name 0 r ≡ false) xs i
    → first (drop i xs) ≡ None → false ≡ list_any (is_on name) xs
unfolding on_first
locked_none name xs i up point is = sym (locked_at_cut name xs i up point ∙ ap (on_first name) is)
