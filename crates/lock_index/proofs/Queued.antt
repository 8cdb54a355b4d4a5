-- Whose turn it is on a name, where the locks stand in printed order.
use Rattle.std.proofs.Common.{◌≡◌, ℕ, Bool, true, false, cond, ◌&&◌, ◌||◌, List, [], ◌∷◌, ◌++◌, take, drop, Option, Some, None, is_some, refl, sym, ap, subst, ◌∙◌}
use Rattle.std.specs.List.{find}
use Rattle.std.specs.List.Sorted.{IsSorted, IsPartitionPoint}
use Rattle.std.specs.Ordering.{is_lt, nat_cmp, ordering_then, ordering_reverse}
use Rattle.std.specs.Cmp.Lexicographic.{slice_cmp}
use Rattle.std.specs.declared.cmp.Ordering.{Ordering}
use Rattle.std.specs.declared.cmp.Ordering.TheVariants.{Less, Equal, Greater}
use Rattle.std.proofs.lemmas.Cmp.{nat_list_cmp_total, tied_itself}
use Rattle.std.proofs.lemmas.List.{take-append-drop}
use Rattle.lock_command.specs.declared.record.LockRecord.{LockRecord}
use Rattle.lock_command.specs.declared.state.LockState.{LockState}
use Rattle.lock_command.specs.declared.state.LockState.TheVariants.{Granted, Converting, Waiting}
use Rattle.lock_command.specs.State.{is_converting, is_waiting, is_queued}
use Rattle.lock_command.specs.Locks.{is_on, option_or, converts_on, waits_on, head_of, has_queue}
use Rattle.lock_index.specs.Printed.{rank_of, number_among, printed_cmp}
use Rattle.lock_index.specs.Indexed.{stands_before_rank}
use Rattle.lock_index.proofs.Parts.{first}
use Rattle.lock_index.proofs.Ordered.{Each, IsAscending, each_more}
use Rattle.lock_index.proofs.Unique.{ascends, names_equal}
use Rattle.lock_index.proofs.Apart.{name_is, and_first}
use Rattle.lock_index.proofs.PrintedOrder.{printed_order}
use Rattle.lock_index.proofs.Keyed.{first_if}
use Rattle.lock_index.proofs.Cuts.{each_in_front, each_behind, ascends_behind, find_none, find_behind}

abbrev IsQuiet : List ℕ → LockRecord → Type 0
IsQuiet name r = (converts_on name r ≡ false) × (waits_on name r ≡ false)

quiet_in_front : (s : LockState) → is_lt (nat_cmp (rank_of s) 1) ≡ true → (is_converting s ≡ false) × (is_waiting s ≡ false)
quiet_in_front (Granted mode) h = (refl, refl)
quiet_in_front (Converting held wanted) h = let impossible : ⊥ = cc in absurd impossible
quiet_in_front (Waiting wanted) h = let impossible : ⊥ = cc in absurd impossible

pub tied_names : (name : List ℕ) (r : LockRecord) → is_on name r ≡ true → slice_cmp nat_cmp r.name name ≡ Equal
tied_names name r own = ap (λ n. slice_cmp nat_cmp n name) (name_is r.name name own) ∙ tied_itself nat_list_cmp_total name

before_own : (name : List ℕ) (r : LockRecord) → is_on name r ≡ true → stands_before_rank name 1 r ≡ is_lt (nat_cmp (rank_of r.state) 1)
before_own name r own = ap (λ o. is_lt (ordering_then o (nat_cmp (rank_of r.state) 1))) (tied_names name r own)

both_no : (b c d : Bool) → (b ≡ true → (c ≡ false) × (d ≡ false)) → ((b && c) ≡ false) × ((b && d) ≡ false)
both_no true c d h = h refl
both_no false c d h = (refl, refl)

-- nobody in front queues on the name
front_is_quiet : (name : List ℕ) (r : LockRecord) → stands_before_rank name 1 r ≡ true → IsQuiet name r
front_is_quiet name r before = both_no (is_on name r) (is_converting r.state) (is_waiting r.state) (λ own. quiet_in_front r.state (sym (before_own name r own) ∙ before))

-- a name that is neither the same nor before stands behind
pub name_behind : (name : List ℕ) (b : LockRecord) → is_lt (slice_cmp nat_cmp b.name name) ≡ false → is_on name b ≡ false → slice_cmp nat_cmp name b.name ≡ Less
name_behind name b later other =
    elim (slice_cmp nat_cmp b.name name) as (λ o. slice_cmp nat_cmp b.name name ≡ o → slice_cmp nat_cmp name b.name ≡ Less) [
      | Less ↦ λ e.
          let clash : true ≡ false = sym (ap is_lt e) ∙ later in
          let impossible : ⊥ = cc in absurd impossible
      | Equal ↦ λ e.
          let back : slice_cmp nat_cmp name b.name ≡ Equal = nat_list_cmp_total.antisymm name b.name ∙ ap ordering_reverse e in
          let clash : true ≡ false = sym (names_equal name b.name back) ∙ other in
          let impossible : ⊥ = cc in absurd impossible
      | Greater ↦ λ e. nat_list_cmp_total.antisymm name b.name ∙ ap ordering_reverse e
    ] refl

first_later : (o p : Ordering) → is_lt (ordering_then o p) ≡ false → is_lt o ≡ false
first_later Less p h = h
first_later Equal p h = refl
first_later Greater p h = refl

behind : (name : List ℕ) (b : LockRecord) → stands_before_rank name 1 b ≡ false → is_on name b ≡ false → slice_cmp nat_cmp name b.name ≡ Less
behind name b later other = name_behind name b (first_later (slice_cmp nat_cmp b.name name) (nat_cmp (rank_of b.state) 1) later) other

-- and so does all that does not stand before it
others_behind : (name : List ℕ) (b c : LockRecord) → slice_cmp nat_cmp name b.name ≡ Less → is_lt (printed_cmp c b) ≡ false → IsQuiet name c
others_behind name b c less later = both_no (is_on name c) (is_converting c.state) (is_waiting c.state) (λ own.
    let first_less : slice_cmp nat_cmp c.name b.name ≡ Less = ap (λ n. slice_cmp nat_cmp n b.name) (name_is c.name name own) ∙ less in
    let clash : true ≡ false = sym (ap (λ o. is_lt (ordering_then o (ordering_then (nat_cmp (rank_of c.state) (rank_of b.state)) (nat_cmp (number_among c.state c.lock) (number_among b.state b.lock))))) first_less) ∙ later in
    let impossible : ⊥ = cc in absurd impossible)

rank_of_converting : (s : LockState) → is_converting s ≡ true → rank_of s ≡ 1
rank_of_converting (Granted mode) h = let impossible : ⊥ = cc in absurd impossible
rank_of_converting (Converting held wanted) h = refl
rank_of_converting (Waiting wanted) h = let impossible : ⊥ = cc in absurd impossible

no_from_clash : (b : Bool) → (b ≡ true → ⊥) → b ≡ false
no_from_clash true h = absurd (h refl)
no_from_clash false h = refl

-- no conversion stands behind a waiting lock of its name
no_conversion_behind : (name : List ℕ) (b c : LockRecord) → is_on name b ≡ true → rank_of b.state ≡ 2 → is_lt (printed_cmp c b) ≡ false → converts_on name c ≡ false
no_conversion_behind name b c own rank later = (both_no (is_on name c) (is_converting c.state) false (λ also. (
  no_from_clash (is_converting c.state) (λ converts.
      let names : slice_cmp nat_cmp c.name b.name ≡ Equal = ap (λ n. slice_cmp nat_cmp c.name n) (name_is b.name name own) ∙ tied_names name c also in
      let ranks : nat_cmp (rank_of c.state) (rank_of b.state) ≡ Less = λ i. nat_cmp (rank_of_converting c.state converts i) (rank i) in
      let clash : true ≡ false = sym (λ i. is_lt (ordering_then (names i) (ordering_then (ranks i) (nat_cmp (number_among c.state c.lock) (number_among b.state b.lock))))) ∙ later in
      let impossible : ⊥ = cc in impossible),
  refl,
))).0

own_head : (name : List ℕ) (b : LockRecord) (C : List LockRecord) (s : LockState) → b.state ≡ s → is_on name b ≡ true → is_lt (nat_cmp (rank_of s) 1) ≡ false
    → Each printed_cmp (λ c. is_lt (printed_cmp c b) ≡ false) C → head_of (b ∷ C) name ≡ Some b
own_head name b C (Granted mode) is own later up = let impossible : ⊥ = cc in absurd impossible
own_head name b C (Converting held wanted) is own later up =
    let here : converts_on name b ≡ true = λ i. own i && is_converting (is i) in
    ap (λ t. option_or (cond t (Some b) (find (converts_on name) C)) (find (waits_on name) (b ∷ C))) here
own_head name b C (Waiting wanted) is own later up =
    let none : find (converts_on name) (b ∷ C) ≡ None = find_none printed_cmp (converts_on name) (b ∷ C) (
      (λ i. own i && is_converting (is i)),
      each_more printed_cmp (λ c. is_lt (printed_cmp c b) ≡ false) (λ c. converts_on name c ≡ false) (λ c h. no_conversion_behind name b c own (ap rank_of is) h) C up,
    ) in
    let here : waits_on name b ≡ true = λ i. own i && is_waiting (is i) in
    ap (λ o. option_or o (find (waits_on name) (b ∷ C))) none
    ∙ ap (λ t. cond t (Some b) (find (waits_on name) C)) here

no_head_behind : (name : List ℕ) (xs : List LockRecord) → Each printed_cmp (IsQuiet name) xs → head_of xs name ≡ None
no_head_behind name xs quiet =
    (λ i. option_or
    (find_none printed_cmp (converts_on name) xs (each_more printed_cmp (IsQuiet name) (λ c. converts_on name c ≡ false) (λ c h. h.0) xs quiet) i)
    (find_none printed_cmp (waits_on name) xs (each_more printed_cmp (IsQuiet name) (λ c. waits_on name c ≡ false) (λ c h. h.1) xs quiet) i))

head_behind : (name : List ℕ) (B : List LockRecord) → Each printed_cmp (λ r. stands_before_rank name 1 r ≡ false) B → IsAscending printed_cmp B → head_of B name ≡ first_if (is_on name) (first B)
head_behind name [] later up = refl
head_behind name (b ∷ C) later up =
    elim (is_on name b) as (λ t. is_on name b ≡ t → head_of (b ∷ C) name ≡ cond t (Some b) None) [
      | true ↦ λ own. own_head name b C b.state refl own (sym (before_own name b own) ∙ later.0) up.0
      | false ↦ λ other.
          let less = behind name b later.0 other in
          no_head_behind name (b ∷ C) (
            both_no (is_on name b) (is_converting b.state) (is_waiting b.state) (λ own. let clash : true ≡ false = sym own ∙ other in let impossible : ⊥ = cc in absurd impossible),
            each_more printed_cmp (λ c. is_lt (printed_cmp c b) ≡ false) (IsQuiet name) (λ c h. others_behind name b c less h) C up.0,
          )
    ] refl

-- the lock whose turn it is stands where those end that stand before the queues of the name, if it is one of the name
pub head_at_cut : (name : List ℕ) (xs : List LockRecord) (i : ℕ) → IsSorted printed_cmp xs → IsPartitionPoint (λ r. stands_before_rank name 1 r ≡ true) (λ r. stands_before_rank name 1 r ≡ false) xs i
    → head_of xs name ≡ first_if (is_on name) (first (drop i xs))
head_at_cut name xs i up point =
    let whole = take-append-drop i xs in
    let quiet = each_more printed_cmp (λ r. stands_before_rank name 1 r ≡ true) (IsQuiet name) (λ r h. front_is_quiet name r h) (take i xs) (each_in_front printed_cmp (λ r. stands_before_rank name 1 r ≡ true) xs i point.0) in
    let later = each_behind printed_cmp (λ r. stands_before_rank name 1 r ≡ false) xs i point.1 in
    let rise : IsAscending printed_cmp (take i xs ++ drop i xs) = subst (λ (l : List LockRecord). IsAscending printed_cmp l) (sym whole) (ascends printed_cmp printed_order xs up) in
    ap (λ l. head_of l name) (sym whole)
    ∙ (λ j. option_or
    (find_behind printed_cmp (converts_on name) (take i xs) (drop i xs) (each_more printed_cmp (IsQuiet name) (λ c. converts_on name c ≡ false) (λ c h. h.0) (take i xs) quiet) j)
    (find_behind printed_cmp (waits_on name) (take i xs) (drop i xs) (each_more printed_cmp (IsQuiet name) (λ c. waits_on name c ≡ false) (λ c h. h.1) (take i xs) quiet) j))
    ∙ head_behind name (drop i xs) later (ascends_behind printed_cmp (take i xs) (drop i xs) rise)

or_parts : (b c d : Bool) → (b && (c || d)) ≡ ((b && c) || (b && d))
or_parts true c d = refl
or_parts false c d = refl

queued_is : (s : LockState) → is_queued s ≡ (is_converting s || is_waiting s)
queued_is (Granted mode) = refl
queued_is (Converting held wanted) = refl
queued_is (Waiting wanted) = refl

some_anyway : (o : Option LockRecord) (x : LockRecord) → is_some (option_or o (Some x)) ≡ true
some_anyway None x = refl
some_anyway (Some y) x = refl

-- somebody queues on a name where it is somebody's turn
pub queued_where_turn : (name : List ℕ) (xs : List LockRecord) → has_queue xs name ≡ is_some (head_of xs name)
queued_where_turn name [] = refl
queued_where_turn name (x ∷ xs) =
    ap (λ b. b || has_queue xs name) (ap (λ q. is_on name x && q) (queued_is x.state) ∙ or_parts (is_on name x) (is_converting x.state) (is_waiting x.state))
    ∙ elim (converts_on name x) as (λ c. ((c || waits_on name x) || has_queue xs name) ≡ is_some (option_or (cond c (Some x) (find (converts_on name) xs)) (cond (waits_on name x) (Some x) (find (waits_on name) xs)))) [
      | true ↦ refl
      | false ↦ elim (waits_on name x) as (λ w. (w || has_queue xs name) ≡ is_some (option_or (find (converts_on name) xs) (cond w (Some x) (find (waits_on name) xs)))) [
        | true ↦ sym (some_anyway (find (converts_on name) xs) x)
        | false ↦ queued_where_turn name xs
      ]
    ]

found_passes : (P : LockRecord → Bool) (xs : List LockRecord) (r : LockRecord) → find P xs ≡ Some r → P r ≡ true
found_passes P [] r h = let impossible : ⊥ = cc in absurd impossible
found_passes P (x ∷ xs) r h =
    elim (P x) as (λ b. P x ≡ b → cond b (Some x) (find P xs) ≡ Some r → P r ≡ true) [
      | true ↦ λ e found. let same : x ≡ r = cc in ap P (sym same) ∙ e
      | false ↦ λ e found. found_passes P xs r found
    ] refl h

pub head_on_name : (name : List ℕ) (a : List LockRecord) (r : LockRecord) → head_of a name ≡ Some r → is_on name r ≡ true
head_on_name name a r turn =
    elim (find (converts_on name) a) as (λ found. find (converts_on name) a ≡ found → option_or found (find (waits_on name) a) ≡ Some r → is_on name r ≡ true) [
      | None ↦ λ e h. and_first _ _ (found_passes (waits_on name) a r h)
      | Some x ↦ λ e h. let same : x ≡ r = cc in and_first _ _ (found_passes (converts_on name) a r (e ∙ ap Some same))
    ] refl turn
