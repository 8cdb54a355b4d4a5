-- The locks in printed order, and what a change makes of them.
use Rattle.std.proofs.Common.{◌≡◌, ◌≤◌, ◌<◌, ◌+◌, ℕ, Bool, true, false, cond, not, get_or, drop, List, [], ◌∷◌, length, Option, Some, None, IfSome, IsSome, refl, sym, ap, subst, ◌∙◌, arith}
use Rattle.std.specs.List.{filter, find}
use Rattle.std.specs.List.Sorted.{IsSorted}
use Rattle.std.specs.Ordering.{is_lt}
use Rattle.std.proofs.lemmas.Bool.{eq-eqb}
use Rattle.std.proofs.lemmas.List.{drop_more}
use Rattle.std.proofs.lemmas.List.Kept.{IsSortedBy-filter}
use Rattle.std.proofs.lemmas.List.Sums.{fold_push}
use Rattle.lock_command.specs.declared.record.LockRecord.{LockRecord}
use Rattle.lock_command.specs.State.{goal_of}
use Rattle.lock_command.specs.Locks.{is_lock, option_or, converts_on, waits_on, lock_in, without, put, head_of, admits, granted, queue, settled, settled_all, IsDistinct}
use Rattle.lock_index.specs.Printed.{printed_cmp, HasSameLocks}
use Rattle.lock_index.specs.Placed.{placed, in_order}
use Rattle.lock_index.specs.Indexed.{IsIndexed, number_cmp}
use Rattle.lock_index.proofs.Parts.{AlikeBy-filter, AlikeBy-append, find_alike, length_alike}
use Rattle.lock_index.proofs.Numbered.{numbered, numbered-cons, without_absent, IsDistinct-filter, IsDistinct-put}
use Rattle.lock_index.proofs.Alike.{same_back, same_through, same-settled, same-distinct, same-queue}
use Rattle.lock_index.proofs.Apart.{IsDistinct-settled, IsDistinct-settled_all}
use Rattle.lock_index.proofs.Settled.{is_among, same-settled_all}
use Rattle.lock_index.proofs.Turns.{settled-granted, length-queue-granted}
use Rattle.lock_index.proofs.PrintedOrder.{printed_order, same_in_order}
use Rattle.lock_index.proofs.Ordered.{IsSorted-in_order}
use Rattle.lock_index.proofs.Unique.{ordered_alike}
use Rattle.lock_index.proofs.Cuts.{in_order_sorted}
use Rattle.lock_index.proofs.Keyed.{absent_count, key_order}

abbrev pub lock_of : LockRecord → ℕ
lock_of r = r.lock

abbrev pub shown : List LockRecord → List LockRecord
shown locks = in_order printed_cmp locks

pub same-shown : (a : List LockRecord) → IsDistinct a → HasSameLocks (shown a) a
same-shown a distinct = same_in_order a distinct

pub IsDistinct-shown : (a : List LockRecord) → IsDistinct a → IsDistinct (shown a)
IsDistinct-shown a distinct = same-distinct a (shown a) (same_back (shown a) a (same-shown a distinct)) distinct

-- tables with the same locks are shown alike
pub shown_alike : (a b : List LockRecord) → IsDistinct a → HasSameLocks a b → shown a ≡ shown b
shown_alike a b distinct same =
    ordered_alike a b (same_through (shown a) a (shown b) (same-shown a distinct) (same_through a b (shown b) same (same_back (shown b) b (same-shown b (same-distinct a b same distinct)))))

pub shown_sorted : (a : List LockRecord) → IsSorted printed_cmp a → shown a ≡ a
shown_sorted a up = in_order_sorted printed_cmp printed_order a up

pub shown_twice : (a : List LockRecord) → shown (shown a) ≡ shown a
shown_twice a = shown_sorted (shown a) (IsSorted-in_order printed_cmp printed_order a)

-- to put a record at the end of a list is to place it among those that are shown
pub shown_put : (a : List LockRecord) (r : LockRecord) → IsSorted printed_cmp a → shown (put a r) ≡ placed printed_cmp r (without a r.lock)
shown_put a r up =
    fold_push (λ sorted x. placed printed_cmp x sorted) [] (without a r.lock) r
    ∙ ap (placed printed_cmp r) (shown_sorted (without a r.lock) (IsSortedBy-filter (λ x y. is_lt (printed_cmp x y)) printed_order (λ o. not (is_lock r.lock o)) a up))

pub without_new : (a : List LockRecord) (lock : ℕ) → lock_in a lock ≡ None → without a lock ≡ a
without_new a lock absent = without_absent lock a (absent_count (is_lock lock) a absent)

-- a change of what is shown may be made of any list that is shown so
pub shown-settled : (name : List ℕ) (a : List LockRecord) → IsDistinct a → shown (settled (shown a) name) ≡ shown (settled a name)
shown-settled name a distinct =
    shown_alike (settled (shown a) name) (settled a name) (IsDistinct-settled name (shown a) (IsDistinct-shown a distinct)) (same-settled name (shown a) a (same-shown a distinct))

pub shown-settled_all : (names : List (List ℕ)) (a : List LockRecord) → IsDistinct a → shown (settled_all (shown a) names) ≡ shown (settled_all a names)
shown-settled_all names a distinct =
    shown_alike (settled_all (shown a) names) (settled_all a names) (IsDistinct-settled_all names (shown a) (IsDistinct-shown a distinct))
    (same-settled_all names names (shown a) a (same-shown a distinct) (IsDistinct-shown a distinct) (λ name. refl))

-- the next of several names is settled
pub all_settled_next : (now : List LockRecord) (names : List (List ℕ)) (i : ℕ) (name : List ℕ) → IsDistinct now → i < length names → name ≡ get_or names i name
    → shown (settled_all (shown (settled now name)) (drop (i + 1) names)) ≡ shown (settled_all now (drop i names))
all_settled_next now names i name distinct inside is =
    shown-settled_all (drop (i + 1) names) (settled now name) (IsDistinct-settled name now distinct)
    ∙ ap (λ l. shown (settled_all now l)) (sym (drop_more names i name inside ∙ ap (λ n. n ∷ drop (i + 1) names) (sym is)))

-- to settle the same names, however often
pub shown-settled_same : (names others : List (List ℕ)) (a : List LockRecord) → IsDistinct a → ((name : List ℕ) → is_among names name ≡ is_among others name)
    → shown (settled_all a names) ≡ shown (settled_all a others)
shown-settled_same names others a distinct among =
    shown_alike (settled_all a names) (settled_all a others) (IsDistinct-settled_all names a distinct)
    (same-settled_all names others a a (record { numbers = λ lock. refl; conversions = λ name. refl; waiting = λ name. refl }) distinct among)

-- a grant, and what is settled after it
pub granted_next : (now : List LockRecord) (name : List ℕ) (r : LockRecord) → IsDistinct now → head_of now name ≡ Some r → admits now r.lock r.name (goal_of r.state) ≡ true
    → shown (settled (shown (put now (granted r))) name) ≡ shown (settled now name)
granted_next now name r distinct turn may =
    shown-settled name (put now (granted r)) (IsDistinct-put now (granted r) distinct) ∙ ap shown (sym (settled-granted now name r distinct turn may))

pub granted_fewer : (now : List LockRecord) (name : List ℕ) (r : LockRecord) → IsDistinct now → head_of now name ≡ Some r
    → length (queue (shown (put now (granted r))) name) < length (queue now name)
granted_fewer now name r distinct turn =
    let next = put now (granted r) in
    let same : queue (shown next) name ≡ queue next name = same-queue name (shown next) next (same-shown next (IsDistinct-put now (granted r) distinct)) in
    omega (arith, ap length same, length-queue-granted now name r distinct turn)

counted_found : (P : LockRecord → Bool) (xs : List LockRecord) (r : LockRecord) → find P xs ≡ Some r → 1 ≤ length (filter P xs)
counted_found P [] r h = let impossible : ⊥ = cc in absurd impossible
counted_found P (x ∷ xs) r h =
    elim (P x) as (λ t. cond t (Some x) (find P xs) ≡ Some r → 1 ≤ length (cond t (x ∷ filter P xs) (filter P xs))) [
      | true ↦ λ e. omega arith
      | false ↦ λ e. counted_found P xs r e
    ] h

-- who is found in any way is found by its number
pub found_by_number : (P : LockRecord → Bool) (xs : List LockRecord) (r : LockRecord) → IsDistinct xs → find P xs ≡ Some r → lock_in xs r.lock ≡ Some r
found_by_number P [] r distinct h = let impossible : ⊥ = cc in absurd impossible
found_by_number P (x ∷ xs) r distinct h =
    elim (P x) as (λ t. cond t (Some x) (find P xs) ≡ Some r → lock_in (x ∷ xs) r.lock ≡ Some r) [
      | true ↦ λ e.
          let same : x ≡ r = cc in
          let own : is_lock r.lock x ≡ true = ap (λ (o : LockRecord). is_lock r.lock o) same ∙ eq-eqb r.lock r.lock refl in
          ap (λ t. cond t (Some x) (lock_in xs r.lock)) own ∙ e
      | false ↦ λ e.
          let rest : IsDistinct xs = λ lock. omega (arith, distinct lock, numbered-cons lock x xs) in
          let there = found_by_number P xs r rest e in
          elim (is_lock r.lock x) as (λ t. is_lock r.lock x ≡ t → cond t (Some x) (lock_in xs r.lock) ≡ Some r) [
            | true ↦ λ k.
                let twice : numbered r.lock (x ∷ xs) ≡ cond true 1 0 + numbered r.lock xs = numbered-cons r.lock x xs ∙ ap (λ t. cond t 1 0 + numbered r.lock xs) k in
                absurd (omega (arith, twice, distinct r.lock, counted_found (is_lock r.lock) xs r there))
            | false ↦ λ k. there
          ] refl
    ] h

pub if_some : {A : Type 0} (o : Option A) (P : A → Type 0) → ((a : A) → o ≡ Some a → P a) → IfSome o P
if_some None P each = tt
if_some (Some a) P each = each a refl

pub some_of : {A : Type 0} (o : Option A) → IsSome o → (a : A) × (o ≡ Some a)
some_of None h = let impossible : ⊥ = cc in absurd impossible
some_of (Some a) h = (a, refl)

-- whose turn it is has a record of its number
pub turn_by_number : (name : List ℕ) (xs : List LockRecord) (r : LockRecord) → IsDistinct xs → head_of xs name ≡ Some r → lock_in xs r.lock ≡ Some r
turn_by_number name xs r distinct h =
    elim (find (converts_on name) xs) as (λ o. find (converts_on name) xs ≡ o → option_or o (find (waits_on name) xs) ≡ Some r → lock_in xs r.lock ≡ Some r) [
      | None ↦ λ none e. found_by_number (waits_on name) xs r distinct e
      | Some x ↦ λ some e. found_by_number (converts_on name) xs r distinct (some ∙ e)
    ] refl h

module _ (printed numbers : List LockRecord) (sound : IsIndexed printed numbers) where
  -- what is kept once a record is placed
  pub indexed_put : (r : LockRecord) (next : List LockRecord) → IsSorted number_cmp next → ((lock : ℕ) → filter (is_lock lock) next ≡ filter (is_lock lock) (put numbers r))
      → IsIndexed (placed printed_cmp r (without printed r.lock)) next
  indexed_put r next rising alike =
      let is : shown (put printed r) ≡ placed printed_cmp r (without printed r.lock) = shown_put printed r sound.sorted in
      let distinct = IsDistinct-put printed r sound.distinct in
      let fact : IsIndexed (shown (put printed r)) next = record {
        sorted = IsSorted-in_order printed_cmp printed_order (put printed r);
        distinct = IsDistinct-shown (put printed r) distinct;
        rising = rising;
        same = λ lock.
            alike lock
            ∙ AlikeBy-append lock_of (r ∷ []) (without numbers r.lock) (without printed r.lock) (AlikeBy-filter lock_of (λ o. not (is_lock r.lock o)) numbers printed sound.same) lock
            ∙ sym ((same-shown (put printed r) distinct).numbers lock);
      } in
      subst (λ (l : List LockRecord). IsIndexed l next) is fact

  -- what is kept once some are left out of both lists
  pub indexed_filter : (P : LockRecord → Bool) → IsIndexed (filter P printed) (filter P numbers)
  indexed_filter P = record {
    sorted = IsSortedBy-filter (λ x y. is_lt (printed_cmp x y)) printed_order P printed sound.sorted;
    distinct = IsDistinct-filter P printed sound.distinct;
    rising = IsSortedBy-filter (λ x y. is_lt (number_cmp x y)) (key_order lock_of) P numbers sound.rising;
    same = AlikeBy-filter lock_of P numbers printed sound.same;
  }

  pub numbers_distinct : IsDistinct numbers
  numbers_distinct lock = omega (arith, sound.distinct lock, ap length (sound.same lock))

  pub numbers_length : length numbers ≡ length printed
  numbers_length = length_alike lock_of numbers printed sound.same

  pub numbers_find : (lock : ℕ) → lock_in numbers lock ≡ lock_in printed lock
  numbers_find lock = find_alike lock_of lock numbers printed sound.same
