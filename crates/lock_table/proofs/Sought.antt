-- Entries by rising name: where that of a name stands, and what becomes of them where one comes or goes.
use Rattle.std.proofs.Common.{◌≡◌, ◌<◌, ◌+◌, ℕ, suc, Bool, true, false, cond, not, ◌||◌, List, [], ◌∷◌, length, get_or, take, drop, insert, remove, set, Some, None, Result, Ok, Err, MatchResult, refl, sym, ap, ◌∙◌, inl, inr, arith}
use Rattle.std.specs.List.{filter, find, list_any}
use Rattle.std.specs.List.Sorted.{IsNonDecreasingBy, IsBinarySearchResult}
use Rattle.std.specs.Ordering.{is_lt, nat_cmp, ordering_index, ordering_reverse}
use Rattle.std.specs.Cmp.{IsStrictWeakOrder}
use Rattle.std.specs.Cmp.Lexicographic.{slice_cmp}
use Rattle.std.specs.declared.cmp.Ordering.{Ordering}
use Rattle.std.specs.declared.cmp.Ordering.TheVariants.{Less, Equal, Greater}
use Rattle.std.proofs.lemmas.Bool.{cases_lt}
use Rattle.std.proofs.lemmas.Cmp.{nat_list_cmp_total, tied_itself}
use Rattle.std.proofs.lemmas.List.{set_split, take-append-drop}
use Rattle.std.proofs.lemmas.List.MinMax.{ranks_by}
use Rattle.std.proofs.lemmas.List.Sorted.{sorted_far, searchable_from_sorted}
use Rattle.lock_command.specs.Name.{same_name}
use Rattle.lock_table.specs.declared.values.NamedValue.{NamedValue}
use Rattle.lock_index.specs.Placed.{placed}
use Rattle.lock_table.specs.Values.{zeros}
use Rattle.lock_table.specs.Stored.{is_of, value_or_zeros, value_in, name_cmp, put_value, AreNamed, StandsAt, WouldStandAt}
use Rattle.lock_index.proofs.Apart.{name_is}
use Rattle.lock_table.proofs.Quiet.{same_name-sym}
use Rattle.lock_index.proofs.Unique.{names_equal}
use Rattle.lock_index.proofs.Standing.{found_there, none_later}
use Rattle.lock_index.proofs.Cuts.{each_in_front, each_behind, placed_between}
use Rattle.lock_index.proofs.Keyed.{remove_where_stands}

pub name_order : IsStrictWeakOrder (λ a b. is_lt (name_cmp a b))
name_order = ranks_by nat_list_cmp_total (λ (e : NamedValue). e.name)

-- WHAT A COMPARISON TELLS

own_named : (e : NamedValue) (name : List ℕ) → slice_cmp nat_cmp e.name name ≡ Equal → is_of name e ≡ true
own_named e name h = same_name-sym e.name name ∙ names_equal e.name name h

other_named : (e : NamedValue) (name : List ℕ) → (slice_cmp nat_cmp e.name name ≡ Equal → ⊥) → is_of name e ≡ false
other_named e name differ = elim (is_of name e) as (λ b. is_of name e ≡ b → b ≡ false) [
  | true ↦ λ h. absurd (differ (ap (λ n. slice_cmp nat_cmp n name) (name_is e.name name h) ∙ tied_itself nat_list_cmp_total name))
  | false ↦ λ h. refl
] refl

not_equal_below : (o : Ordering) → o ≡ Less → o ≡ Equal → ⊥
not_equal_below o less equal = let clash : Less ≡ Equal = sym less ∙ equal in cc

not_equal_above : (o : Ordering) → o ≡ Greater → o ≡ Equal → ⊥
not_equal_above o greater equal = let clash : Greater ≡ Equal = sym greater ∙ equal in cc

below : (a b : List ℕ) → slice_cmp nat_cmp a b ≡ Less → is_lt (slice_cmp nat_cmp b a) ≡ false
below a b less = ap is_lt (nat_list_cmp_total.antisymm b a ∙ ap ordering_reverse less)

above : (a b : List ℕ) → slice_cmp nat_cmp a b ≡ Greater → is_lt (slice_cmp nat_cmp b a) ≡ true
above a b greater = ap is_lt (nat_list_cmp_total.antisymm b a ∙ ap ordering_reverse greater)

-- of two names that differ one is the lower
higher : (a b : List ℕ) → is_lt (slice_cmp nat_cmp a b) ≡ false → same_name a b ≡ false → is_lt (slice_cmp nat_cmp b a) ≡ true
higher a b not_less differ =
    elim (slice_cmp nat_cmp a b) as (λ o. slice_cmp nat_cmp a b ≡ o → is_lt o ≡ false → is_lt (slice_cmp nat_cmp b a) ≡ true) [
      | Less ↦ λ e h. let impossible : ⊥ = cc in absurd impossible
      | Equal ↦ λ e h. let clash : true ≡ false = sym (names_equal a b e) ∙ same_name-sym b a ∙ differ in let impossible : ⊥ = cc in absurd impossible
      | Greater ↦ λ e h. above a b e
    ] refl not_less

-- WHERE ONE STANDS, OR NONE

module _ {X : Type 0} (P : X → Bool) where
  find_none : (xs : List X) → ((k : ℕ) (d : X) → k < length xs → P (get_or xs k d) ≡ false) → find P xs ≡ None
  find_none [] none = refl
  find_none (x ∷ xs) none = ap (λ t. cond t (Some x) (find P xs)) (none 0 x (omega arith)) ∙ find_none xs (λ k d inside. none (suc k) d (omega (arith, inside)))

  all_kept : (xs : List X) → ((k : ℕ) (d : X) → k < length xs → P (get_or xs k d) ≡ false) → xs ≡ filter (λ e. not (P e)) xs
  all_kept [] none = refl
  all_kept (x ∷ xs) none =
      ap (λ l. x ∷ l) (all_kept xs (λ k d inside. none (suc k) d (omega (arith, inside))))
      ∙ ap (λ t. cond (not t) (x ∷ filter (λ e. not (P e)) xs) (filter (λ e. not (P e)) xs)) (sym (none 0 x (omega arith)))

-- WHAT A SEARCH FINDS

found_by : (name : List ℕ) (xs : List NamedValue) (r : Result ℕ ℕ) → IsNonDecreasingBy (λ (e : NamedValue). ordering_index (slice_cmp nat_cmp e.name name)) xs
    → IsBinarySearchResult (λ (e : NamedValue). slice_cmp nat_cmp e.name name) xs r → MatchResult r (StandsAt name xs) (WouldStandAt name xs)
found_by name xs (Ok at) rising found = found
found_by name xs (Err at) rising found = found rising

pub found_place : (name : List ℕ) (xs : List NamedValue) (r : Result ℕ ℕ) → AreNamed xs → IsBinarySearchResult (λ (e : NamedValue). slice_cmp nat_cmp e.name name) xs r
    → MatchResult r (StandsAt name xs) (WouldStandAt name xs)
found_place name xs r named found = found_by name xs r (searchable_from_sorted nat_list_cmp_total (λ (e : NamedValue). e.name) xs name named.rising) found

none_named : (name : List ℕ) (xs : List NamedValue) (i : ℕ) → WouldStandAt name xs i → (k : ℕ) (d : NamedValue) → k < length xs → is_of name (get_or xs k d) ≡ false
none_named name xs i point k d inside =
    elim (cases_lt k i) as (λ w. is_of name (get_or xs k d) ≡ false) [
      | inl front ↦ other_named (get_or xs k d) name (not_equal_below (slice_cmp nat_cmp (get_or xs k d).name name) (point.0 k d (omega arith) front))
      | inr behind ↦ other_named (get_or xs k d) name (not_equal_above (slice_cmp nat_cmp (get_or xs k d).name name) (point.1 k d behind inside))
    ]

-- the value of a name
pub value_there : (name : List ℕ) (xs : List NamedValue) (at : ℕ) (d : NamedValue) → AreNamed xs → at < length xs → StandsAt name xs at → (get_or xs at d).value ≡ value_in xs name
value_there name xs at d named inside here = sym (ap value_or_zeros (found_there (is_of name) xs at d inside (own_named (get_or xs at d) name (here d)) (named.one name)))

pub value_absent : (name : List ℕ) (xs : List NamedValue) (i : ℕ) → WouldStandAt name xs i → zeros ≡ value_in xs name
value_absent name xs i point = sym (ap value_or_zeros (find_none (is_of name) xs (none_named name xs i point)))

-- the entries without that of a name
pub forgotten_there : (name : List ℕ) (xs : List NamedValue) (at : ℕ) → AreNamed xs → at < length xs → StandsAt name xs at → remove xs at ≡ filter (λ o. not (is_of name o)) xs
forgotten_there name xs at named inside here =
    let any : NamedValue = record { name = name; value = zeros } in
    remove_where_stands (is_of name) xs at any inside (own_named (get_or xs at any) name (here any)) (named.one name)

pub forgotten_absent : (name : List ℕ) (xs : List NamedValue) (i : ℕ) → WouldStandAt name xs i → xs ≡ filter (λ o. not (is_of name o)) xs
forgotten_absent name xs i point = all_kept (is_of name) xs (none_named name xs i point)

-- an entry in place of that of its name
pub put_there : (xs : List NamedValue) (at : ℕ) (new : NamedValue) → AreNamed xs → at < length xs → StandsAt new.name xs at → set xs at new ≡ put_value xs new
put_there xs at new named inside here =
    let own : (d : NamedValue) → is_of new.name (get_or xs at d) ≡ true = λ d. own_named (get_or xs at d) new.name (here d) in
    let same : (d : NamedValue) → (get_or xs at d).name ≡ new.name = λ d. name_is (get_or xs at d).name new.name (own d) in
    set_split xs at new inside
    ∙ placed_between name_cmp new (take at xs) (drop (suc at) xs)
    (each_in_front name_cmp (λ y. is_lt (name_cmp new y) ≡ false) xs at (λ k d from front.
    ap (λ n. is_lt (slice_cmp nat_cmp n (get_or xs k d).name)) (sym (same d)) ∙ sorted_far (λ a b. is_lt (name_cmp a b)) name_order xs named.rising k at d (omega (arith, front)) inside))
    (each_behind name_cmp (λ y. is_lt (name_cmp new y) ≡ true) xs (suc at) (λ k d behind end.
    higher (get_or xs k d).name new.name
    (ap (λ n. is_lt (slice_cmp nat_cmp (get_or xs k d).name n)) (sym (same d)) ∙ sorted_far (λ a b. is_lt (name_cmp a b)) name_order xs named.rising at k d (omega (arith, behind)) end)
    (none_later (is_of new.name) xs at k d (omega (arith, behind)) end (own d) (named.one new.name))))
    ∙ ap (placed name_cmp new) (forgotten_there new.name xs at named inside here)

pub put_absent : (xs : List NamedValue) (i : ℕ) (new : NamedValue) → WouldStandAt new.name xs i → insert xs i new ≡ put_value xs new
put_absent xs i new point =
    placed_between name_cmp new (take i xs) (drop i xs)
    (each_in_front name_cmp (λ y. is_lt (name_cmp new y) ≡ false) xs i (λ k d from front. below (get_or xs k d).name new.name (point.0 k d from front)))
    (each_behind name_cmp (λ y. is_lt (name_cmp new y) ≡ true) xs i (λ k d behind end. above (get_or xs k d).name new.name (point.1 k d behind end)))
    ∙ ap (placed name_cmp new) (take-append-drop i xs ∙ forgotten_absent new.name xs i point)

-- WHAT PLACING ONE DOES

module _ (e : NamedValue) where
  pub find-placed_own : (P : NamedValue → Bool) (xs : List NamedValue) → find P xs ≡ None → P e ≡ true → find P (placed name_cmp e xs) ≡ Some e
  find-placed_own P [] none own = ap (λ b. cond b (Some e) None) own
  find-placed_own P (x ∷ xs) none own =
      elim (is_lt (name_cmp e x)) as (λ t. find P (cond t (e ∷ (x ∷ xs)) (x ∷ placed name_cmp e xs)) ≡ Some e) [
        | true ↦ ap (λ b. cond b (Some e) (find P (x ∷ xs))) own
        | false ↦ elim (P x) as (λ b. cond b (Some x) (find P xs) ≡ None → cond b (Some x) (find P (placed name_cmp e xs)) ≡ Some e) [
          | true ↦ λ h. let impossible : ⊥ = cc in absurd impossible
          | false ↦ λ h. find-placed_own P xs h own
        ] none
      ]

  pub find-placed_other : (P : NamedValue → Bool) (xs : List NamedValue) → P e ≡ false → find P (placed name_cmp e xs) ≡ find P xs
  find-placed_other P [] other = ap (λ b. cond b (Some e) None) other
  find-placed_other P (x ∷ xs) other =
      elim (is_lt (name_cmp e x)) as (λ t. find P (cond t (e ∷ (x ∷ xs)) (x ∷ placed name_cmp e xs)) ≡ find P (x ∷ xs)) [
        | true ↦ ap (λ b. cond b (Some e) (find P (x ∷ xs))) other
        | false ↦ ap (λ f. cond (P x) (Some x) f) (find-placed_other P xs other)
      ]

  pub any-placed_other : (P : NamedValue → Bool) (xs : List NamedValue) → P e ≡ false → list_any P (placed name_cmp e xs) ≡ list_any P xs
  any-placed_other P [] other = ap (λ b. b || false) other
  any-placed_other P (x ∷ xs) other =
      elim (is_lt (name_cmp e x)) as (λ t. list_any P (cond t (e ∷ (x ∷ xs)) (x ∷ placed name_cmp e xs)) ≡ list_any P (x ∷ xs)) [
        | true ↦ ap (λ b. b || list_any P (x ∷ xs)) other
        | false ↦ ap (λ b. P x || b) (any-placed_other P xs other)
      ]

  two_counted : (P : NamedValue → Bool) (x : NamedValue) (xs : List NamedValue) → length (filter P (e ∷ (x ∷ xs))) ≡ length (filter P (x ∷ xs)) + length (filter P (e ∷ []))
  two_counted P x xs = elim (P e) as (λ b. length (cond b (e ∷ filter P (x ∷ xs)) (filter P (x ∷ xs))) ≡ length (filter P (x ∷ xs)) + length (cond b (e ∷ []) [])) [
    | true ↦ omega arith
    | false ↦ omega arith
  ]

  pub counted-placed : (P : NamedValue → Bool) (xs : List NamedValue) → length (filter P (placed name_cmp e xs)) ≡ length (filter P xs) + length (filter P (e ∷ []))
  counted-placed P [] = omega arith
  counted-placed P (x ∷ xs) =
      elim (is_lt (name_cmp e x)) as (λ t. length (filter P (cond t (e ∷ (x ∷ xs)) (x ∷ placed name_cmp e xs))) ≡ length (filter P (x ∷ xs)) + length (filter P (e ∷ []))) [
        | true ↦ two_counted P x xs
        | false ↦ elim (P x) as (λ b. length (cond b (x ∷ filter P (placed name_cmp e xs)) (filter P (placed name_cmp e xs))) ≡ length (cond b (x ∷ filter P xs) (filter P xs)) + length (filter P (e ∷ []))) [
          | true ↦ omega (arith, counted-placed P xs)
          | false ↦ counted-placed P xs
        ]
      ]

  pub length-placed : (xs : List NamedValue) → length (placed name_cmp e xs) ≡ suc (length xs)
  length-placed [] = refl
  length-placed (x ∷ xs) =
      elim (is_lt (name_cmp e x)) as (λ t. length (cond t (e ∷ (x ∷ xs)) (x ∷ placed name_cmp e xs)) ≡ suc (length (x ∷ xs))) [
        | true ↦ refl
        | false ↦ omega (arith, length-placed xs)
      ]
