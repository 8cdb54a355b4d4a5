-- The entries of a table's values, and what is done to them.
use Rattle.std.proofs.Common.{◌≡◌, ◌≤◌, ◌<◌, ◌+◌, ℕ, zero, suc, get_or, Bool, true, false, cond, not, ◌&&◌, ◌||◌, List, [], ◌∷◌, ◌++◌, length, Option, Some, None, refl, sym, ap, subst, ◌∙◌, arith}
use Rattle.std.specs.List.{filter, find, list_any}
use Rattle.std.specs.Prelude.{is_none}
use Rattle.std.specs.Ordering.{is_lt}
use Rattle.std.proofs.lemmas.List.Folds.{list_any-append}
use Rattle.std.proofs.lemmas.List.Kept.{IsSortedBy-filter}
use Rattle.lock_command.specs.Name.{same_name}
use Rattle.lock_command.specs.Command.{is_carried}
use Rattle.lock_command.specs.declared.command.Action.{Action}
use Rattle.lock_command.specs.declared.command.Action.TheVariants.{Enqueue, Convert, Release, Cancel, Status, Purge, QuietPurge, Forget, CarryLock, CarryClient}
use Rattle.lock_command.specs.declared.state.LockState.{LockState}
use Rattle.lock_command.specs.declared.reply.Answer.{Answer}
use Rattle.lock_command.specs.declared.record.LockRecord.{LockRecord}
use Rattle.lock_command.specs.declared.reply.LockValue.{LockValue}
use Rattle.lock_table.specs.declared.values.NamedValue.{NamedValue}
use Rattle.lock_command.specs.Locks.{is_lock, is_on, is_through, lock_in}
use Rattle.lock_table.specs.Picture.{HasZeros}
use Rattle.lock_table.specs.Values.{Values, zeros, invalid, stored, is_downward, given, spoiled, of_locked, is_granted, is_released, changed, values_after, value_of_lock, asked_value}
use Rattle.lock_command.specs.State.{is_writer}
use Rattle.lock_index.specs.Placed.{placed}
use Rattle.lock_table.specs.Stored.{is_of, value_or_zeros, value_in, name_cmp, put_value, put_if, is_locked, AreNamed, IsValued, spoiled_by, entry_of, entry_by, gives_nothing, asked_lock, asked_value_by}
use Rattle.lock_index.proofs.Apart.{name_is, same_name-itself}
use Rattle.lock_index.proofs.Ordered.{IsAscending-placed, sorted_from_ascending}
use Rattle.lock_index.proofs.Unique.{ascends}
use Rattle.lock_table.proofs.Sought.{name_order, find-placed_own, find-placed_other, any-placed_other, counted-placed, length-placed}
use Rattle.lock_index.proofs.Parts.{or_false, filter-filter, length_parts, any_within, any_from_filter}

or_no : (b : Bool) → (b || false) ≡ b
or_no true = refl
or_no false = refl

same_name-back : (a b : List ℕ) → same_name a b ≡ true → same_name b a ≡ true
same_name-back a b h = rw (name_is a b h) (same_name-itself b)

-- a search among those that pass
found_among : (P : NamedValue → Bool) (entries : List NamedValue) (name : List ℕ) (b : Bool) → ((e : NamedValue) → is_of name e ≡ true → P e ≡ b)
    → find (is_of name) (filter P entries) ≡ cond b (find (is_of name) entries) None
found_among P [] name true h = refl
found_among P [] name false h = refl
found_among P (e ∷ rest) name b h =
    elim (is_of name e) as (λ t. is_of name e ≡ t → find (is_of name) (filter P (e ∷ rest)) ≡ cond b (cond t (Some e) (find (is_of name) rest)) None) [
      | true ↦ λ own.
          elim b as (λ c. P e ≡ c → find (is_of name) (filter P rest) ≡ cond c (find (is_of name) rest) None → find (is_of name) (cond (P e) (e ∷ filter P rest) (filter P rest)) ≡ cond c (Some e) None) [
            | true ↦ λ p r. ap (λ c. find (is_of name) (cond c (e ∷ filter P rest) (filter P rest))) p ∙ ap (λ c. cond c (Some e) (find (is_of name) (filter P rest))) own
            | false ↦ λ p r. ap (λ c. find (is_of name) (cond c (e ∷ filter P rest) (filter P rest))) p ∙ r
          ] (h e own) (found_among P rest name b h)
      | false ↦ λ other.
          elim (P e) as (λ c. find (is_of name) (cond c (e ∷ filter P rest) (filter P rest)) ≡ cond b (find (is_of name) rest) None) [
            | true ↦ ap (λ c. cond c (Some e) (find (is_of name) (filter P rest))) other ∙ found_among P rest name b h
            | false ↦ found_among P rest name b h
          ]
    ] refl

-- another name's entries are no entries of this one
apart_names : (name own : List ℕ) (e : NamedValue) → same_name name own ≡ false → is_of name e ≡ true → not (is_of own e) ≡ true
apart_names name own e differ there =
    elim (is_of own e) as (λ b. is_of own e ≡ b → not b ≡ true) [
      | true ↦ λ h.
          let same : name ≡ own = sym (name_is e.name name there) ∙ name_is e.name own h in
          let clash : true ≡ false = sym (same_name-itself own) ∙ ap (λ n. same_name n own) (sym same) ∙ differ in
          let impossible : ⊥ = cc in absurd impossible
      | false ↦ λ h. refl
    ] refl

-- an entry in place of that of its name stores its value
pub put_stores : (entries : List NamedValue) (e : NamedValue) → value_in (put_value entries e) ≡ stored (value_in entries) e.name e.value
put_stores entries e = λ i name.
    (elim (same_name name e.name) as (λ b. same_name name e.name ≡ b → value_in (put_value entries e) name ≡ cond b e.value (value_in entries name)) [
      | true ↦ λ own.
          let gone : find (is_of name) (filter (λ o. not (is_of e.name o)) entries) ≡ None =
          found_among (λ o. not (is_of e.name o)) entries name false (λ o there. ap (λ n. not (same_name o.name n)) (sym (name_is name e.name own)) ∙ ap not there) in
          ap value_or_zeros (find-placed_own e (is_of name) (filter (λ o. not (is_of e.name o)) entries) gone (same_name-back name e.name own))
      | false ↦ λ differ.
          let kept : find (is_of name) (filter (λ o. not (is_of e.name o)) entries) ≡ find (is_of name) entries =
          found_among (λ o. not (is_of e.name o)) entries name true (λ o there. apart_names name e.name o differ there) in
          let other : is_of name e ≡ false = elim (is_of name e) as (λ b. is_of name e ≡ b → b ≡ false) [
            | true ↦ λ h. let clash : true ≡ false = sym (same_name-back e.name name h) ∙ differ in let impossible : ⊥ = cc in absurd impossible
            | false ↦ λ h. refl
          ] refl in
          ap value_or_zeros (find-placed_other e (is_of name) (filter (λ o. not (is_of e.name o)) entries) other ∙ kept)
    ] refl) i

or_zeros : (b : Bool) (found : Option NamedValue) → value_or_zeros (cond b found None) ≡ cond b (value_or_zeros found) zeros
or_zeros true found = refl
or_zeros false found = refl

-- to take the entries of names without locks out leaves these names zeros
pub locked_values : (locks : List LockRecord) (entries : List NamedValue) → value_in (filter (is_locked locks) entries) ≡ of_locked locks (value_in entries)
locked_values locks entries = λ i name.
    (ap value_or_zeros (found_among (is_locked locks) entries name (list_any (is_on name) locks) (λ e own. ap (λ n. list_any (is_on n) locks) (name_is e.name name own)))
    ∙ or_zeros (list_any (is_on name) locks) (find (is_of name) entries)) i

length-kept : (P : NamedValue → Bool) (xs : List NamedValue) → length (filter P xs) ≤ length xs
length-kept P xs = omega (arith, length_parts P xs)

pub one_among : (P : NamedValue → Bool) (entries : List NamedValue) → ((name : List ℕ) → length (filter (is_of name) entries) ≤ 1) → (name : List ℕ) → length (filter (is_of name) (filter P entries)) ≤ 1
one_among P entries one name = omega (arith, one name, ap length (filter-filter (is_of name) P entries), length-kept P (filter (is_of name) entries))

any_among : (P Q : NamedValue → Bool) (xs : List NamedValue) → list_any P (filter Q xs) ≡ true → (e : NamedValue) × (P e ≡ true) × (Q e ≡ true)
any_among P Q [] h = let impossible : ⊥ = cc in absurd impossible
any_among P Q (x ∷ xs) h =
    elim (Q x) as (λ q. Q x ≡ q → list_any P (cond q (x ∷ filter Q xs) (filter Q xs)) ≡ true → (e : NamedValue) × (P e ≡ true) × (Q e ≡ true)) [
      | true ↦ λ q t. elim (P x) as (λ p. P x ≡ p → (p || list_any P (filter Q xs)) ≡ true → (e : NamedValue) × (P e ≡ true) × (Q e ≡ true)) [
        | true ↦ λ p s. (x, p, q)
        | false ↦ λ p s. any_among P Q xs s
      ] refl t
      | false ↦ λ q t. any_among P Q xs t
    ] refl h

named_among : (P : NamedValue → Bool) (entries : List NamedValue) → AreNamed entries → AreNamed (filter P entries)
named_among P entries named = record {
  rising = IsSortedBy-filter (λ a b. is_lt (name_cmp a b)) name_order P entries named.rising;
  one = one_among P entries named.one;
}

-- what is left then is valued
pub valued_again : (locks : List LockRecord) (entries : List NamedValue) → AreNamed entries → IsValued locks (filter (is_locked locks) entries)
valued_again locks entries named = record {
  named = named_among (is_locked locks) entries named;
  locked = λ name there.
      let found = any_among (is_of name) (is_locked locks) entries there in
      ap (λ n. list_any (is_on n) locks) (sym (name_is found.0.name name found.1)) ∙ found.2;
}

-- HOW MANY THERE ARE

any_counted : {X : Type 0} (P : X → Bool) (xs : List X) → list_any P xs ≡ true → 1 ≤ length (filter P xs)
any_counted P [] h = let impossible : ⊥ = cc in absurd impossible
any_counted P (x ∷ xs) h = elim (P x) as (λ b. (b || list_any P xs) ≡ true → 1 ≤ length (cond b (x ∷ filter P xs) (filter P xs))) [
  | true ↦ λ t. omega arith
  | false ↦ λ t. any_counted P xs t
] h

rest_counted : (P : NamedValue → Bool) (e : NamedValue) (rest : List NamedValue) → length (filter P rest) ≤ length (filter P (e ∷ rest))
rest_counted P e rest = elim (P e) as (λ b. length (filter P rest) ≤ length (cond b (e ∷ filter P rest) (filter P rest))) [
  | true ↦ omega arith
  | false ↦ omega arith
]

or_yes : (b : Bool) → (b || true) ≡ true
or_yes true = refl
or_yes false = refl

-- a name that is listed behind an entry is not the entry's
listed_apart : (e : NamedValue) (rest : List NamedValue) (name : List ℕ) → length (filter (is_of name) (e ∷ rest)) ≤ 1 → list_any (is_of name) rest ≡ true → same_name name e.name ≡ false
listed_apart e rest name one there = elim (same_name name e.name) as (λ b. same_name name e.name ≡ b → b ≡ false) [
  | true ↦ λ own.
      let twice : length (filter (is_of name) (e ∷ rest)) ≡ length (e ∷ filter (is_of name) rest) = ap (λ b. length (cond b (e ∷ filter (is_of name) rest) (filter (is_of name) rest))) (same_name-back name e.name own) in
      absurd (omega (arith, twice, one, any_counted (is_of name) rest there))
  | false ↦ λ other. refl
] refl

elsewhere : (name own : List ℕ) (r : LockRecord) → same_name name own ≡ false → is_on name r ≡ true → not (is_on own r) ≡ true
elsewhere name own r differ there =
    elim (is_on own r) as (λ b. is_on own r ≡ b → not b ≡ true) [
      | true ↦ λ h.
          let same : name ≡ own = sym (name_is r.name name there) ∙ name_is r.name own h in
          let clash : true ≡ false = sym (same_name-itself own) ∙ ap (λ n. same_name n own) (sym same) ∙ differ in
          let impossible : ⊥ = cc in absurd impossible
      | false ↦ λ h. refl
    ] refl

-- there are no more entries than locks
entries_few : (entries : List NamedValue) (locks : List LockRecord) → ((name : List ℕ) → length (filter (is_of name) entries) ≤ 1) → ((name : List ℕ) → list_any (is_of name) entries ≡ true → list_any (is_on name) locks ≡ true)
    → length entries ≤ length locks
entries_few [] locks one locked = omega arith
entries_few (e ∷ rest) locks one locked =
    let others = filter (λ r. not (is_on e.name r)) locks in
    let here : list_any (is_on e.name) locks ≡ true = locked e.name (ap (λ b. b || list_any (is_of e.name) rest) (same_name-itself e.name)) in
    let fewer : length rest ≤ length others = entries_few rest others (λ name. omega (arith, one name, rest_counted (is_of name) e rest)) (λ name there.
    let differ = listed_apart e rest name (one name) there in
    any_within (is_on name) (λ r. not (is_on e.name r)) (λ r h. elsewhere name e.name r differ h) locks
    ∙ locked name (ap (λ b. is_of name e || b) there ∙ or_yes (is_of name e))) in
    omega (arith, fewer, any_counted (is_on e.name) locks here, length_parts (is_on e.name) locks)

none_left : (P : NamedValue → Bool) (xs : List NamedValue) → length (filter P (filter (λ x. not (P x)) xs)) ≡ 0
none_left P [] = refl
none_left P (x ∷ xs) = elim (P x) as (λ b. P x ≡ b → length (filter P (cond (not b) (x ∷ filter (λ y. not (P y)) xs) (filter (λ y. not (P y)) xs))) ≡ 0) [
  | true ↦ λ e. none_left P xs
  | false ↦ λ e. ap (λ b. length (cond b (x ∷ filter P (filter (λ y. not (P y)) xs)) (filter P (filter (λ y. not (P y)) xs)))) e ∙ none_left P xs
] refl

named_put : (entries : List NamedValue) (e : NamedValue) → AreNamed entries → AreNamed (put_value entries e)
named_put entries e named =
    let others = filter (λ o. not (is_of e.name o)) entries in
    let left : AreNamed others = named_among (λ o. not (is_of e.name o)) entries named in
    record {
      rising = sorted_from_ascending name_cmp name_order (placed name_cmp e others) (IsAscending-placed name_cmp name_order e others (ascends name_cmp name_order others left.rising));
      one = λ name.
          let parts : length (filter (is_of name) (placed name_cmp e others)) ≡ length (filter (is_of name) others) + length (filter (is_of name) (e ∷ [])) = counted-placed e (is_of name) others in
          elim (is_of name e) as (λ b. is_of name e ≡ b → length (filter (is_of name) (placed name_cmp e others)) ≤ 1) [
            | true ↦ λ own.
                let none : length (filter (is_of name) others) ≡ 0 = ap (λ n. length (filter (is_of name) (filter (λ o. not (is_of n o)) entries))) (name_is e.name name own) ∙ none_left (is_of name) entries in
                let one : length (filter (is_of name) (e ∷ [])) ≡ 1 = ap (λ b. length (cond b (e ∷ []) [])) own in
                omega (arith, parts, none, one)
            | false ↦ λ other.
                let none : length (filter (is_of name) (e ∷ [])) ≡ 0 = ap (λ b. length (cond b (e ∷ []) [])) other in
                omega (arith, parts, none, left.one name)
          ] refl;
    }

-- an entry of a name that has locks may be put
pub valued_put : (locks : List LockRecord) (entries : List NamedValue) (e : NamedValue) → IsValued locks entries → list_any (is_on e.name) locks ≡ true → IsValued locks (put_value entries e)
valued_put locks entries e valued has = record {
  named = named_put entries e valued.named;
  locked = λ name there.
      elim (is_of name e) as (λ b. is_of name e ≡ b → list_any (is_on name) locks ≡ true) [
        | true ↦ λ own. ap (λ n. list_any (is_on n) locks) (sym (name_is e.name name own)) ∙ has
        | false ↦ λ other.
            let before : list_any (is_of name) (filter (λ o. not (is_of e.name o)) entries) ≡ true = sym (any-placed_other e (is_of name) (filter (λ o. not (is_of e.name o)) entries) other) ∙ there in
            valued.locked name (any_from_filter (is_of name) (λ o. not (is_of e.name o)) entries before)
      ] refl;
}

-- and there is room for it
pub room_for : (locks : List LockRecord) (entries : List NamedValue) (e : NamedValue) (most : ℕ) → length locks ≤ most → IsValued locks entries → list_any (is_on e.name) locks ≡ true
    → length (filter (λ o. not (is_of e.name o)) entries) < most
room_for locks entries e most few valued has =
    let put = valued_put locks entries e valued has in
    omega (arith, few, entries_few (put_value entries e) locks put.named.one put.locked, length-placed e (filter (λ o. not (is_of e.name o)) entries))

-- WHAT IS SPOILED

abbrev spoils : List ℕ → ℕ → LockRecord → Bool
spoils name host r = is_on name r && (is_through host r && is_writer r.state)

twice_invalid : (b : Bool) (v : LockValue) → invalid (cond b (invalid v) v) ≡ invalid v
twice_invalid true v = refl
twice_invalid false v = refl

-- one more lock that is purged and writes alone
pub spoil_next : (v : Values) (front : List LockRecord) (r : LockRecord) (host : ℕ) → (is_through host r && is_writer r.state) ≡ true
    → stored (spoiled v front host) r.name (invalid (spoiled v front host r.name)) ≡ spoiled v (front ++ r ∷ []) host
spoil_next v front r host goes = λ i name.
    (let more : list_any (spoils name host) (front ++ r ∷ []) ≡ (list_any (spoils name host) front || (is_on name r && true || false)) =
    list_any-append (spoils name host) front (r ∷ []) ∙ ap (λ b. list_any (spoils name host) front || (is_on name r && b || false)) goes in
    elim (same_name name r.name) as (λ b. same_name name r.name ≡ b → cond b (invalid (spoiled v front host r.name)) (spoiled v front host name) ≡ spoiled v (front ++ r ∷ []) host name) [
      | true ↦ λ own.
          let same : name ≡ r.name = name_is name r.name own in
          let all : list_any (spoils name host) (front ++ r ∷ []) ≡ true = more ∙ ap (λ b. list_any (spoils name host) front || (b && true || false)) (same_name-back name r.name own) ∙ or_yes (list_any (spoils name host) front) in
          ap (λ n. invalid (spoiled v front host n)) (sym same) ∙ twice_invalid (list_any (spoils name host) front) (v name) ∙ sym (ap (λ b. cond b (invalid (v name)) (v name)) all)
      | false ↦ λ differ.
          let other : is_on name r ≡ false = elim (is_on name r) as (λ b. is_on name r ≡ b → b ≡ false) [
            | true ↦ λ h. let clash : true ≡ false = sym (same_name-back r.name name h) ∙ differ in let impossible : ⊥ = cc in absurd impossible
            | false ↦ λ h. refl
          ] refl in
          let all : list_any (spoils name host) (front ++ r ∷ []) ≡ list_any (spoils name host) front = more ∙ ap (λ b. list_any (spoils name host) front || (b && true || false)) other ∙ or_no (list_any (spoils name host) front) in
          sym (ap (λ b. cond b (invalid (v name)) (v name)) all)
    ] refl) i

and_no : (b : Bool) → (b && false) ≡ false
and_no true = refl
and_no false = refl

-- one more that stays, or writes beside others
pub spoil_past : (v : Values) (front : List LockRecord) (r : LockRecord) (host : ℕ) → (is_through host r && is_writer r.state) ≡ false → spoiled v front host ≡ spoiled v (front ++ r ∷ []) host
spoil_past v front r host stays = λ i name.
    cond (sym (list_any-append (spoils name host) front (r ∷ []) ∙ ap (λ b. list_any (spoils name host) front || (is_on name r && b || false)) stays ∙ ap (λ b. list_any (spoils name host) front || (b || false)) (and_no (is_on name r)) ∙ or_no (list_any (spoils name host) front)) i) (invalid (v name)) (v name)

pub has_at : (locks : List LockRecord) (at : ℕ) (d : LockRecord) → at < length locks → list_any (is_on (get_or locks at d).name) locks ≡ true
has_at [] at d inside = absurd (omega (arith, inside))
has_at (x ∷ xs) zero d inside = ap (λ b. b || list_any (is_on x.name) xs) (same_name-itself x.name)
has_at (x ∷ xs) (suc at) d inside = ap (λ b. is_on (get_or xs at d).name x || b) (has_at xs at d (omega (arith, inside))) ∙ or_yes (is_on (get_or xs at d).name x)

-- a lock of the list has a name that has locks
pub has_own : (locks : List LockRecord) (r : LockRecord) (P : LockRecord → Bool) → find P locks ≡ Some r → list_any (is_on r.name) locks ≡ true
has_own [] r P h = let impossible : ⊥ = cc in absurd impossible
has_own (x ∷ xs) r P h = elim (P x) as (λ b. cond b (Some x) (find P xs) ≡ Some r → list_any (is_on r.name) (x ∷ xs) ≡ true) [
  | true ↦ λ e.
      let same : x ≡ r = cc in
      ap (λ b. b || list_any (is_on r.name) xs) (ap (is_on r.name) same ∙ same_name-itself r.name)
  | false ↦ λ e. ap (λ b. is_on r.name x || b) (has_own xs r P e) ∙ or_yes (is_on r.name x)
] h

-- WHAT IS GIVEN

pub entry_stores : (entries : List NamedValue) (lets : LockState → Bool) (found : Option LockRecord) (value : Option (List ℕ)) → value_in (put_if entries (entry_of lets found value)) ≡ given (value_in entries) lets found value
entry_stores entries lets None None = refl
entry_stores entries lets None (Some bytes) = refl
entry_stores entries lets (Some r) None = refl
entry_stores entries lets (Some r) (Some bytes) =
    elim (lets r.state) as (λ b. value_in (put_if entries (cond b (Some (record { name = r.name; value = record { bytes = bytes; valid = true } })) None)) ≡ cond b (stored (value_in entries) r.name (record { bytes = bytes; valid = true })) (value_in entries)) [
      | true ↦ put_stores entries (record { name = r.name; value = record { bytes = bytes; valid = true } })
      | false ↦ refl
    ]

entry_if : (b : Bool) (entries : List NamedValue) (lets : LockState → Bool) (found : Option LockRecord) (value : Option (List ℕ)) → value_in (put_if entries (cond b (entry_of lets found value) None)) ≡ cond b (given (value_in entries) lets found value) (value_in entries)
entry_if true entries lets found value = entry_stores entries lets found value
entry_if false entries lets found value = refl

-- what is stored in the end is what the command changes
pub stores_changed : (before entries : List NamedValue) (locks : List LockRecord) (action : Action) (a : Answer) → is_carried action ≡ false → value_in entries ≡ spoiled_by (value_in before) locks action
    → value_in (put_if entries (entry_by (asked_lock locks action) action a)) ≡ changed (value_in before) locks action a
stores_changed before entries locks (Enqueue lock name mode no_queue) a asked is = is
stores_changed before entries locks (Convert lock mode no_queue value) a asked is = entry_if (is_granted a) entries (is_downward mode) (lock_in locks lock) value ∙ ap (λ v. cond (is_granted a) (given v (is_downward mode) (lock_in locks lock) value) v) is
stores_changed before entries locks (Release lock value) a asked is = entry_if (is_released a) entries is_writer (lock_in locks lock) value ∙ ap (λ v. cond (is_released a) (given v is_writer (lock_in locks lock) value) v) is
stores_changed before entries locks (Cancel lock) a asked is = is
stores_changed before entries locks (Status lock) a asked is = is
stores_changed before entries locks (Purge host) a asked is = is
stores_changed before entries locks (QuietPurge host) a asked is = is
stores_changed before entries locks (Forget gone) a asked is = is
stores_changed before entries locks (CarryLock lock name state value) a asked is = let impossible : ⊥ = cc in absurd impossible
stores_changed before entries locks (CarryClient reply) a asked is = is

entry_named : (locks : List LockRecord) (b : Bool) (lets : LockState → Bool) (lock : ℕ) (found : Option LockRecord) (value : Option (List ℕ)) (e : NamedValue) → lock_in locks lock ≡ found
    → cond b (entry_of lets found value) None ≡ Some e → list_any (is_on e.name) locks ≡ true
entry_named locks false lets lock found value e is h = let impossible : ⊥ = cc in absurd impossible
entry_named locks true lets lock None value e is h = let impossible : ⊥ = cc in absurd impossible
entry_named locks true lets lock (Some r) None e is h = let impossible : ⊥ = cc in absurd impossible
entry_named locks true lets lock (Some r) (Some bytes) e is h =
    elim (lets r.state) as (λ b. cond b (Some (record { name = r.name; value = record { bytes = bytes; valid = true } })) None ≡ Some e → list_any (is_on e.name) locks ≡ true) [
      | true ↦ λ k.
          let same : record { name = r.name; value = record { bytes = bytes; valid = true } } ≡ e = cc in
          ap (λ (o : NamedValue). list_any (is_on o.name) locks) (sym same) ∙ has_own locks r (is_lock lock) is
      | false ↦ λ k. let impossible : ⊥ = cc in absurd impossible
    ] h

-- it is stored under a name that has locks
pub entry_has : (locks : List LockRecord) (action : Action) (a : Answer) (e : NamedValue) → entry_by (asked_lock locks action) action a ≡ Some e → list_any (is_on e.name) locks ≡ true
entry_has locks (Enqueue lock name mode no_queue) a e h = let impossible : ⊥ = cc in absurd impossible
entry_has locks (Convert lock mode no_queue value) a e h = entry_named locks (is_granted a) (is_downward mode) lock (lock_in locks lock) value e refl h
entry_has locks (Release lock value) a e h = entry_named locks (is_released a) is_writer lock (lock_in locks lock) value e refl h
entry_has locks (Cancel lock) a e h = let impossible : ⊥ = cc in absurd impossible
entry_has locks (Status lock) a e h = let impossible : ⊥ = cc in absurd impossible
entry_has locks (Purge host) a e h = let impossible : ⊥ = cc in absurd impossible
entry_has locks (QuietPurge host) a e h = let impossible : ⊥ = cc in absurd impossible
entry_has locks (Forget gone) a e h = let impossible : ⊥ = cc in absurd impossible
entry_has locks (CarryLock lock name state value) a e h = let impossible : ⊥ = cc in absurd impossible
entry_has locks (CarryClient reply) a e h = let impossible : ⊥ = cc in absurd impossible

valued_if : (locks : List LockRecord) (entries : List NamedValue) (o : Option NamedValue) → IsValued locks entries → ((e : NamedValue) → o ≡ Some e → list_any (is_on e.name) locks ≡ true) → IsValued locks (put_if entries o)
valued_if locks entries None valued has = valued
valued_if locks entries (Some e) valued has = valued_put locks entries e valued (has e refl)

-- what a command stores leaves the entries valued
pub valued_stored : (locks : List LockRecord) (before after : List NamedValue) (found : Option LockRecord) (action : Action) (a : Answer) → IsValued locks before → found ≡ asked_lock locks action → after ≡ put_if before (entry_by found action a) → IsValued locks after
valued_stored locks before after found action a valued asked put =
    subst (λ (l : List NamedValue). IsValued locks l) (sym (put ∙ ap (λ f. put_if before (entry_by f action a)) asked)) (valued_if locks before (entry_by (asked_lock locks action) action a) valued (λ e h. entry_has locks action a e h))

-- what is asked is asked of the locks before
pub asked_same : (v : Values) (locks : List LockRecord) (action : Action) → asked_value_by v (asked_lock locks action) action ≡ asked_value v locks action
asked_same v locks (Enqueue lock name mode no_queue) = refl
asked_same v locks (Convert lock mode no_queue value) = refl
asked_same v locks (Release lock value) = refl
asked_same v locks (Cancel lock) = refl
asked_same v locks (Status lock) = refl
asked_same v locks (Purge host) = refl
asked_same v locks (QuietPurge host) = refl
asked_same v locks (Forget gone) = refl
asked_same v locks (CarryLock lock name state value) = refl
asked_same v locks (CarryClient reply) = refl

pub of_locked_zeros : (locks : List LockRecord) (v : Values) → HasZeros locks (of_locked locks v)
of_locked_zeros locks v name none = ap (λ b. cond b (v name) zeros) none

-- WHERE NOTHING IS STORED

zeros_left : (b : Bool) → cond b zeros zeros ≡ zeros
zeros_left true = refl
zeros_left false = refl

given_none : (v : Values) (lets : LockState → Bool) (found : Option LockRecord) (value : Option (List ℕ)) (b : Bool) → is_none value ≡ true → cond b (given v lets found value) v ≡ v
given_none v lets None None true none = refl
given_none v lets None None false none = refl
given_none v lets (Some r) None true none = refl
given_none v lets (Some r) None false none = refl
given_none v lets found (Some bytes) b none = let impossible : ⊥ = cc in absurd impossible

changed_nothing : (v : Values) (locks : List LockRecord) (action : Action) (a : Answer) → gives_nothing action ≡ true → changed v locks action a ≡ v
changed_nothing v locks (Enqueue lock name mode no_queue) a nothing = refl
changed_nothing v locks (Convert lock mode no_queue value) a nothing = given_none v (is_downward mode) (lock_in locks lock) value (is_granted a) nothing
changed_nothing v locks (Release lock value) a nothing = given_none v is_writer (lock_in locks lock) value (is_released a) nothing
changed_nothing v locks (Cancel lock) a nothing = refl
changed_nothing v locks (Status lock) a nothing = refl
changed_nothing v locks (Purge host) a nothing = let impossible : ⊥ = cc in absurd impossible
changed_nothing v locks (QuietPurge host) a nothing = refl
changed_nothing v locks (Forget gone) a nothing = refl
changed_nothing v locks (CarryLock lock name state value) a nothing = let impossible : ⊥ = cc in absurd impossible
changed_nothing v locks (CarryClient reply) a nothing = refl

-- nothing is stored then
pub nothing_after : (before after : List LockRecord) (action : Action) (a : Answer) → gives_nothing action ≡ true → value_in [] ≡ values_after (value_in []) before after action a
nothing_after before after action a nothing =
    (λ i name. sym (zeros_left (list_any (is_on name) after)) i) ∙ ap (of_locked after) (sym (changed_nothing (value_in []) before action a nothing))

asked_of_lock : (found : Option LockRecord) → value_of_lock (value_in []) found ≡ zeros
asked_of_lock None = refl
asked_of_lock (Some r) = refl

-- and zeros are returned
pub asked_zeros : (locks : List LockRecord) (action : Action) → zeros ≡ asked_value (value_in []) locks action
asked_zeros locks (Enqueue lock name mode no_queue) = refl
asked_zeros locks (Convert lock mode no_queue value) = sym (asked_of_lock (lock_in locks lock))
asked_zeros locks (Release lock value) = refl
asked_zeros locks (Cancel lock) = refl
asked_zeros locks (Status lock) = sym (asked_of_lock (lock_in locks lock))
asked_zeros locks (Purge host) = refl
asked_zeros locks (QuietPurge host) = refl
asked_zeros locks (Forget gone) = refl
asked_zeros locks (CarryLock lock name state value) = refl
asked_zeros locks (CarryClient reply) = refl

pub valued_none : (locks : List LockRecord) → IsValued locks []
valued_none locks = record { named = record { rising = λ k d from far. absurd (omega (arith, far)); one = λ name. omega arith }; locked = λ name there. let impossible : ⊥ = cc in absurd impossible }

none_spoils : (name : List ℕ) (host : ℕ) (locks : List LockRecord) → list_any (λ (r : LockRecord). is_writer r.state) locks ≡ false → list_any (spoils name host) locks ≡ false
none_spoils name host [] none = refl
none_spoils name host (r ∷ rest) none =
    let parts = or_false (is_writer r.state) (list_any (λ (o : LockRecord). is_writer o.state) rest) none in
    ap (λ b. is_on name r && (is_through host r && b) || list_any (spoils name host) rest) parts.0
    ∙ ap (λ b. is_on name r && b || list_any (spoils name host) rest) (and_no (is_through host r))
    ∙ ap (λ b. b || list_any (spoils name host) rest) (and_no (is_on name r))
    ∙ none_spoils name host rest parts.1

-- where nobody writes alone, a purge makes nothing invalid
pub spoil_none : (v : Values) (locks : List LockRecord) (host : ℕ) → list_any (λ (r : LockRecord). is_writer r.state) locks ≡ false → v ≡ spoiled v locks host
spoil_none v locks host none = λ i name. cond (sym (none_spoils name host locks none) i) (invalid (v name)) (v name)

-- WHAT IS KEPT

filter_members : (P Q : NamedValue → Bool) (entries : List NamedValue) → ((e : NamedValue) → list_any (is_of e.name) entries ≡ true → P e ≡ Q e) → filter P entries ≡ filter Q entries
filter_members P Q [] same = refl
filter_members P Q (e ∷ rest) same =
    let here : P e ≡ Q e = same e (ap (λ b. b || list_any (is_of e.name) rest) (same_name-itself e.name)) in
    let tail = filter_members P Q rest (λ x there. same x (ap (λ b. is_of x.name e || b) there ∙ or_yes (is_of x.name e))) in
    λ i. cond (here i) (e ∷ tail i) (tail i)

filter_all : (entries : List NamedValue) → entries ≡ filter (λ e. true) entries
filter_all [] = refl
filter_all (e ∷ rest) = ap (λ l. e ∷ l) (filter_all rest)

-- where all names have locks
pub all_locked : (locks : List LockRecord) (entries : List NamedValue) → ((name : List ℕ) → list_any (is_of name) entries ≡ true → list_any (is_on name) locks ≡ true) → entries ≡ filter (is_locked locks) entries
all_locked locks entries all = filter_all entries ∙ filter_members (λ e. true) (is_locked locks) entries (λ e there. sym (all e.name there))

-- where all but one do, and that one does too
pub own_locked : (locks : List LockRecord) (entries : List NamedValue) (own : List ℕ)
    → ((name : List ℕ) → list_any (is_of name) entries ≡ true → same_name name own ≡ false → list_any (is_on name) locks ≡ true)
    → list_any (is_on own) locks ≡ true → entries ≡ filter (is_locked locks) entries
own_locked locks entries own others has = all_locked locks entries (λ name there.
    elim (same_name name own) as (λ b. same_name name own ≡ b → list_any (is_on name) locks ≡ true) [
      | true ↦ λ same. ap (λ n. list_any (is_on n) locks) (name_is name own same) ∙ has
      | false ↦ λ differ. others name there differ
    ] refl)

-- or does not
pub own_lost : (locks : List LockRecord) (entries : List NamedValue) (own : List ℕ)
    → ((name : List ℕ) → list_any (is_of name) entries ≡ true → same_name name own ≡ false → list_any (is_on name) locks ≡ true)
    → list_any (is_on own) locks ≡ false → filter (λ o. not (is_of own o)) entries ≡ filter (is_locked locks) entries
own_lost locks entries own others lost = filter_members (λ o. not (is_of own o)) (is_locked locks) entries (λ e there.
    elim (is_of own e) as (λ b. is_of own e ≡ b → not b ≡ is_locked locks e) [
      | true ↦ λ same. sym (ap (λ n. list_any (is_on n) locks) (name_is e.name own same) ∙ lost)
      | false ↦ λ differ. sym (others e.name there differ)
    ] refl)
