-- What is done on one name leaves the other names alone.
use Rattle.std.proofs.Common.{◌≡◌, ◌≤◌, ◌+◌, ℕ, Bool, true, false, cond, not, ◌&&◌, ◌||◌, List, [], ◌∷◌, ◌++◌, refl, sym, ap, ◌∙◌, arith}
use Rattle.std.specs.List.{filter, list_any}
use Rattle.std.specs.Cmp.Lexicographic.{same_text}
use Rattle.std.proofs.lemmas.Bool.{eq-eqb}
use Rattle.std.proofs.lemmas.List.Elements.{filter-append}
use Rattle.std.proofs.lemmas.List.Folds.{list_any-append}
use Rattle.lock_command.specs.declared.mode.Mode.{Mode}
use Rattle.lock_command.specs.Name.{same_name}
use Rattle.lock_command.specs.declared.record.LockRecord.{LockRecord}
use Rattle.lock_command.specs.State.{goal_of}
use Rattle.lock_command.specs.Locks.{is_lock, is_on, without, put, converts_on, waits_on, conversions, waiting, queue, stands_against, admits, granted, grant_from, settled, settled_all, IsDistinct}
use Rattle.lock_index.proofs.Parts.{filter-filter, filter_within, any_within}
use Rattle.lock_index.proofs.Numbered.{numbered, numbered-cons, numbered-parts, without_absent, IsDistinct-put}
use Rattle.lock_index.proofs.Turns.{filter-put}

-- the locks of a name
abbrev pub on : List ℕ → List LockRecord → List LockRecord
on name locks = filter (is_on name) locks

pub and_first : (a b : Bool) → (a && b) ≡ true → a ≡ true
and_first true b h = refl
and_first false b h = h

pub name_is : (a b : List ℕ) → same_name a b ≡ true → a ≡ b
name_is a b h = same_text a b (sym h)

pub same_name-itself : (name : List ℕ) → same_name name name ≡ true
same_name-itself [] = refl
same_name-itself (x ∷ name) = ap (λ b. b && same_name name name) (eq-eqb x x refl) ∙ same_name-itself name

-- queues and tests of a name read the locks of that name alone
pub conversions-on : (name : List ℕ) (a : List LockRecord) → conversions (on name a) name ≡ conversions a name
conversions-on name a = filter_within (converts_on name) (is_on name) (λ r h. and_first _ _ h) a

pub waiting-on : (name : List ℕ) (a : List LockRecord) → waiting (on name a) name ≡ waiting a name
waiting-on name a = filter_within (waits_on name) (is_on name) (λ r h. and_first _ _ h) a

pub queue-on : (name : List ℕ) (a : List LockRecord) → queue (on name a) name ≡ queue a name
queue-on name a = λ i. conversions-on name a i ++ waiting-on name a i

pub admits-on : (name : List ℕ) (lock : ℕ) (mode : Mode) (a : List LockRecord) → admits (on name a) lock name mode ≡ admits a lock name mode
admits-on name lock mode a = ap not (any_within (stands_against lock name mode) (is_on name) (λ r h. and_first _ _ h) a)

pub on-put : (name : List ℕ) (r : LockRecord) (a : List LockRecord) → is_on name r ≡ true → on name (put a r) ≡ put (on name a) r
on-put name r a own =
    filter-append (is_on name) (without a r.lock) (r ∷ [])
    ∙ (λ i. filter-filter (is_on name) (λ o. not (is_lock r.lock o)) a i ++ cond (own i) (r ∷ []) [])

pub on-put_apart : (name : List ℕ) (r : LockRecord) (a : List LockRecord) → is_on name r ≡ false → numbered r.lock (on name a) ≡ 0 → on name (put a r) ≡ on name a
on-put_apart name r a other absent = filter-put (is_on name) a r other ∙ without_absent r.lock (on name a) absent

pub on-without_apart : (name : List ℕ) (lock : ℕ) (a : List LockRecord) → numbered lock (on name a) ≡ 0 → on name (without a lock) ≡ on name a
on-without_apart name lock a absent = filter-filter (is_on name) (λ o. not (is_lock lock o)) a ∙ without_absent lock (on name a) absent

-- a fact of each record of a list
abbrev Each : (LockRecord → Type 0) → List LockRecord → Type 0
Each P [] = Unit {0}
Each P (r ∷ rest) = P r × Each P rest

each_more : (P Q : LockRecord → Type 0) → ((r : LockRecord) → P r → Q r) → (xs : List LockRecord) → Each P xs → Each Q xs
each_more P Q more [] each = tt
each_more P Q more (r ∷ rest) each = (more r each.0, each_more P Q more rest each.1)

each-append : (P : LockRecord → Type 0) (xs ys : List LockRecord) → Each P xs → Each P ys → Each P (xs ++ ys)
each-append P [] ys each others = others
each-append P (r ∷ rest) ys each others = (each.0, each-append P rest ys each.1 others)

-- what a filter keeps passes, and is counted
each-filter : (Q : LockRecord → Bool) (xs : List LockRecord) → Each (λ r. (Q r ≡ true) × (1 ≤ numbered r.lock xs)) (filter Q xs)
each-filter Q [] = tt
each-filter Q (x ∷ xs) =
    let tail = each_more (λ r. (Q r ≡ true) × (1 ≤ numbered r.lock xs)) (λ r. (Q r ≡ true) × (1 ≤ numbered r.lock (x ∷ xs))) (λ r h. (h.0, omega (arith, h.1, numbered-cons r.lock x xs))) (filter Q xs) (each-filter Q xs) in
    elim (Q x) as (λ q. Q x ≡ q → Each (λ r. (Q r ≡ true) × (1 ≤ numbered r.lock (x ∷ xs))) (cond q (x ∷ filter Q xs) (filter Q xs))) [
      | true ↦ λ e. ((e, let own : numbered x.lock (x ∷ xs) ≡ cond true 1 0 + numbered x.lock xs = numbered-cons x.lock x xs ∙ ap (λ s. cond s 1 0 + numbered x.lock xs) (eq-eqb x.lock x.lock refl) in omega arith), tail)
      | false ↦ λ e. tail
    ] refl

Queues : List ℕ → List LockRecord → LockRecord → Type 0
Queues name a r = (is_on name r ≡ true) × (1 ≤ numbered r.lock (on name a))

each-queues : (name : List ℕ) (a : List LockRecord) → Each (Queues name a) (queue a name)
unfolding Queues
each-queues name a =
    rw (← queue-on name a) (each-append (Queues name a) (conversions (on name a) name) (waiting (on name a) name)
    (each_more _ (Queues name a) (λ r h. (and_first _ _ h.0, h.1)) (conversions (on name a) name) (each-filter (converts_on name) (on name a)))
    (each_more _ (Queues name a) (λ r h. (and_first _ _ h.0, h.1)) (waiting (on name a) name) (each-filter (waits_on name) (on name a))))

grants_own : (name : List ℕ) (q a : List LockRecord) → Each (λ r. is_on name r ≡ true) q → on name (grant_from q a) ≡ grant_from q (on name a)
grants_own name [] a each = refl
grants_own name (r ∷ q) a each =
    let is : r.name ≡ name = name_is r.name name each.0 in
    let may : admits (on name a) r.lock r.name (goal_of r.state) ≡ admits a r.lock r.name (goal_of r.state) =
    ap not (any_within (stands_against r.lock r.name (goal_of r.state)) (is_on name) (λ o h. ap (λ n. same_name o.name n) (sym is) ∙ and_first _ _ h) a) in
    rw may (elim (admits a r.lock r.name (goal_of r.state)) as (λ t. on name (cond t (grant_from q (put a (granted r))) a) ≡ cond t (grant_from q (put (on name a) (granted r))) (on name a)) [
      | true ↦ grants_own name q (put a (granted r)) each.1 ∙ ap (grant_from q) (on-put name (granted r) a each.0)
      | false ↦ refl
    ])

grants_apart : (name : List ℕ) (z q a : List LockRecord) → on name a ≡ z → Each (λ r. (is_on name r ≡ false) × (numbered r.lock z ≡ 0)) q → on name (grant_from q a) ≡ z
grants_apart name z [] a is each = is
grants_apart name z (r ∷ q) a is each =
    elim (admits a r.lock r.name (goal_of r.state)) as (λ t. on name (cond t (grant_from q (put a (granted r))) a) ≡ z) [
      | true ↦ grants_apart name z q (put a (granted r)) (on-put_apart name (granted r) a each.0.0 (ap (numbered r.lock) is ∙ each.0.1) ∙ is) each.1
      | false ↦ is
    ]

-- to settle a name changes the locks of that name
pub settled-on : (name : List ℕ) (a : List LockRecord) → on name (settled a name) ≡ settled (on name a) name
unfolding settled Queues
settled-on name a =
    grants_own name (queue a name) a (each_more (Queues name a) (λ r. is_on name r ≡ true) (λ r h. h.0) (queue a name) (each-queues name a))
    ∙ ap (λ q. grant_from q (on name a)) (sym (queue-on name a))

pub apart_names : (a b : List ℕ) → same_name a b ≡ false → (r : LockRecord) → is_on a r ≡ true → is_on b r ≡ false
apart_names a b differ r own = ap (λ n. same_name n b) (name_is r.name a own) ∙ differ

-- a lock that stands under a name stands under no other
pub absent_apart : (a b : List ℕ) (lock : ℕ) (locks : List LockRecord) → same_name a b ≡ false → IsDistinct locks → 1 ≤ numbered lock (on a locks) → numbered lock (on b locks) ≡ 0
absent_apart a b lock locks differ distinct there = omega (arith, there, distinct lock, numbered-parts (is_on a) (is_on b) (apart_names a b differ) lock locks)

pub settled-apart : (settles name : List ℕ) (a : List LockRecord) → same_name settles name ≡ false → IsDistinct a → on name (settled a settles) ≡ on name a
unfolding settled Queues
settled-apart settles name a differ distinct =
    grants_apart name (on name a) (queue a settles) a refl
    (each_more (Queues settles a) (λ r. (is_on name r ≡ false) × (numbered r.lock (on name a) ≡ 0)) (λ r h. (apart_names settles name differ r h.0, absent_apart settles name r.lock a differ distinct h.1)) (queue a settles) (each-queues settles a))

grants_distinct : (q a : List LockRecord) → IsDistinct a → IsDistinct (grant_from q a)
grants_distinct [] a distinct = distinct
grants_distinct (r ∷ q) a distinct = elim (admits a r.lock r.name (goal_of r.state)) as (λ t. IsDistinct (cond t (grant_from q (put a (granted r))) a)) [
  | true ↦ grants_distinct q (put a (granted r)) (IsDistinct-put a (granted r) distinct)
  | false ↦ distinct
]

pub IsDistinct-settled : (name : List ℕ) (a : List LockRecord) → IsDistinct a → IsDistinct (settled a name)
unfolding settled
IsDistinct-settled name a distinct = grants_distinct (queue a name) a distinct

pub IsDistinct-settled_all : (names : List (List ℕ)) (a : List LockRecord) → IsDistinct a → IsDistinct (settled_all a names)
IsDistinct-settled_all [] a distinct = distinct
IsDistinct-settled_all (name ∷ names) a distinct = IsDistinct-settled_all names (settled a name) (IsDistinct-settled name a distinct)

or_yes : (b : Bool) → (b || true) ≡ true
or_yes true = refl
or_yes false = refl

-- a name of which a lock is put has one
pub put_there : (name : List ℕ) (r : LockRecord) (a : List LockRecord) → is_on name r ≡ true → list_any (is_on name) (put a r) ≡ true
put_there name r a own =
    list_any-append (is_on name) (without a r.lock) (r ∷ []) ∙ ap (λ b. list_any (is_on name) (without a r.lock) || (b || false)) own ∙ or_yes (list_any (is_on name) (without a r.lock))

grants_there : (name : List ℕ) (q a : List LockRecord) → Each (λ r. is_on name r ≡ true) q → list_any (is_on name) a ≡ true → list_any (is_on name) (grant_from q a) ≡ true
grants_there name [] a each has = has
grants_there name (r ∷ q) a each has =
    elim (admits a r.lock r.name (goal_of r.state)) as (λ t. list_any (is_on name) (cond t (grant_from q (put a (granted r))) a) ≡ true) [
      | true ↦ grants_there name q (put a (granted r)) each.1 (put_there name (granted r) a each.0)
      | false ↦ has
    ]

-- a name that is settled keeps its locks
pub settled_there : (name : List ℕ) (a : List LockRecord) → list_any (is_on name) a ≡ true → list_any (is_on name) (settled a name) ≡ true
unfolding settled Queues
settled_there name a has = grants_there name (queue a name) a (each_more (Queues name a) (λ r. is_on name r ≡ true) (λ r h. h.0) (queue a name) (each-queues name a)) has
