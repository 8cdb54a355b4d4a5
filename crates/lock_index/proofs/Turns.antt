-- Whose turn it is, and what a grant leaves of a queue.
use Rattle.std.proofs.Common.{◌≡◌, ◌<◌, ◌+◌, ℕ, suc, Bool, true, false, cond, not, ◌&&◌, List, [], ◌∷◌, ◌++◌, length, Some, None, refl, sym, ap, ◌∙◌, arith}
use Rattle.std.specs.List.{filter, find}
use Rattle.std.proofs.lemmas.Bool.{eq-eqb}
use Rattle.std.proofs.lemmas.List.{append-nil}
use Rattle.std.proofs.lemmas.List.Elements.{filter-append}
use Rattle.lock_command.specs.declared.record.LockRecord.{LockRecord}
use Rattle.lock_command.specs.declared.state.LockState.{LockState}
use Rattle.lock_command.specs.declared.state.LockState.TheVariants.{Granted, Converting, Waiting}
use Rattle.lock_command.specs.State.{is_converting, is_waiting, goal_of}
use Rattle.lock_command.specs.Locks.{is_on, is_lock, without, put, converts_on, waits_on, conversions, waiting, queue, head_of, option_or, admits, granted, grant_from, settled, IsDistinct}
use Rattle.lock_index.proofs.Parts.{filter-filter}
use Rattle.lock_index.proofs.Numbered.{numbered, numbered-cons, numbered-append, numbered-parts, without_absent}

pub found_first : {X : Type 0} (P : X → Bool) (xs : List X) (r : X) → find P xs ≡ Some r → (rest : List X) × (filter P xs ≡ r ∷ rest)
found_first P [] r h = let no : ⊥ = cc in absurd no
found_first {X} P (x ∷ xs) r h =
    elim (P x) as (λ b. cond b (Some x) (find P xs) ≡ Some r → (rest : List X) × (cond b (x ∷ filter P xs) (filter P xs) ≡ r ∷ rest)) [
      | true ↦ λ e. let same : x ≡ r = cc in (filter P xs, ap (λ y. y ∷ filter P xs) same)
      | false ↦ λ e. found_first P xs r e
    ] h

pub found_none : {X : Type 0} (P : X → Bool) (xs : List X) → find P xs ≡ None → filter P xs ≡ []
found_none P [] h = refl
found_none P (x ∷ xs) h =
    elim (P x) as (λ b. cond b (Some x) (find P xs) ≡ None → cond b (x ∷ filter P xs) (filter P xs) ≡ []) [
      | true ↦ λ e. let no : ⊥ = cc in absurd no
      | false ↦ λ e. found_none P xs e
    ] h

-- who queues after a change of a lock that then queues no more
pub filter-put : (P : LockRecord → Bool) (locks : List LockRecord) (r : LockRecord) → P r ≡ false → filter P (put locks r) ≡ without (filter P locks) r.lock
filter-put P locks r idle =
    filter-append P (without locks r.lock) (r ∷ [])
    ∙ ap (λ b. filter P (without locks r.lock) ++ cond b (r ∷ []) []) idle
    ∙ append-nil (filter P (without locks r.lock))
    ∙ filter-filter P (λ o. not (is_lock r.lock o)) locks

and_no : (b : Bool) → (b && false) ≡ false
and_no true = refl
and_no false = refl

apart : (b : Bool) (s : LockState) → (b && is_converting s) ≡ true → (b && is_waiting s) ≡ false
apart b (Granted mode) h = and_no b
apart b (Converting held wanted) h = and_no b
apart b (Waiting wanted) h = let clash : false ≡ true = sym (and_no b) ∙ h in let no : ⊥ = cc in absurd no

is_own : (r : LockRecord) → is_lock r.lock r ≡ true
is_own r = eq-eqb r.lock r.lock refl

-- a grant takes the first of the queue out of it, and leaves the others as they stood
pub queue-granted : (locks : List LockRecord) (name : List ℕ) (r : LockRecord) (rest : List LockRecord)
    → IsDistinct locks → queue locks name ≡ r ∷ rest → queue (put locks (granted r)) name ≡ rest
queue-granted locks name r rest distinct stands =
    let lock = r.lock in
    let few = numbered-parts (converts_on name) (waits_on name) (λ o. apart (is_on name o) o.state) lock locks in
    let all : numbered lock (r ∷ rest) ≡ numbered lock (conversions locks name) + numbered lock (waiting locks name) =
    ap (numbered lock) (sym stands) ∙ numbered-append lock (conversions locks name) (waiting locks name) in
    let first : numbered lock (r ∷ rest) ≡ cond true 1 0 + numbered lock rest = numbered-cons lock r rest ∙ ap (λ s. cond s 1 0 + numbered lock rest) (is_own r) in
    let none : numbered lock rest ≡ 0 = omega (arith, few, all, first, distinct lock) in
    (λ i. filter-put (converts_on name) locks (granted r) (and_no (is_on name r)) i ++ filter-put (waits_on name) locks (granted r) (and_no (is_on name r)) i)
    ∙ sym (filter-append (λ o. not (is_lock lock o)) (conversions locks name) (waiting locks name))
    ∙ ap (λ q. without q lock) stands
    ∙ ap (λ s. cond (not s) (r ∷ without rest lock) (without rest lock)) (is_own r)
    ∙ without_absent lock rest none

-- the lock whose turn it is stands first in the queue
pub head_stands_first : (locks : List LockRecord) (name : List ℕ) (r : LockRecord) → head_of locks name ≡ Some r → (rest : List LockRecord) × (queue locks name ≡ r ∷ rest)
head_stands_first locks name r h =
    elim (find (converts_on name) locks) as (λ found. find (converts_on name) locks ≡ found → option_or found (find (waits_on name) locks) ≡ Some r → (rest : List LockRecord) × (queue locks name ≡ r ∷ rest)) [
      | None ↦ λ none e.
          let tail = found_first (waits_on name) locks r e in
          (tail.0, ap (λ c. c ++ waiting locks name) (found_none (converts_on name) locks none) ∙ tail.1)
      | Some x ↦ λ some e.
          let same : x ≡ r = cc in
          let tail = found_first (converts_on name) locks r (some ∙ ap Some same) in
          (tail.0 ++ waiting locks name, ap (λ c. c ++ waiting locks name) tail.1)
    ] refl h

pub no_head : (locks : List LockRecord) (name : List ℕ) → head_of locks name ≡ None → queue locks name ≡ []
no_head locks name h =
    elim (find (converts_on name) locks) as (λ found. find (converts_on name) locks ≡ found → option_or found (find (waits_on name) locks) ≡ None → queue locks name ≡ []) [
      | None ↦ λ none e. ap (λ c. c ++ waiting locks name) (found_none (converts_on name) locks none) ∙ found_none (waits_on name) locks e
      | Some x ↦ λ some e. let no : ⊥ = cc in absurd no
    ] refl h

-- to settle is to grant the lock whose turn it is, and to settle again
pub settled-granted : (locks : List LockRecord) (name : List ℕ) (r : LockRecord) → IsDistinct locks → head_of locks name ≡ Some r
    → admits locks r.lock r.name (goal_of r.state) ≡ true → settled locks name ≡ settled (put locks (granted r)) name
unfolding settled
settled-granted locks name r distinct turn may =
    let first = head_stands_first locks name r turn in
    ap (λ q. grant_from q locks) first.1
    ∙ ap (λ b. cond b (grant_from first.0 (put locks (granted r))) locks) may
    ∙ ap (λ q. grant_from q (put locks (granted r))) (sym (queue-granted locks name r first.0 distinct first.1))

-- where that lock may not be granted, nothing changes
pub settled-blocked : (locks : List LockRecord) (name : List ℕ) (r : LockRecord) → head_of locks name ≡ Some r
    → admits locks r.lock r.name (goal_of r.state) ≡ false → settled locks name ≡ locks
unfolding settled
settled-blocked locks name r turn may =
    let first = head_stands_first locks name r turn in
    ap (λ q. grant_from q locks) first.1
    ∙ ap (λ b. cond b (grant_from first.0 (put locks (granted r))) locks) may

-- and where nobody queues
pub settled-idle : (locks : List LockRecord) (name : List ℕ) → head_of locks name ≡ None → settled locks name ≡ locks
unfolding settled
settled-idle locks name turn = ap (λ q. grant_from q locks) (no_head locks name turn)

-- each grant leaves one lock fewer in the queue
pub length-queue-granted : (locks : List LockRecord) (name : List ℕ) (r : LockRecord) → IsDistinct locks → head_of locks name ≡ Some r
    → length (queue (put locks (granted r)) name) < length (queue locks name)
length-queue-granted locks name r distinct turn =
    let first = head_stands_first locks name r turn in
    let before : length (queue locks name) ≡ suc (length first.0) = ap length first.1 in
    let after : length (queue (put locks (granted r)) name) ≡ length first.0 = ap length (queue-granted locks name r first.0 distinct first.1) in
    omega arith
