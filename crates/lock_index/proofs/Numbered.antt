-- How often a lock number stands in a list of records.
use Rattle.std.proofs.Common.{◌≡◌, ◌≤◌, ◌+◌, ℕ, Bool, true, false, cond, not, List, [], ◌∷◌, ◌++◌, length, refl, ap, ◌∙◌, arith, length-append}
use Rattle.std.specs.List.{filter}
use Rattle.std.proofs.lemmas.Bool.{eqb-true}
use Rattle.std.proofs.lemmas.List.Elements.{filter-append}
use Rattle.lock_command.specs.declared.record.LockRecord.{LockRecord}
use Rattle.lock_command.specs.Locks.{is_lock, without, put, IsDistinct}

abbrev pub numbered : ℕ → List LockRecord → ℕ
numbered lock locks = length (filter (is_lock lock) locks)

pub numbered-cons : (lock : ℕ) (r : LockRecord) (rest : List LockRecord) → numbered lock (r ∷ rest) ≡ cond (is_lock lock r) 1 0 + numbered lock rest
numbered-cons lock r rest =
    elim (is_lock lock r) as (λ s. length (cond s (r ∷ filter (is_lock lock) rest) (filter (is_lock lock) rest)) ≡ cond s 1 0 + numbered lock rest) [
      | true ↦ omega arith
      | false ↦ omega arith
    ]

numbered-kept : (lock : ℕ) (p : Bool) (r : LockRecord) (rest : List LockRecord) → numbered lock (cond p (r ∷ rest) rest) ≡ cond p (cond (is_lock lock r) 1 0) 0 + numbered lock rest
numbered-kept lock true r rest = numbered-cons lock r rest
numbered-kept lock false r rest = omega arith

pub numbered-append : (lock : ℕ) (xs ys : List LockRecord) → numbered lock (xs ++ ys) ≡ numbered lock xs + numbered lock ys
numbered-append lock xs ys = ap length (filter-append (is_lock lock) xs ys) ∙ length-append (filter (is_lock lock) xs) (filter (is_lock lock) ys)

within_one : (p q : Bool) (n : ℕ) → (p ≡ true → q ≡ false) → cond p n 0 + cond q n 0 ≤ n
within_one true true n apart = let clash : true ≡ false = apart refl in absurd (let no : ⊥ = cc in no)
within_one true false n apart = omega arith
within_one false true n apart = omega arith
within_one false false n apart = omega arith

-- two parts that share no record have a number no oftener than the whole
pub numbered-parts : (P Q : LockRecord → Bool) → ((r : LockRecord) → P r ≡ true → Q r ≡ false) → (lock : ℕ) (locks : List LockRecord) → numbered lock (filter P locks) + numbered lock (filter Q locks) ≤ numbered lock locks
numbered-parts P Q apart lock [] = omega arith
numbered-parts P Q apart lock (r ∷ rest) =
    omega (arith, numbered-parts P Q apart lock rest, numbered-kept lock (P r) r (filter P rest), numbered-kept lock (Q r) r (filter Q rest), numbered-cons lock r rest, within_one (P r) (Q r) (cond (is_lock lock r) 1 0) (apart r))

pub numbered-filter : (P : LockRecord → Bool) (lock : ℕ) (locks : List LockRecord) → numbered lock (filter P locks) ≤ numbered lock locks
numbered-filter P lock locks = omega (arith, numbered-parts P (λ r. not (P r)) (λ r h. ap not h) lock locks)

pub numbered-without_same : (lock : ℕ) (locks : List LockRecord) → numbered lock (without locks lock) ≡ 0
numbered-without_same lock [] = refl
numbered-without_same lock (r ∷ rest) =
    elim (is_lock lock r) as (λ s. is_lock lock r ≡ s → numbered lock (cond (not s) (r ∷ without rest lock) (without rest lock)) ≡ 0) [
      | true ↦ λ e. numbered-without_same lock rest
      | false ↦ λ e. numbered-cons lock r (without rest lock) ∙ ap (λ s. cond s 1 0 + numbered lock (without rest lock)) e ∙ omega (arith, numbered-without_same lock rest)
    ] refl

pub without_absent : (lock : ℕ) (locks : List LockRecord) → numbered lock locks ≡ 0 → without locks lock ≡ locks
without_absent lock [] none = refl
without_absent lock (r ∷ rest) none =
    elim (is_lock lock r) as (λ s. is_lock lock r ≡ s → cond (not s) (r ∷ without rest lock) (without rest lock) ≡ r ∷ rest) [
      | true ↦ λ e. let there : numbered lock (r ∷ rest) ≡ cond true 1 0 + numbered lock rest = numbered-cons lock r rest ∙ ap (λ s. cond s 1 0 + numbered lock rest) e in absurd (omega arith)
      | false ↦ λ e. let there : numbered lock (r ∷ rest) ≡ cond false 1 0 + numbered lock rest = numbered-cons lock r rest ∙ ap (λ s. cond s 1 0 + numbered lock rest) e in ap (λ xs. r ∷ xs) (without_absent lock rest (omega arith))
    ] refl

pub IsDistinct-filter : (P : LockRecord → Bool) (locks : List LockRecord) → IsDistinct locks → IsDistinct (filter P locks)
IsDistinct-filter P locks distinct lock = omega (arith, distinct lock, numbered-filter P lock locks)

pub IsDistinct-put : (locks : List LockRecord) (r : LockRecord) → IsDistinct locks → IsDistinct (put locks r)
IsDistinct-put locks r distinct lock =
    elim (is_lock lock r) as (λ s. is_lock lock r ≡ s → numbered lock (put locks r) ≤ 1) [
      | true ↦ λ e.
          let same : r.lock ≡ lock = eqb-true r.lock lock e in
          let one : numbered lock (r ∷ []) ≡ cond true 1 0 + 0 = numbered-cons lock r [] ∙ ap (λ s. cond s 1 0 + 0) e in
          let none : numbered lock (without locks r.lock) ≡ 0 = ap (λ l. numbered lock (without locks l)) same ∙ numbered-without_same lock locks in
          omega (arith, numbered-append lock (without locks r.lock) (r ∷ []))
      | false ↦ λ e.
          let none : numbered lock (r ∷ []) ≡ cond false 1 0 + 0 = numbered-cons lock r [] ∙ ap (λ s. cond s 1 0 + 0) e in
          omega (arith, numbered-append lock (without locks r.lock) (r ∷ []), IsDistinct-filter (λ o. not (is_lock r.lock o)) locks distinct lock)
    ] refl
