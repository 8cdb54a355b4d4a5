use Rattle.std.proofs.Common.{◌≡◌, ◌<◌, ℕ, nat_lt, true, false, List, length, get_or, set, IsSome, refl, sym, ap, subst, ◌∙◌, arith}
use Rattle.std.specs.List.{filter}
use Rattle.std.specs.List.Sorted.{IsSorted, IsPartitionPoint}
use Rattle.std.proofs.lemmas.Bool.{eq-eqb}
use Rattle.lock_command.specs.declared.record.LockRecord.{LockRecord}
use Rattle.lock_index.specs.Indexed.{number_cmp}
use Rattle.lock_command.specs.Locks.{is_lock, lock_in, put, IsDistinct}
use Rattle.lock_index.proofs.Shown.{lock_of, some_of}
use Rattle.lock_index.proofs.Keyed.{set_at_cut}
use Rattle.lock_index.proofs.Standing.{cut_where_stands, found_there}
use Rattle.lock_index.proofs.by_lock_number.replace.Goals as goal

-- WHERE THE HINT IS RIGHT

abbrev IsReplaced : LockRecord → List LockRecord → List LockRecord → Type 0
IsReplaced new xs ys = IsSorted number_cmp ys × ((lock : ℕ) → filter (is_lock lock) ys ≡ filter (is_lock lock) (put xs new))

standing : (new : LockRecord) (xs ys : List LockRecord) → IsSorted number_cmp xs → IsDistinct xs → (at : ℕ) × (at < length xs) × ((get_or xs at new).lock ≡ new.lock) × (ys ≡ set xs at new) → IsReplaced new xs ys
standing new xs ys rising distinct there =
    let at = there.0 in
    let cut = cut_where_stands lock_of new.lock xs at new rising (distinct new.lock) there.1 there.2 in
    let found = found_there (is_lock new.lock) xs at new there.1 (eq-eqb (get_or xs at new).lock new.lock there.2) (distinct new.lock) in
    let next = set_at_cut lock_of new xs at (get_or xs at new) rising cut found (distinct new.lock) in
    (subst (λ (l : List LockRecord). IsSorted number_cmp l) (sym there.3) next.1, λ lock. ap (filter (is_lock lock)) there.3 ∙ next.2 lock)

pub returns-then-set_hinted-clause-rising : goal.returns-then-set_hinted-clause-rising
returns-then-set_hinted-clause-rising c = (standing c.args.new c.args.numbers.now c.set_hinted.new.self c.requires.rising c.requires.distinct (c.if-set_hinted.ensures.done refl)).0

pub returns-then-set_hinted-clause-alike : goal.returns-then-set_hinted-clause-alike
returns-then-set_hinted-clause-alike c = (standing c.args.new c.args.numbers.now c.set_hinted.new.self c.requires.rising c.requires.distinct (c.if-set_hinted.ensures.done refl)).1

-- WHERE IT IS NOT

next : (new : LockRecord) (xs same ys : List LockRecord) (i : ℕ) → IsSorted number_cmp xs → IsDistinct xs → IsSome (lock_in xs new.lock) → same ≡ xs
    → IsPartitionPoint (λ o. nat_lt o.lock new.lock ≡ true) (λ o. nat_lt o.lock new.lock ≡ false) same i → ys ≡ set same i new → IsReplaced new xs ys
next new xs same ys i rising distinct there is point set_is =
    let found = some_of (lock_in xs new.lock) there in
    let cut = subst (λ (l : List LockRecord). IsPartitionPoint (λ o. nat_lt o.lock new.lock ≡ true) (λ o. nat_lt o.lock new.lock ≡ false) l i) is point in
    let after = set_at_cut lock_of new xs i found.0 rising cut found.1 (distinct new.lock) in
    let now : ys ≡ set xs i new = set_is ∙ ap (λ l. set l i new) is in
    (subst (λ (l : List LockRecord). IsSorted number_cmp l) (sym now) after.1, λ lock. ap (filter (is_lock lock)) now ∙ after.2 lock)

pub set-requires : goal.set-requires
set-requires c =
    let is = c.if-set_hinted.ensures.left refl in
    let new = c.args.new in
    let i = c.lower_numbers_near-place.result in
    let found = some_of (lock_in c.args.numbers.now new.lock) c.requires.there in
    let cut = subst (λ (l : List LockRecord). IsPartitionPoint (λ o. nat_lt o.lock new.lock ≡ true) (λ o. nat_lt o.lock new.lock ≡ false) l i) is c.lower_numbers_near-place.ensures.point in
    omega (arith, (set_at_cut lock_of new c.args.numbers.now i found.0 c.requires.rising cut found.1 (c.requires.distinct new.lock)).0, ap length is)

pub returns-clause-rising : goal.returns-clause-rising
returns-clause-rising c =
    (next c.args.new c.args.numbers.now c.set_hinted.new.self c.set.new.self c.lower_numbers_near-place.result c.requires.rising c.requires.distinct c.requires.there (c.if-set_hinted.ensures.left refl) c.lower_numbers_near-place.ensures.point c.set.ensures).0

pub returns-clause-alike : goal.returns-clause-alike
returns-clause-alike c =
    (next c.args.new c.args.numbers.now c.set_hinted.new.self c.set.new.self c.lower_numbers_near-place.result c.requires.rising c.requires.distinct c.requires.there (c.if-set_hinted.ensures.left refl) c.lower_numbers_near-place.ensures.point c.set.ensures).1
