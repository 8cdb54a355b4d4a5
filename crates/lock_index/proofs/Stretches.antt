-- What one lock tells of where the locks of lower keys end.
use Rattle.std.proofs.Common.{◌≡◌, ◌≤◌, ◌<◌, ◌+◌, ℕ, Bool, true, false, cond, nat_lt, List, length, get_or, refl, arith}
use Rattle.std.specs.List.{AllWithin}
use Rattle.std.specs.List.Sorted.{IsSorted}
use Rattle.std.proofs.lemmas.List.{get_or_default}
use Rattle.lock_command.specs.declared.record.LockRecord.{LockRecord}
use Rattle.lock_index.specs.Printed.{printed_cmp}
use Rattle.lock_index.specs.Keys.{lock_key, HasKey}
use Rattle.lock_index.specs.Shelved.{no_lock}
use Rattle.lock_index.proofs.Below.{below_partitioned}
use Rattle.lock_index.proofs.Quarters.{passes_before, fails_behind}

pub passes_if : (t : Bool) (n : ℕ) → n ≡ cond t 1 0 → 1 ≤ n → t ≡ true
passes_if true n is some = refl
passes_if false n is some = absurd (omega (arith, is, some))

pub fails_if : (t : Bool) (n : ℕ) → n ≡ cond t 1 0 → n ≡ 0 → t ≡ false
fails_if true n is none = absurd (omega (arith, is, none))
fails_if false n is none = refl

module _ (xs : List LockRecord) (fit : AllWithin HasKey xs 0 (length xs)) (key : ℕ) (sorted : IsSorted printed_cmp xs) (at : ℕ) (inside : at < length xs)
    (n : ℕ) (tells : n ≡ cond (nat_lt (lock_key (get_or xs at no_lock)) key) 1 0) (next : ℕ) where
  -- where one has a lower key, so have all in front of it
  pub lower_before : 1 ≤ n → next ≤ at + 1 → AllWithin (λ r. nat_lt (lock_key r) key ≡ true) xs 0 next
  lower_before some on =
      passes_before (λ r. nat_lt (lock_key r) key) xs (below_partitioned xs fit key sorted) at (get_or xs at no_lock) (get_or_default xs at no_lock (get_or xs at no_lock) inside) inside
      (passes_if (nat_lt (lock_key (get_or xs at no_lock)) key) n tells some) next on

  -- where one has none, none behind it has
  pub none_lower_behind : n ≡ 0 → at ≤ next → AllWithin (λ r. nat_lt (lock_key r) key ≡ false) xs next (length xs)
  none_lower_behind none on =
      fails_behind (λ r. nat_lt (lock_key r) key) xs (below_partitioned xs fit key sorted) at (get_or xs at no_lock) (get_or_default xs at no_lock (get_or xs at no_lock) inside)
      (fails_if (nat_lt (lock_key (get_or xs at no_lock)) key) n tells none) next on
