use Rattle.std.proofs.Common.{◌≡◌, ◌<◌, ℕ, nat_lt, true, false, List, length, remove, IsSome, ◌∙◌}
use Rattle.std.specs.List.Sorted.{IsSorted, IsPartitionPoint}
use Rattle.lock_command.specs.declared.record.LockRecord.{LockRecord}
use Rattle.lock_index.specs.Indexed.{number_cmp}
use Rattle.lock_command.specs.Locks.{lock_in, without, IsDistinct}
use Rattle.lock_index.proofs.Shown.{lock_of, some_of}
use Rattle.lock_index.proofs.Keyed.{remove_at_cut}
use Rattle.lock_index.proofs.by_lock_number.take_away.Goals as goal

next : (n : ℕ) (xs : List LockRecord) (i : ℕ) → IsSorted number_cmp xs → IsDistinct xs
    → IsPartitionPoint (λ o. nat_lt o.lock n ≡ true) (λ o. nat_lt o.lock n ≡ false) xs i → IsSome (lock_in xs n) → (i < length xs) × (remove xs i ≡ without xs n)
next n xs i rising distinct point there =
    let found = some_of (lock_in xs n) there in
    remove_at_cut lock_of n xs i found.0 rising point found.1 (distinct n)

pub remove-requires : goal.remove-requires
remove-requires c = (next c.args.lock c.args.numbers.now c.lower_numbers_near-place.result c.requires.rising c.requires.distinct c.lower_numbers_near-place.ensures.point c.requires.there).0

pub returns : goal.returns
returns c = record {
  items = c.remove.ensures
      ∙ (next c.args.lock c.args.numbers.now c.lower_numbers_near-place.result c.requires.rising c.requires.distinct c.lower_numbers_near-place.ensures.point c.requires.there).1;
}
