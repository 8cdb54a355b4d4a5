-- What an index keeps: the locks in printed order, and the same records by number.
use Rattle.std.specs.Prelude.{◌≡◌, ◌≤◌, ℕ, Bool, true, false, List, filter, length}
use Rattle.std.specs.List.Sorted.{IsSorted, IsPartitionPoint}
use Rattle.std.specs.Ordering.{nat_cmp, ordering_then, is_lt}
use Rattle.std.specs.Cmp.Lexicographic.{slice_cmp}
use Rattle.std.specs.declared.cmp.Ordering.{Ordering}
use Rattle.lock_command.specs.declared.record.LockRecord.{LockRecord}
use Rattle.lock_command.specs.Locks.{is_lock, IsDistinct}
use Rattle.lock_index.specs.Printed.{rank_of, printed_cmp}

-- by rising lock number
abbrev pub number_cmp : LockRecord → LockRecord → Ordering
number_cmp a b = nat_cmp a.lock b.lock

-- the lock is printed before all locks of the name that have this rank
abbrev pub stands_before_rank : List ℕ → ℕ → LockRecord → Bool
stands_before_rank name rank r = is_lt (ordering_then (slice_cmp nat_cmp r.name name) (nat_cmp (rank_of r.state) rank))

-- the granted locks of a name, and all that are printed before them, end at this place
pub record IsGrantedEnd (name : List ℕ) (locks : List LockRecord) (place : ℕ) : Type 0 where
  pub bound : place ≤ length locks
  pub point : IsPartitionPoint (λ r. stands_before_rank name 1 r ≡ true) (λ r. stands_before_rank name 1 r ≡ false) locks place

-- the granted locks of a name stand from one place to before another
pub record IsGrantedGroup (name : List ℕ) (locks : List LockRecord) (begin end : ℕ) : Type 0 where
  pub bound : begin ≤ length locks
  pub point : IsPartitionPoint (λ r. stands_before_rank name 0 r ≡ true) (λ r. stands_before_rank name 0 r ≡ false) locks begin
  pub ends : IsGrantedEnd name locks end

-- the locks stand in printed order, each once, and beside them stand the same records by rising number
pub record IsIndexed (printed numbers : List LockRecord) : Type 0 where
  pub sorted : IsSorted printed_cmp printed
  pub distinct : IsDistinct printed
  pub rising : IsSorted number_cmp numbers
  pub same : (lock : ℕ) → filter (is_lock lock) numbers ≡ filter (is_lock lock) printed
