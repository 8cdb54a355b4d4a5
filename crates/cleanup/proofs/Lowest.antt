-- The lowest of the locks that were looked at.
use Rattle.std.proofs.Common.{◌≡◌, ◌<◌, ◌≤◌, ℕ, List, Option, Some, None}
use Rattle.std.specs.Prelude.{slice_get}
use Rattle.lock_command.specs.declared.record.LockRecord.{LockRecord}
use Rattle.cleanup.specs.Left.{IsDue}
use Rattle.cleanup.specs.declared.whose.Kind.{Kind}

-- No lock below this place is due.
abbrev pub NoneDue : List LockRecord → ℕ → ℕ → Kind → List ℕ → ℕ → Type 0
NoneDue locks host to kind ours from = (at : ℕ) (r : LockRecord) → at < to → slice_get locks at ≡ Some r → IsDue host kind ours from r → ⊥

-- The lock stands in the list and is due, and none below this place that is due has a lower number.
pub record IsLowest (locks : List LockRecord) (host to : ℕ) (kind : Kind) (ours : List ℕ) (from : ℕ) (best : LockRecord) : Type 0 where
  pub at : ℕ
  pub there : slice_get locks at ≡ Some best
  pub due : IsDue host kind ours from best
  pub lowest : (at : ℕ) (r : LockRecord) → at < to → slice_get locks at ≡ Some r → IsDue host kind ours from r → best.lock ≤ r.lock

abbrev pub IsBest : List LockRecord → ℕ → ℕ → Kind → List ℕ → ℕ → Option LockRecord → Type 0
IsBest locks host to kind ours from None = NoneDue locks host to kind ours from
IsBest locks host to kind ours from (Some best) = IsLowest locks host to kind ours from best
