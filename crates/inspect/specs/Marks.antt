-- A table of edges between clients, a flag for each pair of them.
use Rattle.std.specs.Prelude.{◌≡◌, ◌<◌, ◌≤◌, ◌+◌, ◌*◌, ℕ, Bool, true, false, List, slice_index_or, slice_get, Some, length, ◌||◌}
use Rattle.lock_command.specs.declared.record.LockRecord.{LockRecord}
use Rattle.lock_command.specs.State.{is_converting, is_waiting}
use Rattle.inspect.specs.Blocked.{is_blocked_by}

-- the flag of a pair
abbrev pub mark : List Bool → ℕ → ℕ → Bool
mark edges a b = slice_index_or edges (256 * a + b) false

-- the pair is marked
pub record Marked (edges : List Bool) (a b : ℕ) : Type 0 where
  pub a_fits : a < 256
  pub b_fits : b < 256
  pub set : mark edges a b ≡ true

-- where the lock at place j blocks that at place i, their clients are marked
abbrev pub MarksPair : List LockRecord → ℕ → ℕ → List Bool → Type 0
MarksPair locks i j edges =
    (x y : LockRecord) → slice_get locks i ≡ Some x → slice_get locks j ≡ Some y → is_blocked_by i x j y ≡ true → Marked edges x.client y.client

-- the locks from one place up to another have one name
abbrev pub IsRun : List LockRecord → ℕ → ℕ → Type 0
IsRun locks start end =
    (j : ℕ) (x y : LockRecord) → start ≤ j → j < end → slice_get locks start ≡ Some x → slice_get locks j ≡ Some y → x.name ≡ y.name

-- marked where the locks between these places block that at place i
abbrev pub MarksRun : List LockRecord → ℕ → ℕ → ℕ → List Bool → Type 0
MarksRun locks i start end edges = (j : ℕ) → start ≤ j → j < end → MarksPair locks i j edges

-- or all locks before place n
abbrev pub MarksPlace : List LockRecord → ℕ → ℕ → List Bool → Type 0
MarksPlace locks i n edges = (j : ℕ) → j < n → MarksPair locks i j edges

-- those between these places have the name of that at place i
abbrev pub HasNameOf : List LockRecord → ℕ → ℕ → ℕ → Type 0
HasNameOf locks i from to =
    (j : ℕ) (x y : LockRecord) → from ≤ j → j < to → slice_get locks i ≡ Some x → slice_get locks j ≡ Some y → x.name ≡ y.name

-- those between these places wait
abbrev pub IsQueue : List LockRecord → ℕ → ℕ → Type 0
IsQueue locks queue end = (j : ℕ) (y : LockRecord) → queue ≤ j → j < end → slice_get locks j ≡ Some y → is_waiting y.state ≡ true

-- for each client those that stand in the queue before the place beside it are marked
pub record IsSeen (locks : List LockRecord) (queue end : ℕ) (edges : List Bool) (seen : List ℕ) : Type 0 where
  pub within : (a : ℕ) → slice_index_or seen a 0 ≤ end
  pub marked : (a j : ℕ) (y : LockRecord) → queue ≤ j → j < slice_index_or seen a 0 → slice_get locks j ≡ Some y → Marked edges a y.client

-- the place stands in the list
pub record IsListed (wanting : List ℕ) (i : ℕ) : Type 0 where
  pub k : ℕ
  pub within : k < length wanting
  pub is : slice_index_or wanting k 0 ≡ i

-- these are places of locks
abbrev pub ArePlaces : List LockRecord → List ℕ → Type 0
ArePlaces locks wanting = (k : ℕ) → k < length wanting → slice_index_or wanting k 0 < length locks

-- the locks between these places that want something are listed
abbrev pub ListsWanting : List LockRecord → ℕ → ℕ → List ℕ → Type 0
ListsWanting locks from to wanting =
    (i : ℕ) (x : LockRecord) → from ≤ i → i < to → slice_get locks i ≡ Some x → (is_converting x.state || is_waiting x.state) ≡ true → IsListed wanting i

-- the clients of locks before a place that want something have a flag
abbrev pub HasWanting : List LockRecord → ℕ → List Bool → Type 0
HasWanting locks n clients =
    (i : ℕ) (x : LockRecord) → i < n → slice_get locks i ≡ Some x → (is_converting x.state || is_waiting x.state) ≡ true → slice_index_or clients x.client false ≡ true
