-- Which locks and clients wait for which.
use Rattle.std.specs.Prelude.{◌≡◌, ◌<◌, ◌≤◌, ◌==◌, ◌&&◌, ◌||◌, nat_lt, not, ℕ, Bool, true, false, List, [], ◌∷◌, slice_get, slice_index_or, Some, All, nat_eq}
use Rattle.std.specs.List.{IsDistinct}
use Rattle.lock_command.specs.Name.{same_name}
use Rattle.lock_command.specs.declared.record.LockRecord.{LockRecord}
use Rattle.lock_command.specs.declared.state.LockState.{LockState}
use Rattle.lock_command.specs.declared.state.LockState.TheVariants.{Granted, Converting, Waiting}
use Rattle.lock_command.specs.State.{is_converting, is_waiting, holds_against}

-- LOCKS

-- the other holds a mode that conflicts with what this one wants
abbrev pub is_held_against : LockState → LockState → Bool
is_held_against (Granted mode) other = false
is_held_against (Converting held wanted) other = holds_against wanted other
is_held_against (Waiting wanted) other = holds_against wanted other

-- both stand in the name's conversion queue, or both in its waiting queue
abbrev pub in_one_queue : LockState → LockState → Bool
in_one_queue x y = (is_converting x && is_converting y) || (is_waiting x && is_waiting y)

-- what y, at place j, keeps x, at place i, from: y is another lock that holds against it, or stands before it in its queue, or
-- converts while it waits
abbrev pub is_in_the_way : ℕ → LockRecord → ℕ → LockRecord → Bool
is_in_the_way i x j y =
    (not (x.lock == y.lock) && is_held_against x.state y.state) || (nat_lt j i && in_one_queue x.state y.state) || (is_waiting x.state && is_converting y.state)

-- lock x, at place i of the list, is blocked by lock y of the same name, at place j
abbrev pub is_blocked_by : ℕ → LockRecord → ℕ → LockRecord → Bool
is_blocked_by i x j y = is_in_the_way i x j y && same_name x.name y.name

-- CLIENTS

-- client a is blocked by client b: a lock of a is by a lock of b
pub record IsBlockedBy (locks : List LockRecord) (a b : ℕ) : Type 0 where
  pub i : ℕ
  pub x : LockRecord
  pub j : ℕ
  pub y : LockRecord
  pub is_x : slice_get locks i ≡ Some x
  pub is_y : slice_get locks j ≡ Some y
  pub blocked : is_blocked_by i x j y ≡ true
  pub by_client : x.client ≡ a
  pub of_client : y.client ≡ b

-- CYCLES AND RANKS

-- from a through these to z, each is followed by one that it leads to
abbrev pub Chain : (ℕ → ℕ → Type 0) → ℕ → List ℕ → ℕ → Type 0
Chain Leads a [] z = Leads a z
Chain Leads a (b ∷ bs) z = Leads a b × Chain Leads b bs z

-- Each leads to the next, and the last to the first; they are distinct, and the least stands first.
abbrev pub IsCycle : (ℕ → ℕ → Type 0) → List ℕ → Type 0
IsCycle Leads [] = ⊥
IsCycle Leads (c ∷ cs) = Chain Leads c cs c × IsDistinct nat_eq (c ∷ cs) × All (λ d. c ≤ d) cs

-- ranks fall along every edge, so there is no cycle
abbrev pub AreRanks : (ℕ → ℕ → Type 0) → List ℕ → Type 0
AreRanks Leads ranks = (a b : ℕ) → Leads a b → slice_index_or ranks b 0 < slice_index_or ranks a 0
