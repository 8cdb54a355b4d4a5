-- What locks are printed by, as one number, which rises as they are printed.
use Rattle.std.specs.Prelude.{◌≡◌, ◌≤◌, ◌<◌, ℕ, zero, suc, ◌+◌, ◌*◌, List, slice_index}
use Rattle.lock_command.specs.declared.name.TheConstants.LockName.{LONGEST}
use Rattle.lock_command.specs.Name.{IsName}
use Rattle.lock_command.specs.declared.record.LockRecord.{LockRecord}
use Rattle.lock_index.specs.Printed.{rank_of, number_among}
use Rattle.lock_index.specs.Shelved.{at_place, times}

-- the number of which the first so many bytes are the digits, with zeros behind the last byte
unfoldable pub spelled : ℕ → List ℕ → ℕ
spelled zero bytes = 0
spelled (suc n) bytes = spelled n bytes * 128 + slice_index bytes n

-- the number of a name, a rank and a lock number
abbrev pub key_of : List ℕ → ℕ → ℕ → ℕ
key_of name rank number = (spelled LONGEST name * 4 + rank) * 65536 + number

-- the number of what a lock is printed by
abbrev pub lock_key : LockRecord → ℕ
lock_key r = key_of r.name (rank_of r.state) (number_among r.state r.lock)

-- a name that is one, and a lock number of 16 bits, so that the key tells both
pub record HasKey (r : LockRecord) : Type 0 where
  pub named : IsName r.name
  pub number : r.lock < 65536

-- beside each lock of the order stands its key
pub record IsKeyed (records : List LockRecord) (order keys : List ℕ) : Type 0 where
  pub found : (place : ℕ) → 1 ≤ times place order → slice_index keys place ≡ lock_key (at_place records place)
  pub fits : (place : ℕ) → 1 ≤ times place order → HasKey (at_place records place)
