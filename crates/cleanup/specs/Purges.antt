-- The purge of a host whose processes are gone.
use Rattle.std.specs.Prelude.{◌≡◌, ◌≤◌, ◌+◌, ◌^◌, ◌⊎◌, ℕ, [], Some, slice_get}
use Rattle.lock_command.specs.declared.command.Command.{Command}
use Rattle.lock_command.specs.declared.command.Action.TheVariants.{Purge}
use Rattle.lock_table.specs.declared.known_client.KnownClient.{KnownClient}
use Rattle.lock_command.specs.declared.record.LockRecord.{LockRecord}
use Rattle.lock_table.specs.Picture.{Shown}
use Rattle.session.specs.Evidence.{Knows}
use Rattle.session.specs.Numbers.{client_of}
use Rattle.cleanup.specs.Left.{AllPassed, IsFirstFrom}
use Rattle.cleanup.specs.declared.purging.Purging.{Purging}
use Rattle.cleanup.specs.declared.whose.Kind.TheVariants.{All}

-- no lock of the table was taken through the host
abbrev pub HasNoLocks : Shown → ℕ → Type 0
HasNoLocks table host = (at : ℕ) (r : LockRecord) → slice_get table.locks at ≡ Some r → r.host ≡ host → ⊥

-- The table has this lock, which was taken through the host.
pub record HasLock (table : Shown) (host : ℕ) : Type 0 where
  pub at : ℕ
  pub lock : LockRecord
  pub there : slice_get table.locks at ≡ Some lock
  pub through : lock.host ≡ host

-- The purge is due. Each lock of the purged host's sessions has a number that is passed: somebody looked whether it is nobody's, unless it came into the table
-- later. And the table has a lock that was taken through the host.
pub record IsPurgeDue (p : Purging) (table : Shown) : Type 0 where
  pub passed : AllPassed table p.victim All [] p.from
  pub needed : HasLock table p.victim

-- The last request of the session's client that is known: that of the session, or that which the table knows, whichever is higher.
pub record IsLastRequest (p : Purging) (table : Shown) (last : ℕ) : Type 0 where
  pub own : p.request ≤ last
  pub known : (known : KnownClient) → Knows table (client_of p.host) known → known.request ≤ last
  pub used : (last ≡ p.request) ⊎ ((known : KnownClient) × Knows table (client_of p.host) known × (last ≡ known.request))

-- The host is purged by the session, through its own host and as its client, by the request after the last one.
pub record PurgesHost (p : Purging) (table : Shown) (command : Command) : Type 0 where
  pub due : IsPurgeDue p table
  pub through : command.host ≡ p.host
  pub client : command.client ≡ client_of p.host
  pub action : command.action ≡ Purge p.victim
  pub last : ℕ
  pub is_last : IsLastRequest p table last
  pub next : command.request ≡ last + 1

-- The lock is the first that a session of the purged host has and that is not passed.
abbrev pub IsTried : Purging → Shown → ℕ → Type 0
IsTried p table lock = (r : LockRecord) × IsFirstFrom table p.victim All [] p.from r × (r.lock ≡ lock)

-- The purge is due, and the last request number that there is was used.
pub record HasNoRequest (p : Purging) (table : Shown) : Type 0 where
  pub due : IsPurgeDue p table
  pub last : ℕ
  pub is_last : IsLastRequest p table last
  pub spent : 2 ^ 62 ≤ last
