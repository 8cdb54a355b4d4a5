-- What a log that was learned tells of a claim.
use Rattle.std.specs.Prelude.{◌≡◌, ◌≢◌, ◌<◌, ◌≤◌, ◌⊎◌, ◌&&◌, ℕ, Bool, true, List, Some, slice_get}
use Rattle.std.specs.List.{list_any}
use Rattle.lock_command.specs.declared.mode.Mode.{Mode}
use Rattle.lock_command.specs.Mode.{conflict}
use Rattle.lock_command.specs.declared.command.Command.{Command}
use Rattle.lock_command.specs.declared.command.Action.TheVariants.{Enqueue, Purge, QuietPurge}
use Rattle.lock_command.specs.declared.state.LockState.{LockState}
use Rattle.lock_command.specs.declared.state.LockState.TheVariants.{Granted, Converting, Waiting}
use Rattle.lock_command.specs.Locks.{is_lock, is_on}
use Rattle.lock_command.specs.State.{goal_of}
use Rattle.lock_command.specs.declared.record.LockRecord.{LockRecord}
use Rattle.lock_table.specs.declared.known_client.KnownClient.{KnownClient}
use Rattle.lock_table.specs.Picture.{Shown}
use Rattle.session.specs.Numbers.{client_of}
use Rattle.session.specs.Places.{command_at}
use Rattle.session.specs.declared.claim.Claim.{Claim}
use Rattle.session.specs.declared.learned.Learned.{Learned}

-- THE LOCK IN THE TABLE

-- the record is that of the claimed lock: of this number, client, host and name, in the claimed mode or on its way there
pub record IsOf (c : Claim) (r : LockRecord) : Type 0 where
  pub number : r.lock ≡ c.lock
  pub client : r.client ≡ client_of c.host
  pub host : r.host ≡ c.host
  pub name : r.name ≡ c.name
  pub mode : goal_of r.state ≡ c.mode

-- The table shows the claimed lock in this state.
pub record Shows (table : Shown) (c : Claim) (state : LockState) : Type 0 where
  pub at : ℕ
  pub found : LockRecord
  pub there : slice_get table.locks at ≡ Some found
  pub is : IsOf c found
  pub stands : found.state ≡ state

-- It shows it, but not granted.
pub record ShowsWaiting (table : Shown) (c : Claim) : Type 0 where
  pub at : ℕ
  pub found : LockRecord
  pub there : slice_get table.locks at ≡ Some found
  pub is : IsOf c found
  pub waits : found.state ≢ Granted (goal_of found.state)

-- It shows no such lock.
abbrev pub Lacks : Shown → Claim → Type 0
Lacks table c = (at : ℕ) (found : LockRecord) → slice_get table.locks at ≡ Some found → IsOf c found → ⊥

-- a lock of this number is in it, whosever it is
abbrev pub is_numbered : Shown → ℕ → Bool
is_numbered table number = list_any (is_lock number) table.locks

-- a lock waits, or holds a mode that conflicts with this one
abbrev pub holds_up : Mode → LockState → Bool
holds_up mode (Granted held) = conflict held mode
holds_up mode (Converting held wanted) = true
holds_up mode (Waiting wanted) = true

-- there is such a lock on the name
abbrev pub is_taken : Shown → List ℕ → Mode → Bool
is_taken table name mode = list_any (λ (r : LockRecord). is_on name r && holds_up mode r.state) table.locks

-- REQUESTS

-- The table knows a request of the client that is this one or a later one. So this one has no further effect.
pub record HasHeard (table : Shown) (client request : ℕ) : Type 0 where
  pub at : ℕ
  pub known : KnownClient
  pub there : slice_get table.clients at ≡ Some known
  pub is : known.client ≡ client
  pub late : request ≤ known.request

-- What the table knows of the client: the first entry with its number.
pub record Knows (table : Shown) (client : ℕ) (known : KnownClient) : Type 0 where
  pub at : ℕ
  pub there : slice_get table.clients at ≡ Some known
  pub is : known.client ≡ client
  pub first : (before : ℕ) (other : KnownClient) → before < at → slice_get table.clients before ≡ Some other → other.client ≡ client → ⊥

-- the command is this request of the client
abbrev pub IsRequest : ℕ → ℕ → Command → Type 0
IsRequest client request command = (command.client ≡ client) × (command.request ≡ request)

-- No command that is known between these places is such a one. That tells something only where the first one is known.
abbrev pub NoneBetween : (Command → Type 0) → Learned → ℕ → ℕ → Type 0
NoneBetween Is l from to = (place : ℕ) (command : Command) → from ≤ place → place < to → command_at l place ≡ Some command → Is command → ⊥

-- The first command from here on that is this request of the client stands at this place. All commands from here to there are known.
pub record IsFirst (l : Learned) (from client request place : ℕ) : Type 0 where
  pub command : Command
  pub known : l.first ≤ from
  pub late : from ≤ place
  pub there : command_at l place ≡ Some command
  pub is : IsRequest client request command
  pub first : NoneBetween (IsRequest client request) l from place

-- it asks for the claimed lock
abbrev pub AsksFor : Claim → Command → Type 0
AsksFor c command = (no_queue : Bool) × (command.action ≡ Enqueue c.lock c.name c.mode no_queue)

-- it takes away all locks of the host
abbrev pub Purges : ℕ → Command → Type 0
Purges host command = (command.action ≡ Purge host) ⊎ (command.action ≡ QuietPurge host)
