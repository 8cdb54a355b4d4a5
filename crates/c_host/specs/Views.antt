-- What C is shown of a host and of its lock table.
use Rattle.std.specs.Prelude.{◌<◌, ◌-◌, ℕ, List, Some, slice_get, take, drop, replicate, min, ◌++◌, ◌≡◌, length, pos}
use Rattle.lock_command.specs.declared.record.LockRecord.{LockRecord}
use Rattle.lock_table.specs.declared.known_client.KnownClient.{KnownClient}
use Rattle.lock_command.specs.declared.command.Command.{Command}
use Rattle.lock_table.specs.Apply.{table_after}
use Rattle.lock_table.specs.Picture.{IsPictureOf, Shown}
use Rattle.inspect.specs.Text.{queues_text}
use Rattle.c_host.specs.declared.open_host.OpenHost.{OpenHost}
use Rattle.c_host.specs.declared.view.TheConstants.{NAME_ROOM}
use Rattle.c_host.specs.declared.view.HostView.{HostView}
use Rattle.c_host.specs.declared.view.LockView.{LockView}
use Rattle.c_host.specs.declared.view.ClientView.{ClientView}
use Rattle.c_host.specs.declared.view.ValueView.{ValueView}
use Rattle.c_host.specs.Numbers.{held_number, wanted_number, answer_of, status_of, value_of}

-- The view shows this host, and how much it has learned.
pub record ShowsHost (view : HostView) (host : OpenHost) : Type 0 where
  pub number : view.host ≡ host.core.learner.host
  pub learned : view.learned ≡ length host.core.prefix
  pub disks : view.disks ≡ host.config.disks
  pub slots : view.slots ≡ host.config.slots
  pub cluster : view.cluster ≡ host.cluster
  pub unused : view.unused ≡ 0

-- The view shows this lock.
pub record ShowsLock (view : LockView) (r : LockRecord) : Type 0 where
  pub number : view.lock ≡ r.lock
  pub client : view.client ≡ r.client
  pub host : view.host ≡ r.host
  pub held : view.held ≡ held_number r.state
  pub wanted : view.wanted ≡ wanted_number r.state
  pub name : view.name ≡ r.name ++ replicate (NAME_ROOM - length r.name) 0

-- The view shows this client, its last request, and the reply to it.
pub record ShowsClient (view : ClientView) (k : KnownClient) : Type 0 where
  pub number : view.client ≡ k.client
  pub request : view.request ≡ k.request
  pub reply : view.reply ≡ (answer_of 0 k.reply).reply
  pub refusal : view.refusal ≡ status_of k.reply
  pub unused : view.unused ≡ pos 0

-- the list has a lock of this number at this place
pub record IsAt (locks : List LockRecord) (number at : ℕ) (found : LockRecord) : Type 0 where
  pub there : slice_get locks at ≡ Some found
  pub numbered : found.lock ≡ number

-- The view shows the lock of this number, which is in the table after these commands.
pub record FindsLock (learned : List Command) (number : ℕ) (view : LockView) : Type 0 where
  pub picture : Shown
  pub of_table : IsPictureOf picture (table_after learned)
  pub at : ℕ
  pub found : LockRecord
  pub is : IsAt picture.locks number at found
  pub shown : ShowsLock view found

-- The view shows the value of the name of the lock of this number, in the table after these commands.
pub record FindsValue (learned : List Command) (number : ℕ) (view : ValueView) : Type 0 where
  pub picture : Shown
  pub of_table : IsPictureOf picture (table_after learned)
  pub at : ℕ
  pub found : LockRecord
  pub is : IsAt picture.locks number at found
  pub shown : view ≡ value_of ((table_after learned).values found.name)

-- The table after these commands has no lock of this number.
pub record LacksLock (learned : List Command) (number : ℕ) : Type 0 where
  pub picture : Shown
  pub of_table : IsPictureOf picture (table_after learned)
  pub none : (at : ℕ) (found : LockRecord) → IsAt picture.locks number at found → ⊥

-- The buffer begins with the printed text of the table after these commands, as much as it has room for, and this is how long that is.
pub record ShowsText (learned : List Command) (old new : List ℕ) (size : ℕ) : Type 0 where
  pub picture : Shown
  pub of_table : IsPictureOf picture (table_after learned)
  pub sized : size ≡ length (queues_text picture)
  pub shown : new ≡ take (min size (length old)) (queues_text picture) ++ drop (min size (length old)) old

-- the first views show these records, as many as there are below this number
abbrev pub ShowBelow : {V R : Type 0} → (V → R → Type 0) → List V → List R → ℕ → Type 0
ShowBelow {V} {R} Shows views records n = (k : ℕ) (view : V) (r : R) → k < n → slice_get views k ≡ Some view → slice_get records k ≡ Some r → Shows view r

-- The buffer begins with the locks of the table after these commands, as many as it has room for, and this is how many there are. What stands after them stays.
pub record ShowsLocks (learned : List Command) (old new : List LockView) (count : ℕ) : Type 0 where
  pub picture : Shown
  pub of_table : IsPictureOf picture (table_after learned)
  pub counted : count ≡ length picture.locks
  pub shown : ShowBelow ShowsLock new picture.locks (length new)
  pub rest : drop (length picture.locks) new ≡ drop (length picture.locks) old

-- The same of its clients.
pub record ShowsClients (learned : List Command) (old new : List ClientView) (count : ℕ) : Type 0 where
  pub picture : Shown
  pub of_table : IsPictureOf picture (table_after learned)
  pub counted : count ≡ length picture.clients
  pub shown : ShowBelow ShowsClient new picture.clients (length new)
  pub rest : drop (length picture.clients) new ≡ drop (length picture.clients) old
