-- Which request asks for a lock or releases it, and which lock number goes with it.
use Rattle.std.specs.Prelude.{◌≡◌, ◌<◌, ℕ, Bool, false}
use Rattle.lock_table.specs.declared.known_client.KnownClient.{KnownClient}
use Rattle.session.specs.Evidence.{Knows, is_numbered}
use Rattle.session.specs.Numbers.{client_of, lock_of}
use Rattle.session.specs.declared.claim.Choice.{Choice}
use Rattle.session.specs.declared.learned.Learned.{Learned}

-- The request is above the last one of the host's session, and above the last one that the table knows of its client.
pub record IsNext (l : Learned) (host last request : ℕ) : Type 0 where
  pub above : last < request
  pub later : (known : KnownClient) → Knows l.table.now (client_of host) known → known.request < request

-- It is so, and no lock in the table has the number that goes with it.
pub record IsFree (l : Learned) (host : ℕ) (shares : Bool) (last : ℕ) (choice : Choice) : Type 0 where
  pub free : is_numbered l.table.now choice.lock ≡ false
  pub goes_with : choice.lock ≡ lock_of host shares choice.request
  pub next : IsNext l host last choice.request
