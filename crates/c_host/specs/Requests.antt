-- What C asks, as a command.
use Rattle.std.specs.Prelude.{◌≡◌, ℕ, pos, List, Bool, true, false, Option, Some, None}
use Rattle.lock_command.specs.declared.command.Command.{Command}
use Rattle.lock_command.specs.declared.command.Action.{Action}
use Rattle.lock_command.specs.declared.command.Action.TheVariants.{Enqueue, Convert, Release, Cancel, Status, Purge, QuietPurge, Forget, CarryLock, CarryClient}
use Rattle.c_host.specs.declared.request.Request.{Request}
use Rattle.c_host.specs.Numbers.{mode_number}

-- how a flag is spelled
abbrev pub flag_number : Bool → ℕ
flag_number false = 0
flag_number true = 1

-- the value that a request gives, or that it gives none
abbrev pub AsksValue : Request → Option (List ℕ) → Type 0
AsksValue r None = r.gives ≡ 0
AsksValue r (Some value) = (r.gives ≡ 1) × (value ≡ r.value)

-- the action that a request asks for, under this name
abbrev pub AsksFor : Request → List ℕ → Action → Type 0
AsksFor r name (Enqueue lock its_name mode no_queue) =
    (r.action ≡ 1) × (lock ≡ r.lock) × (its_name ≡ name) × (mode_number mode ≡ pos r.mode) × (flag_number no_queue ≡ r.no_queue)
AsksFor r name (Convert lock mode no_queue value) =
    (r.action ≡ 2) × (lock ≡ r.lock) × (mode_number mode ≡ pos r.mode) × (flag_number no_queue ≡ r.no_queue) × AsksValue r value
AsksFor r name (Release lock value) = (r.action ≡ 3) × (lock ≡ r.lock) × AsksValue r value
AsksFor r name (Cancel lock) = (r.action ≡ 4) × (lock ≡ r.lock)
AsksFor r name (Status lock) = (r.action ≡ 5) × (lock ≡ r.lock)
AsksFor r name (Purge host) = (r.action ≡ 6) × (host ≡ r.purged)
AsksFor r name (QuietPurge host) = ⊥
AsksFor r name (Forget client) = (r.action ≡ 7) × (client ≡ r.forgotten)
AsksFor r name (CarryLock lock on state value) = ⊥
AsksFor r name (CarryClient reply) = ⊥

-- The command that a request asks for, through this host and under this name.
pub record IsAsked (r : Request) (name : List ℕ) (host : ℕ) (command : Command) : Type 0 where
  pub same_host : command.host ≡ host
  pub client : command.client ≡ r.client
  pub request : command.request ≡ r.request
  pub action : AsksFor r name command.action
