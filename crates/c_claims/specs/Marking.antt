-- Which commands are marked at once, and which may be marked a little later.
use Rattle.std.specs.Prelude.{Bool, true, false}
use Rattle.lock_command.specs.declared.command.Action.{Action}
use Rattle.lock_command.specs.declared.command.Action.TheVariants.{Enqueue, Convert, Release, Cancel, Status, Purge, QuietPurge, Forget, CarryLock, CarryClient}

-- Somebody may wait for what the command does: it may take locks away, leave one in a lesser mode, or make room for a client. To ask for a lock, or how one stands, lets nobody by.
abbrev pub is_waited_for : Action → Bool
is_waited_for (Enqueue lock name mode no_queue) = false
is_waited_for (Status lock) = false
is_waited_for (Convert lock mode no_queue value) = true
is_waited_for (Release lock value) = true
is_waited_for (Cancel lock) = true
is_waited_for (Purge host) = true
is_waited_for (QuietPurge host) = true
is_waited_for (Forget client) = true
is_waited_for (CarryLock lock on state value) = true
is_waited_for (CarryClient reply) = true
