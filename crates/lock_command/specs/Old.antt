-- The commands of the first layout: 32 bytes, no values, and eight hosts.
use Rattle.std.specs.Prelude.{◌≡◌, ℕ, ◌<◌, List, ◌++◌, replicate, None, ⊤}
use Rattle.lock_command.specs.declared.command.Command.{Command}
use Rattle.lock_command.specs.declared.command.Action.{Action}
use Rattle.lock_command.specs.declared.command.Action.TheVariants as action
use Rattle.lock_command.specs.declared.old.TheConstants.{OLD_HOSTS}
use Rattle.lock_command.specs.declared.value.TheConstants.{LOCK_VALUE_LENGTH}
use Rattle.lock_command.specs.declared.old.OldCommand.{OldCommand}
use Rattle.lock_command.specs.declared.old.OldAction.{OldAction}
use Rattle.lock_command.specs.declared.old.OldAction.TheVariants.{Enqueue, Convert, Release, Cancel, Status, Purge}
use Rattle.lock_command.specs.Command.{spelling, Fits}

-- what an old command asks, by an action of today that gives no value
abbrev pub same_action : OldAction → Action
same_action (Enqueue lock name mode no_queue) = action.Enqueue lock name mode no_queue
same_action (Convert lock mode no_queue) = action.Convert lock mode no_queue None
same_action (Release lock) = action.Release lock None
same_action (Cancel lock) = action.Cancel lock
same_action (Status lock) = action.Status lock
same_action (Purge host) = action.Purge host

abbrev pub as_today : OldCommand → Command
as_today c = record { host = c.host; client = c.client; request = c.request; action = same_action c.action }

-- the bytes are its old spelling: with zeros for a value behind them, they are the spelling of today
abbrev pub IsOldSpelling : OldCommand → List ℕ → Type 0
IsOldSpelling c bytes = bytes ++ replicate LOCK_VALUE_LENGTH 0 ≡ spelling (as_today c)

-- the host that is purged is one of the eight
abbrev pub PurgesOld : OldAction → Type 0
PurgesOld (Purge host) = host < OLD_HOSTS
PurgesOld other = ⊤

-- its numbers are in their ranges, and its hosts are among the eight
pub record IsOld (c : OldCommand) : Type 0 where
  pub fits : Fits (as_today c)
  pub host : c.host < OLD_HOSTS
  pub purged : PurgesOld c.action

-- what stands for it in a log that was moved: the same, but a purge leaves all values valid
abbrev pub upgraded_action : OldAction → Action
upgraded_action (Purge host) = action.QuietPurge host
upgraded_action other = same_action other

abbrev pub upgraded : OldCommand → Command
upgraded c = record { host = c.host; client = c.client; request = c.request; action = upgraded_action c.action }
