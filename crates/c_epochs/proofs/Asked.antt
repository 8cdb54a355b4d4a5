-- A client may ask for whatever C asks.
use Rattle.std.proofs.Common.{◌≡◌, ℕ, true, List, Option, Some, None, refl}
use Rattle.lock_command.specs.declared.command.Command.{Command}
use Rattle.lock_command.specs.declared.command.Action.{Action}
use Rattle.lock_command.specs.declared.command.Action.TheVariants.{Enqueue, Convert, Release, Cancel, Status, Purge, QuietPurge, Forget, CarryLock, CarryClient}
use Rattle.lock_command.specs.Command.{Fits, is_submittable}
use Rattle.epoch_host.specs.declared.task.EpochTask.{EpochTask}
use Rattle.epoch_host.specs.declared.task.EpochTask.TheVariants.{Submit}
use Rattle.c_host.specs.declared.request.Request.{Request}
use Rattle.c_host.specs.Requests.{AsksFor, IsAsked}
use Rattle.c_epochs.specs.Steps.{AsksSubmission}

asked_action : (r : Request) (name : List ℕ) (command : Command) (action : Action) → AsksFor r name action → is_submittable (record command { action = action }) ≡ true
asked_action r name command (Enqueue lock its_name mode no_queue) asks = refl
asked_action r name command (Convert lock mode no_queue value) asks = refl
asked_action r name command (Release lock value) asks = refl
asked_action r name command (Cancel lock) asks = refl
asked_action r name command (Status lock) asks = refl
asked_action r name command (Purge host) asks = refl
asked_action r name command (QuietPurge host) asks = absurd asks
asked_action r name command (Forget client) asks = refl
asked_action r name command (CarryLock lock on state value) asks = absurd asks
asked_action r name command (CarryClient reply) asks = absurd asks

pub may_be_asked : (r : Request) (name : List ℕ) (host : ℕ) (command : Command) → IsAsked r name host command → is_submittable command ≡ true
may_be_asked r name host command asked = asked_action r name command command.action asked.action

-- where no command is asked, no task is
pub nothing_asked : (r : Request) (name : List ℕ) (tries h : ℕ) → ((command : Command) → Fits command → IsAsked r name h command → ⊥) → (task : EpochTask) → AsksSubmission r name tries h task → ⊥
nothing_asked r name tries h none (Submit command given) asks = none command asks.0 asks.1
nothing_asked r name tries h none other asks = absurd asks

pub none_of : {T : Type 0} (o : Option T) → ((x : T) → o ≡ Some x → ⊥) → o ≡ None
none_of None never = refl
none_of (Some x) never = absurd (never x refl)
