-- What C asks of a claim, and what comes of that.
use Rattle.std.specs.Prelude.{◌≡◌, ◌≤◌, ◌<◌, ◌^◌, ◌==◌, ◌⊎◌, ℕ, ℤ, Bool, false, true, pos, List, Option, Some, None, if◌then◌else◌}
use Rattle.lock_command.specs.declared.mode.Mode.{Mode}
use Rattle.lock_command.specs.Command.{IsLock, is_submittable}
use Rattle.lock_command.specs.Name.{IsName}
use Rattle.lock_command.specs.declared.command.Command.{Command}
use Rattle.lock_command.specs.declared.number.TheConstants.{HOSTS}
use Rattle.session.specs.Beginnings as beginnings
use Rattle.session.specs.Beginnings.{AsksAs, IsAnotherValue, IsNewClaim, OnlyBegins}
use Rattle.session.specs.Bounds.{IsPause, is_leaving, orders_left}
use Rattle.session.specs.Keeping.{Keeps, KeepsRelease}
use Rattle.session.specs.Moves.{GoesOn, KeepsGoal, KeepsValue}
use Rattle.session.specs.Outcomes.{IsFor, IsUnheard, TellsFailure}
use Rattle.session.specs.declared.beginning.Asker.{Asker}
use Rattle.session.specs.declared.beginning.TheConstants.{LAST_TRIES}
use Rattle.session.specs.declared.claim.Claim.{Claim}
use Rattle.session.specs.declared.claim.Goal.{Goal}
use Rattle.session.specs.declared.claim.Goal.TheVariants.{Take, Check, Give, GiveUp}
use Rattle.session.specs.declared.claim.Standing.{Standing}
use Rattle.session.specs.declared.claim.Standing.TheVariants.{Held, Leaving, Left}
use Rattle.session.specs.declared.claim.Step.{Step}
use Rattle.session.specs.declared.claim.Step.TheVariants as step
use Rattle.session.specs.declared.outcome.Failure.{Failure}
use Rattle.session.specs.declared.outcome.Outcome.TheVariants.{Failed}
use Rattle.session.specs.declared.outcome.Why.{Why}
use Rattle.session.specs.declared.outcome.Why.TheVariants.{Gone, Stopped, TimeOver, Waits}
use Rattle.c_claims.specs.declared.asker.AskerNumbers.{AskerNumbers}
use Rattle.c_host.specs.Numbers.{bad_argument, done, mode_number}

-- WHOSE CLAIM IT IS

-- there are such a host and such an interval
abbrev pub MayAsk : AskerNumbers → Type 0
MayAsk numbers = (numbers.host < HOSTS) × (numbers.interval < 2 ^ 16)

-- the asker of these numbers
abbrev pub asker_of : AskerNumbers → Asker
asker_of numbers = record { host = numbers.host; shares = numbers.shares == 1; request = numbers.request; interval = numbers.interval }

-- A CLAIM

-- there are such an asker and such a name, and this is the mode of that number
abbrev pub MayTake : AskerNumbers → List ℕ → ℕ → Mode → Type 0
MayTake numbers name mode wanted = MayAsk numbers × IsName name × (mode_number wanted ≡ pos mode)

-- a new claim of this asker to a lock on this name in this mode
abbrev pub IsNewOf : AskerNumbers → List ℕ → ℕ → Bool → Claim → Type 0
IsNewOf numbers name mode waits c = (wanted : Mode) × MayTake numbers name mode wanted × IsNewClaim (asker_of numbers) name wanted waits c

-- The claim is to this lock, which a former run left. No operation on it is under way.
pub record IsLeftClaim (asking number : ℕ) (bytes : List ℕ) (wanted : Mode) (c : Claim) : Type 0 where
  pub host : c.host ≡ asking
  pub shares : c.shares ≡ false
  pub lock : c.lock ≡ number
  pub name : c.name ≡ bytes
  pub mode : c.mode ≡ wanted
  pub standing : c.standing ≡ Left
  pub unknown : (c.asked ≡ None) × (c.slot ≡ None) × (c.release ≡ None)
  pub idle : c.step ≡ step.Ended (Failed Waits)
  pub nothing : (c.value ≡ None) × (c.over ≡ None) × (c.since ≡ 0) × (c.request ≡ 0)

-- there are such an asker, such a lock and such a name, and this is the mode of that number
abbrev pub MayBeLeft : AskerNumbers → ℕ → List ℕ → ℕ → Mode → Type 0
MayBeLeft numbers lock name mode wanted = IsLock lock × MayTake numbers name mode wanted

abbrev pub IsLeftOf : AskerNumbers → ℕ → List ℕ → ℕ → Claim → Type 0
IsLeftOf numbers lock name mode c = (wanted : Mode) × MayBeLeft numbers lock name mode wanted × IsLeftClaim numbers.host lock name wanted c

-- AN OPERATION ON IT BEGINS

-- the number of what is begun: a give stores no value, or one
abbrev pub IsGoal : ℕ → Goal → Type 0
IsGoal number (Take waits) = number ≡ (if waits then 1 else 2)
IsGoal number Check = number ≡ 3
IsGoal number Give = (number ≡ 4) ⊎ (number ≡ 5)
IsGoal number (GiveUp why) = (number ≡ 6) × (why ≡ Gone)

abbrev pub stored : ℕ → List ℕ → Option (List ℕ)
stored number bytes = if number == 5 then Some bytes else None

-- the step that it begins with
abbrev pub first_step : Goal → Step
first_step Check = step.OpeningToLook
first_step goal = step.Opening

-- where the lock stands then: to be taken it stands as before; to be looked at too, but that one which was to be released counts as held; else it is to be released
abbrev pub StandsFor : Goal → Standing → Standing → Type 0
StandsFor (Take waits) old new = new ≡ old
StandsFor Check old new = new ≡ (if is_leaving old then Held else old)
StandsFor Give old new = new ≡ Leaving
StandsFor (GiveUp why) old new = new ≡ Leaving

-- What is to be stored then: a give stores this, and a lock that is given up nothing, unless a release of it may be in the log. Else it is the same.
abbrev pub StoresFor : Goal → Option (List ℕ) → Claim → Claim → Type 0
StoresFor Give given old new = new.value ≡ given
StoresFor (GiveUp why) given old new = old.release ≡ None → new.value ≡ None
StoresFor goal given old new = new.value ≡ old.value

-- What is asked began, and nothing else changed. What may be in the log stays known.
pub record BeginsGoal (numbers : AskerNumbers) (number : ℕ) (bytes : List ℕ) (old new : Claim) (status : ℤ) : Type 0 where
  pub told : status ≡ done
  pub may_ask : MayAsk numbers
  pub goal : Goal
  pub is : IsGoal number goal
  pub begins : beginnings.Begins goal old new
  pub asks : AsksAs (asker_of numbers) old new
  pub first : new.step ≡ first_step goal
  pub stands : StandsFor goal old.standing new.standing
  pub value : StoresFor goal (stored number bytes) old new
  pub only : OnlyBegins goal (asker_of numbers) old new
  pub keeps : Keeps (record old { over = new.over; pace = new.pace }) new
  pub release : KeepsRelease old new

-- there is no such asker, or nothing has that number, or a release with another value may be in the log
abbrev pub MayNotBegin : AskerNumbers → ℕ → List ℕ → Claim → Type 0
MayNotBegin numbers number bytes old =
    (MayAsk numbers → ⊥) ⊎ ((goal : Goal) → IsGoal number goal → ⊥) ⊎ (IsGoal number Give × IsAnotherValue old (stored number bytes))

abbrev pub BeginsGoalOr : AskerNumbers → ℕ → List ℕ → Claim → Claim → ℤ → Type 0
BeginsGoalOr numbers number bytes old new status =
    BeginsGoal numbers number bytes old new status ⊎ ((status ≡ bad_argument) × (new ≡ old) × MayNotBegin numbers number bytes old)

-- IT IS TO END SOON

-- why it is to end soon: it was told to stop, or time is over
abbrev pub why_over : Bool → Why
why_over told = if told then Stopped else TimeOver

-- The operation is to end soon. It goes on as before, but that a pause ends, and leads to nothing for which something would have to be heard; if the operation
-- ends then, this is told, or the failure that the pause was for. What may be in the log stays known.
pub record Stops (stopped : Bool) (old new : Claim) : Type 0 where
  pub over : new.over ≡ Some (why_over stopped)
  pub soon : orders_left new ≤ 13
  pub no_pause : IsPause new.step → ⊥
  pub goes_on : (IsPause old.step → ⊥) → new ≡ record old { over = new.over; tries = LAST_TRIES }
  pub unheard : IsPause old.step → IsUnheard new
  pub told : IsPause old.step → old.pace.failure ≡ None → IsFor old new (why_over stopped)
  pub failed : (failure : Failure) → IsPause old.step → old.pace.failure ≡ Some failure → TellsFailure (record old { over = Some (why_over stopped) }) failure new
  pub moves : GoesOn (record old { over = new.over }) new
  pub goal : KeepsGoal old new
  pub value : KeepsValue old new
  pub keeps : Keeps (record old { over = new.over }) new
  pub release : KeepsRelease old new

-- ITS COMMAND

-- this command is to be submitted, through this host; a client may ask for it
abbrev pub IsToSubmit : Claim → ℕ → Command → Type 0
IsToSubmit c host command = (c.step ≡ step.Submitting command) × (command.host ≡ host) × (is_submittable command ≡ true)

-- none is
abbrev pub NoneToSubmit : Claim → ℕ → Type 0
NoneToSubmit c host = (command : Command) → IsToSubmit c host command → ⊥
