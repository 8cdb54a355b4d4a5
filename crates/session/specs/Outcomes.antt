-- What has to be heard before an operation on a claim may end so.
use Rattle.std.specs.Prelude.{◌≡◌, ◌≢◌, ◌≤◌, ◌⊎◌, ⊤, ℕ, Bool, Option, Some, None, not}
use Rattle.lock_command.specs.declared.command.Command.{Command}
use Rattle.lock_command.specs.declared.command.Action.TheVariants.{Release}
use Rattle.lock_command.specs.declared.reply.Answer.TheVariants as answer
use Rattle.lock_command.specs.declared.reply.Refusal.TheVariants.{NotQueued}
use Rattle.lock_command.specs.declared.reply.Reply.{Reply}
use Rattle.lock_command.specs.declared.state.LockState.TheVariants.{Granted}
use Rattle.session.specs.Evidence.{AsksFor, HasHeard, IsFirst, IsRequest, Lacks, NoneBetween, Purges, Shows, is_numbered}
use Rattle.session.specs.Numbers.{client_of}
use Rattle.session.specs.Places.{IsFull, command_at}
use Rattle.session.specs.declared.claim.Claim.{Claim}
use Rattle.session.specs.declared.claim.Goal.{Goal}
use Rattle.session.specs.declared.claim.Goal.TheVariants.{Check, Give, GiveUp, Take}
use Rattle.session.specs.declared.claim.Sign.{Sign}
use Rattle.session.specs.declared.claim.Standing.TheVariants.{Unasked}
use Rattle.session.specs.declared.claim.Step.{Step}
use Rattle.session.specs.declared.claim.Step.TheVariants.{Dropping, Ended, Submitting}
use Rattle.session.specs.declared.claim.Then.{Then}
use Rattle.session.specs.declared.claim.Then.TheVariants.{AskAgain, End}
use Rattle.session.specs.declared.learned.Learned.{Learned}
use Rattle.session.specs.declared.outcome.Failure.{Failure}
use Rattle.session.specs.declared.outcome.Failure.TheVariants.{Outrun}
use Rattle.session.specs.declared.outcome.Outcome.{Outcome}
use Rattle.session.specs.declared.outcome.Why.{Why}
use Rattle.session.specs.declared.outcome.Why.TheVariants as why
use Rattle.session.specs.declared.outcome.Outcome.TheVariants.{Held, NotHeld, Given, InDoubt, Failed}

-- what the step leads to, with nothing left to hear but that a sign of life is given up
abbrev pub then_of : Step → Option Then
then_of (Ended outcome) = Some (End outcome)
then_of (Dropping sign then) = Some then
then_of step = None

-- the operation ends so
abbrev pub EndsIn : Claim → Outcome → Type 0
EndsIn c outcome = (then_of c.step ≡ Some (End outcome))

-- a command is to be submitted
abbrev pub IsSubmitting : Step → Type 0
IsSubmitting step = (command : Command) × (step ≡ Submitting command)

-- why it ended without what it was begun for, if it did
abbrev pub why_of : Outcome → Option Why
why_of (NotHeld why) = Some why
why_of (InDoubt why) = Some why
why_of (Failed why) = Some why
why_of outcome = None

-- If the operation ends, this is why.
abbrev pub TellsWhy : Claim → Why → Type 0
TellsWhy c why = (outcome : Outcome) → EndsIn c outcome → why_of outcome ≡ Some why

-- Why an operation ends where this failed: that failure. But where it was to end soon it is the reason of that, if it was told to stop, or was outrun.
pub record IsCause (over : Option Why) (failure : Failure) (cause : Why) : Type 0 where
  pub failed : over ≡ None → cause ≡ why.Failed failure
  pub late : (reason : Why) → over ≡ Some reason → reason ≢ why.Stopped → failure ≢ Outrun → cause ≡ why.Failed failure
  pub stopped : over ≡ Some why.Stopped → cause ≡ why.Stopped
  pub outrun : (reason : Why) → over ≡ Some reason → failure ≡ Outrun → cause ≡ reason

-- If the operation ends, or gives up the lock that it was to take, this is why.
abbrev pub IsFor : Claim → Claim → Why → Type 0
IsFor old new why = TellsWhy new why × ((waits : Bool) (reason : Why) → old.goal ≡ Take waits → new.goal ≡ GiveUp reason → reason ≡ why)

-- If so, this failure was the cause.
abbrev pub TellsFailure : Claim → Failure → Claim → Type 0
TellsFailure old failure new = (cause : Why) × IsCause old.over failure cause × IsFor old new cause

-- it goes on by another number
abbrev pub AsksAgain : Claim → Type 0
AsksAgain c = (then_of c.step ≡ Some AskAgain)

-- The table shows the lock, granted.
abbrev pub IsHeldIn : Learned → Claim → Type 0
IsHeldIn l c = Shows l.table.now c (Granted c.mode)

-- The command that asked for the lock has no further effect: the client has gone on to a later one, or the log is full.
abbrev pub IsOut : Learned → Claim → Option ℕ → Type 0
IsOut l c None = ⊤
IsOut l c (Some request) = IsFull l ⊎ HasHeard l.table.now (client_of c.host) request

-- The table lacks the lock, and it does not come into it any more.
pub record IsGone (l : Learned) (c : Claim) : Type 0 where
  pub lacks : Lacks l.table.now c
  pub out : IsOut l c c.asked

-- At this slot the log has the claim's own release with the claim's value. Since its number was chosen, while the lock was in the table, no command of that
-- number came before it, and no purge of the host: all commands since are known.
pub record GivesBack (l : Learned) (c : Claim) (slot : ℕ) : Type 0 where
  pub command : Command
  pub known : l.first ≤ c.since
  pub late : c.since ≤ slot
  pub there : command_at l slot ≡ Some command
  pub request : c.release ≡ Some command.request
  pub action : command.action ≡ Release c.lock c.value
  pub first : NoneBetween (IsRequest (client_of c.host) command.request) l c.since slot
  pub client : command.client ≡ client_of c.host
  pub spared : NoneBetween (Purges c.host) l c.since slot
  pub lacks : Lacks l.table.now c

-- At this slot the log has the command that asks for the claimed lock, as the first of its number since that was chosen.
pub record AsksAt (l : Learned) (c : Claim) (asking : Command) (slot : ℕ) : Type 0 where
  pub first : IsFirst l c.since asking.client asking.request slot
  pub asks : (command : Command) → command_at l slot ≡ Some command → AsksFor c command

-- it is the slot of the command that was submitted
abbrev pub IsSlotOf : Learned → Claim → ℕ → Type 0
IsSlotOf l c slot = (command : Command) × (c.step ≡ Submitting command) × AsksAt l c command slot

-- The reply refuses the command for this reason.
abbrev pub RefusesFor : Reply → Why → Type 0
RefusesFor reply why.Taken = (reply.answer ≡ answer.Refused NotQueued)
RefusesFor reply (why.Refused refusal) = (reply.answer ≡ answer.Refused refusal)
RefusesFor reply other = ⊥

-- The operation gave the lock up for this reason, or gave it back, and it is gone.
abbrev pub IsGivenUpFor : Goal → Why → Type 0
IsGivenUpFor goal reason = (goal ≡ GiveUp reason) ⊎ ((goal ≡ Give) × (reason ≡ why.Gone))

-- The sign of life is that of this lock number. Its file is removed exactly where no lock in the table has the number.
pub record IsGivenUp (l : Learned) (number : ℕ) (sign : Sign) : Type 0 where
  pub lock : sign.lock ≡ number
  pub removes : sign.removes ≡ not (is_numbered l.table.now number)

-- The lock is gone, or was given back.
abbrev pub IsRidOf : Learned → Claim → Type 0
IsRidOf l c = IsGone l c ⊎ ((slot : ℕ) × GivesBack l c slot)

-- no release of it may be in the log
abbrev pub IsUnreleased : Claim → Type 0
IsUnreleased c = (c.release ≡ None)

-- It may end with nothing changed: it was to look only, or to give back a lock of which no release may be in the log. Then none is left to store a value.
abbrev pub MayFail : Claim → Type 0
MayFail c = (c.goal ≡ Check) ⊎ ((c.goal ≡ Give) × IsUnreleased c × (c.value ≡ None))

-- The command is the session's own: the one that asks for the claimed lock, or the one that releases it.
pub record IsOwn (c : Claim) (command : Command) : Type 0 where
  pub host : command.host ≡ c.host
  pub client : command.client ≡ client_of c.host
  pub action : ((c.asked ≡ Some command.request) × AsksFor c command)
      ⊎ ((c.release ≡ Some command.request) × (command.action ≡ Release c.lock c.value))

-- What was heard bears out whatever the step leads to.
pub record IsBorneOut (l : Learned) (c : Claim) : Type 0 where
  pub held : EndsIn c Held → IsHeldIn l c
  pub nothing : (why : Why) → EndsIn c (NotHeld why) → (c.standing ≡ Unasked) ⊎ IsRidOf l c
  pub given : (slot : ℕ) → EndsIn c (Given slot) → GivesBack l c slot
  pub again : AsksAgain c → IsRidOf l c
  pub failed : (why : Why) → EndsIn c (Failed why) → MayFail c
  pub own : (command : Command) → c.step ≡ Submitting command → IsOwn c command
  pub sign : (sign : Sign) (then : Then) → c.step ≡ Dropping sign then → IsGivenUp l c.lock sign

-- Nothing was heard, and the step leads to nothing that would have to be.
pub record IsUnheard (c : Claim) : Type 0 where
  pub held : EndsIn c Held → ⊥
  pub nothing : (why : Why) → EndsIn c (NotHeld why) → c.standing ≡ Unasked
  pub given : (slot : ℕ) → EndsIn c (Given slot) → ⊥
  pub again : AsksAgain c → ⊥
  pub failed : (why : Why) → EndsIn c (Failed why) → MayFail c
  pub own : (command : Command) → c.step ≡ Submitting command → IsOwn c command
  pub sign : (sign : Sign) (then : Then) → c.step ≡ Dropping sign then → ⊥

-- it leads to nothing but that the lock is not held, or asked for by another number
abbrev pub IsWithout : Then → Type 0
IsWithout AskAgain = ⊤
IsWithout (End (NotHeld why)) = ⊤
IsWithout then = ⊥

-- or that it was given back by the command at this slot
abbrev pub IsWithoutOrGiven : ℕ → Then → Type 0
IsWithoutOrGiven slot AskAgain = ⊤
IsWithoutOrGiven slot (End (NotHeld why)) = ⊤
IsWithoutOrGiven slot (End (Given at)) = (at ≡ slot)
IsWithoutOrGiven slot then = ⊥
