-- What changes in a claim: nothing but what is named here.
use Rattle.std.specs.Prelude.{◌≡◌, ◌+◌, ◌⊎◌, ℕ, Bool, Option, Some, None, is_some, true, max}
use Rattle.session.specs.Choosing.{IsFree, IsNext}
use Rattle.session.specs.Outcomes.{EndsIn, IsOut}
use Rattle.session.specs.Places.{place_of, upto}
use Rattle.session.specs.declared.claim.Choice.{Choice}
use Rattle.session.specs.declared.claim.Claim.{Claim}
use Rattle.session.specs.declared.claim.Goal.TheVariants.{GiveUp, Take}
use Rattle.session.specs.declared.claim.Standing.TheVariants.{Asked, Leaving}
use Rattle.session.specs.declared.claim.Step.TheVariants.{Ended, Signing}
use Rattle.session.specs.declared.learned.Learned.{Learned}
use Rattle.session.specs.declared.outcome.Failure.TheVariants.{Broken}
use Rattle.session.specs.declared.outcome.Outcome.TheVariants.{Failed, InDoubt}
use Rattle.session.specs.declared.outcome.Why.{Why}
use Rattle.session.specs.declared.outcome.Why.TheVariants as why

-- WHAT THE OPERATION IS FOR

-- It is for the same, but that a lock which was to be taken may be given up.
abbrev pub KeepsGoal : Claim → Claim → Type 0
KeepsGoal old new = (new.goal ≡ old.goal)
    ⊎ ((waits : Bool) × (why : Why) × (old.goal ≡ Take waits) × (new.goal ≡ GiveUp why) × (new.standing ≡ Leaving))

-- the operation ended with nothing changed
abbrev pub HasFailed : Claim → Type 0
HasFailed c = (why : Why) × EndsIn c (Failed why)

-- The same value is to be stored. A take stores none, and a give that failed leaves none.
abbrev pub KeepsValue : Claim → Claim → Type 0
KeepsValue old new = (new.value ≡ old.value) ⊎ ((new.value ≡ None) × (((waits : Bool) × (old.goal ≡ Take waits)) ⊎ HasFailed new))

-- WHAT MAY BE IN THE LOG

-- The same commands may be in the log, and as much is known of them: only how the lock stands changes, what the operation is for and does next, how often it
-- tries, and how it pauses.
abbrev pub GoesOn : Claim → Claim → Type 0
GoesOn old new = new ≡ record old { standing = new.standing; goal = new.goal; value = new.value; step = new.step; tries = new.tries; pace = new.pace }

-- a release that is known has no further effect
abbrev pub IsSpent : Learned → Claim → Type 0
IsSpent l c = (request : ℕ) → c.release ≡ Some request → IsOut l c (Some request)

-- It is known no more.
abbrev pub Forgets : Learned → Claim → Claim → Type 0
Forgets l old new = IsSpent l old × GoesOn (record old { release = None }) new

-- so many places come before what is submitted next: those that were learned, and those up to that command
abbrev pub passed : Option ℕ → ℕ → ℕ
passed None learned = learned
passed (Some slot) learned = max learned (place_of (slot + 1))

-- The lock is released by a number that is chosen now, from what is learned. A release before this one has no further effect.
abbrev pub ReleasesAnew : Learned → Claim → Claim → Type 0
ReleasesAnew l old new = IsSpent l old × IsNext l old.host old.request new.request × (new ≡ record old {
  standing = Leaving;
  release = Some new.request;
  request = new.request;
  since = passed old.slot (upto l);
  step = new.step;
  tries = new.tries;
  pace = new.pace;
})

-- The claim goes on, and what may be in the log changes by no more than its release.
abbrev pub MovesOn : Learned → Claim → Claim → Type 0
MovesOn l old new = GoesOn old new ⊎ Forgets l old new ⊎ ReleasesAnew l old new

-- It is told at which slot the command stands that asked for the lock.
abbrev pub TellsSlot : Claim → Claim → Type 0
TellsSlot old new = (is_some new.slot ≡ true) × GoesOn (record old { slot = new.slot }) new

-- A number is chosen to ask by.
abbrev pub Chooses : Learned → Claim → Claim → Type 0
Chooses l old new = (choice : Choice) × IsFree l old.host old.shares old.request choice
    × (new ≡ record old { request = choice.request; step = Signing choice; tries = new.tries; pace = new.pace })

-- The lock is asked for by the next number, or the operation ends.
abbrev pub AsksOn : Learned → Claim → Claim → Type 0
AsksOn l old new = GoesOn old new ⊎ Chooses l old new

-- The lock has the number that was chosen, and is asked for by the request that goes with it, from what is learned.
abbrev pub Asks : Learned → Choice → Claim → Claim → Type 0
Asks l choice old new = new ≡ record old {
  lock = choice.lock;
  standing = Asked;
  asked = Some choice.request;
  slot = None;
  release = None;
  value = None;
  since = upto l;
  step = new.step;
  pace = record old.pace { outrun = 0 };
}

-- OUT OF TURN

-- What was told does not go with what was ordered: the operation ends in doubt, and nothing else changes.
abbrev pub BreaksOff : Claim → Claim → Type 0
BreaksOff old new = new ≡ record old { step = Ended (InDoubt (why.Failed Broken)) }

-- the images could be opened: whatever failed there before is over
abbrev pub reached : Claim → Claim
reached c = record c { pace = record c.pace { failure = None } }
