-- How operations on a claim begin.
use Rattle.std.specs.Prelude.{◌≡◌, ◌≢◌, ℕ, List, Bool, Option, None, max}
use Rattle.lock_command.specs.declared.mode.Mode.{Mode}
use Rattle.session.specs.declared.beginning.Asker.{Asker}
use Rattle.session.specs.declared.beginning.TheConstants.{LAST_TRIES}
use Rattle.session.specs.declared.claim.Claim.{Claim}
use Rattle.session.specs.declared.claim.Goal.{Goal}
use Rattle.session.specs.declared.claim.Goal.TheVariants.{Take}
use Rattle.session.specs.declared.claim.Standing.TheVariants.{Unasked}
use Rattle.session.specs.declared.claim.Step.TheVariants.{Opening}
use Rattle.session.specs.declared.pace.Pace.{Pace}

-- the pace of a wait that begins: its pauses grow up to this one
abbrev pub first_pace : ℕ → Pace
first_pace longest = record { pause = 1; interval = longest; learned = 0; quiet = 0; away = 0; outrun = 0; failure = None }

-- A lock on this name is to be taken in this mode. Nothing was asked for yet.
pub record IsNewClaim (asker : Asker) (bytes : List ℕ) (wanted : Mode) (waits : Bool) (c : Claim) : Type 0 where
  pub host : c.host ≡ asker.host
  pub shares : c.shares ≡ asker.shares
  pub name : c.name ≡ bytes
  pub mode : c.mode ≡ wanted
  pub goal : c.goal ≡ Take waits
  pub step : c.step ≡ Opening
  pub standing : c.standing ≡ Unasked
  pub asked : c.asked ≡ None
  pub slot : c.slot ≡ None
  pub unlearned : c.since ≡ 0
  pub release : c.release ≡ None
  pub value : c.value ≡ None
  pub over : c.over ≡ None
  pub request : c.request ≡ asker.request
  pub tries : c.tries ≡ LAST_TRIES
  pub pace : c.pace ≡ first_pace asker.interval

-- The session's last request is known, and how long it pauses at most.
pub record AsksAs (asker : Asker) (old new : Claim) : Type 0 where
  pub request : new.request ≡ max old.request asker.request
  pub interval : new.pace.interval ≡ asker.interval

-- Nothing else changes but how the lock stands, what is to be stored, and what is done first.
abbrev pub OnlyBegins : Goal → Asker → Claim → Claim → Type 0
OnlyBegins wanted asker old new = new ≡ record old {
  goal = wanted;
  request = max old.request asker.request;
  over = None;
  tries = LAST_TRIES;
  standing = new.standing;
  value = new.value;
  step = new.step;
  pace = first_pace asker.interval;
}

-- An operation begins. The claim is of the same lock, and what may be in the log stays known.
pub record Begins (wanted : Goal) (old new : Claim) : Type 0 where
  pub goal : new.goal ≡ wanted
  pub over : new.over ≡ None
  pub host : new.host ≡ old.host
  pub name : new.name ≡ old.name
  pub mode : new.mode ≡ old.mode
  pub lock : new.lock ≡ old.lock
  pub asked : new.asked ≡ old.asked
  pub release : new.release ≡ old.release
  pub since : new.since ≡ old.since

-- a release that stores another value may be in the log
abbrev pub IsAnotherValue : Claim → Option (List ℕ) → Type 0
IsAnotherValue c value = (c.release ≢ None) × (c.value ≢ value)
