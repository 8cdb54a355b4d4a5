-- What an operation on a claim leaves as it is.
use Rattle.std.specs.Prelude.{◌≡◌, ◌≤◌, ◌⊎◌, ℕ, Some}
use Rattle.session.specs.Outcomes.{IsOut}
use Rattle.session.specs.Pauses.{KeepsPace}
use Rattle.session.specs.declared.claim.Claim.{Claim}
use Rattle.session.specs.declared.claim.Standing.TheVariants.{Unasked}
use Rattle.session.specs.declared.learned.Learned.{Learned}

-- The lock is wanted on the same name, in the same mode, through the same host. The session's last request is no lower. The operation is to end soon for the
-- same reason, or not yet, and pauses as long as before.
pub record IsOnSame (old new : Claim) : Type 0 where
  pub host : new.host ≡ old.host
  pub shares : new.shares ≡ old.shares
  pub name : new.name ≡ old.name
  pub mode : new.mode ≡ old.mode
  pub request : old.request ≤ new.request
  pub over : new.over ≡ old.over
  pub paced : KeepsPace old new

-- It is also the same lock, asked for by the same command, at the same slot. What was asked for stays asked for.
pub record Keeps (old new : Claim) : Type 0 where
  pub host : new.host ≡ old.host
  pub shares : new.shares ≡ old.shares
  pub name : new.name ≡ old.name
  pub mode : new.mode ≡ old.mode
  pub request : old.request ≤ new.request
  pub over : new.over ≡ old.over
  pub paced : KeepsPace old new
  pub lock : new.lock ≡ old.lock
  pub asked : new.asked ≡ old.asked
  pub slot : new.slot ≡ old.slot
  pub unasked : new.standing ≡ Unasked → old.standing ≡ Unasked

-- This release of the lock may be in the log, with the same value. As much was learned before it.
pub record IsStillKnown (request : ℕ) (old new : Claim) : Type 0 where
  pub release : new.release ≡ Some request
  pub value : new.value ≡ old.value
  pub since : new.since ≡ old.since

-- A release that may be in the log stays known.
abbrev pub KeepsRelease : Claim → Claim → Type 0
KeepsRelease old new = (request : ℕ) → old.release ≡ Some request → IsStillKnown request old new

-- It does, unless it has no further effect.
abbrev pub KeepsReleaseUntilOut : Learned → Claim → Claim → Type 0
KeepsReleaseUntilOut l old new = (request : ℕ) → old.release ≡ Some request → IsStillKnown request old new ⊎ IsOut l old (Some request)
