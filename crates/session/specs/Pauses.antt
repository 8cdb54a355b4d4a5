-- How long an operation pauses.
use Rattle.std.specs.Prelude.{◌≡◌, ◌≤◌, ◌⊎◌, ℕ}
use Rattle.session.specs.declared.claim.Claim.{Claim}
use Rattle.session.specs.declared.claim.Step.{Step}
use Rattle.session.specs.declared.claim.Step.TheVariants.{Resting}
use Rattle.session.specs.declared.pace.TheConstants.{LONG_PAUSE}

-- between two looks: a millisecond, or at most the interval
abbrev pub IsWithin : (interval milliseconds : ℕ) → Type 0
IsWithin interval milliseconds = (milliseconds ≡ 1) ⊎ (milliseconds ≤ interval)

-- The next pause is so long. So is the one that is due now, or it is a long one, for disks that are away.
pub record PausesWithin (interval pause : ℕ) (step : Step) : Type 0 where
  pub next : IsWithin interval pause
  pub due : (milliseconds : ℕ) → step ≡ Resting milliseconds → IsWithin interval milliseconds ⊎ (milliseconds ≡ LONG_PAUSE)

-- the claim pauses so
abbrev pub IsPaced : Claim → Type 0
IsPaced c = PausesWithin c.pace.interval c.pace.pause c.step

-- The interval stays, and pauses stay within it.
abbrev pub KeepsPace : Claim → Claim → Type 0
KeepsPace old new = (new.pace.interval ≡ old.pace.interval) × (IsPaced old → IsPaced new)
