-- How many orders an operation may still give, once it is to end soon.
use Rattle.std.specs.Prelude.{◌≡◌, ◌+◌, ◌<◌, ◌⊎◌, ℕ, Bool, true, false, is_some}
use Rattle.session.specs.Places.{IsFull}
use Rattle.session.specs.declared.claim.Claim.{Claim}
use Rattle.session.specs.declared.claim.Sign.{Sign}
use Rattle.session.specs.declared.claim.Standing.{Standing}
use Rattle.session.specs.declared.claim.Standing.TheVariants.{Leaving}
use Rattle.session.specs.declared.claim.Step.{Step}
use Rattle.session.specs.declared.claim.Step.TheVariants.{Opening, OpeningToLook, Learning, Looking, Tidying, Submitting, Dropping, Resting, Yielding, Ended}
use Rattle.session.specs.declared.claim.Then.{Then}
use Rattle.session.specs.declared.learned.Learned.{Learned}
use Rattle.session.specs.declared.outcome.Outcome.{Outcome}

abbrev pub is_leaving : Standing → Bool
is_leaving Leaving = true
is_leaving standing = false

-- of a release that may be tried so often; all others give it up first
abbrev pub left_by : Step → Bool → ℕ → ℕ
left_by (Ended outcome) leaving tries = 0
left_by (Dropping sign then) leaving tries = 1
left_by (Submitting command) true tries = 2 + tries
left_by Looking true tries = 3 + tries
left_by Learning true tries = 3 + tries
left_by Opening true tries = 4 + tries
left_by step leaving tries = 13

-- the orders that are left at most, where none of them is a pause
abbrev pub orders_left : Claim → ℕ
orders_left c = left_by c.step (is_leaving c.standing) c.tries

-- An operation that is to end soon comes nearer to its end.
abbrev pub ComesNearer : Claim → Claim → Type 0
ComesNearer old new = is_some old.over ≡ true → 0 < orders_left old → orders_left new < orders_left old

-- the folder is opened
abbrev pub IsOpening : Step → Type 0
IsOpening step = (step ≡ Opening) ⊎ (step ≡ OpeningToLook)

-- nothing is done for a time
abbrev pub IsPause : Step → Type 0
IsPause step = ((milliseconds : ℕ) × (step ≡ Resting milliseconds)) ⊎ (step ≡ Yielding)

-- A wait may pause: no process that is gone holds the name, and the log takes a further command.
abbrev pub MayPause : Learned → Type 0
MayPause l = (l.left_over ≡ false) × ¬ IsFull l

-- what it leads to depends on a log that is read
abbrev pub IsReading : Step → Type 0
IsReading step = (step ≡ Learning) ⊎ (step ≡ Looking) ⊎ (step ≡ Tidying)

-- nothing is ordered that could fail: it pauses, gives a sign of life up, or has ended
abbrev pub CannotFail : Step → Type 0
CannotFail step = IsPause step ⊎ ((sign : Sign) × (then : Then) × (step ≡ Dropping sign then)) ⊎ ((outcome : Outcome) × (step ≡ Ended outcome))
