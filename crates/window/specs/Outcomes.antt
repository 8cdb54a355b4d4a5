-- What the core is to hear once a device call was answered, and why.
use Rattle.std.specs.Prelude.{◌≡◌, ◌≢◌, ◌⊎◌, ℕ, Bool, true, false, List, slice_index, Option, Some, None}
use Rattle.disk.specs.declared.fault.DiskFault.TheVariants.{Failed}
use Rattle.disk.specs.Disk.{Answer, Told, Fault}
use Rattle.heartbeat.specs.Beat.{IsDamagedArea}
use Rattle.standings.specs.declared.epoch.Epoch.{Epoch}
use Rattle.standings.specs.Reading.{AreClear, HasPassed, numbers_in}
use Rattle.window.specs.declared.outcome.Outcome.{Outcome}
use Rattle.window.specs.declared.outcome.Outcome.TheVariants as outcome
use Rattle.window.specs.declared.standing.Hidden.{Hidden}
use Rattle.window.specs.declared.standing.Hidden.TheVariants as hidden
use Rattle.window.specs.declared.standpoint.Standpoint.{Standpoint}
use Rattle.window.specs.declared.step.Step.{Step}
use Rattle.window.specs.declared.step.Step.TheVariants.{First, Row, Second}

-- the answer to the core's call, where this was the device's and this the row that is shown
abbrev pub answer_by : List ℕ → Outcome → Answer → Answer
answer_by row outcome.AsHeard answer = answer
answer_by row outcome.Row answer = Told row
answer_by row outcome.Failed answer = Fault Failed

-- The row of standings is sound, and nobody has left the epoch. The host itself is inside, unless it only looks.
pub record IsGood (from : Standpoint) (standings : List ℕ) : Type 0 where
  pub sound : ¬ IsDamagedArea standings
  pub nobody : ¬ HasPassed from.epoch (numbers_in standings)
  pub inside : from.only_looks ≡ false → numbers_in standings from.host ≡ from.epoch.number

-- why it is not so
abbrev pub IsHiddenBy : Standpoint → List ℕ → Hidden → Type 0
IsHiddenBy from standings hidden.Damaged = IsDamagedArea standings
IsHiddenBy from standings hidden.Passed = (¬ IsDamagedArea standings) × HasPassed from.epoch (numbers_in standings)
IsHiddenBy from standings hidden.Outside =
    (from.only_looks ≡ false) × (¬ HasPassed from.epoch (numbers_in standings)) × (numbers_in standings from.host ≢ from.epoch.number)

abbrev pub IsHidden : Standpoint → List ℕ → Type 0
IsHidden from standings = (why : Hidden) × IsHiddenBy from standings why

-- In a read these bytes were read, and another call is due.
abbrev pub GoesOnAt : Standpoint → Step → List ℕ → Type 0
GoesOnAt from First bytes = IsGood from bytes
GoesOnAt from (Row first is_last) bytes = Unit {0}
GoesOnAt from (Second first is_last) bytes = IsGood from bytes × (is_last ≡ false) × ¬ AreClear from.epoch (slice_index first) (numbers_in bytes)

-- or the row is shown
abbrev pub ShowsAt : Standpoint → Step → List ℕ → Type 0
ShowsAt from First bytes = ⊥
ShowsAt from (Row first is_last) bytes = ⊥
ShowsAt from (Second first is_last) bytes = IsGood from bytes × AreClear from.epoch (slice_index first) (numbers_in bytes)

-- or the core hears that the read failed
abbrev pub FailsAt : Standpoint → Step → List ℕ → Type 0
FailsAt from First bytes = IsHidden from bytes
FailsAt from (Row first is_last) bytes = ⊥
FailsAt from (Second first is_last) bytes = IsHidden from bytes ⊎ ((is_last ≡ true) × ¬ AreClear from.epoch (slice_index first) (numbers_in bytes))

abbrev pub IsAfterReading : Standpoint → Step → List ℕ → Option Outcome → Type 0
IsAfterReading from step bytes None = GoesOnAt from step bytes
IsAfterReading from step bytes (Some outcome.AsHeard) = ⊥
IsAfterReading from step bytes (Some outcome.Row) = ShowsAt from step bytes
IsAfterReading from step bytes (Some outcome.Failed) = FailsAt from step bytes

-- It is noticed that somebody has left the epoch.
abbrev pub NoticesAt : Epoch → Step → List ℕ → (has_passed : Bool) → Type 0
NoticesAt e First bytes has_passed = (¬ IsDamagedArea bytes) → HasPassed e (numbers_in bytes) → has_passed ≡ true
NoticesAt e (Row first is_last) bytes has_passed = Unit {0}
NoticesAt e (Second first is_last) bytes has_passed = (¬ IsDamagedArea bytes) → HasPassed e (numbers_in bytes) → has_passed ≡ true

-- so it is kept: why no row is shown says whether somebody has left
abbrev pub passed_by : Hidden → Bool → Bool
passed_by hidden.Passed before = true
passed_by other before = before
