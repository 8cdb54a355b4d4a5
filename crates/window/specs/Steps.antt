-- The step that a read is at, and the device call that is due in it.
use Rattle.std.specs.Prelude.{◌+◌, ◌==◌, ◌&&◌, ℕ, Bool, true, false, List, Option, Some, None, if◌then◌else◌}
use Rattle.disk.specs.Disk.{Call, Read}
use Rattle.torn_block.specs.declared.layout.TheConstants.{ROW_LENGTH}
use Rattle.standings.specs.Epochs.{base_of, standings_place}
use Rattle.window.specs.declared.sight.Sight.{Sight}
use Rattle.window.specs.declared.step.Reading.{Reading}
use Rattle.window.specs.declared.step.Step.{Step}
use Rattle.window.specs.declared.step.Step.TheVariants.{First, Row, Second}

-- whether the read under way is this one
abbrev pub is_of : Reading → (disk boot at : ℕ) → Bool
is_of r disk boot at = (r.disk == disk) && (r.boot.number == boot) && (r.at == at)

-- the numbers that were read last under a boot number
abbrev pub numbers_under : ℕ → Option Sight → Option (List ℕ)
numbers_under boot None = None
numbers_under boot (Some s) = if s.boot.number == boot then s.numbers else None

-- A read begins with the row where the standings were read under its boot number before.
abbrev pub first_step : Option (List ℕ) → Step
first_step None = First
first_step (Some first) = Row first false

abbrev pub step_by : Option Reading → Option Sight → (disk boot at : ℕ) → Step
step_by None sight disk boot at = first_step (numbers_under boot sight)
step_by (Some r) sight disk boot at = if is_of r disk boot at then r.step else first_step (numbers_under boot sight)

abbrev pub read_due : (n area boot at len : ℕ) → Step → Call
read_due n area boot at len First = Read boot (standings_place n area) ROW_LENGTH
read_due n area boot at len (Row first is_last) = Read boot (base_of n area + at) len
read_due n area boot at len (Second first is_last) = Read boot (standings_place n area) ROW_LENGTH

-- so many device calls are made for a read at most, from a step on
abbrev pub left_at : Step → ℕ
left_at First = 5
left_at (Row first false) = 4
left_at (Second first false) = 3
left_at (Row first true) = 2
left_at (Second first true) = 1
