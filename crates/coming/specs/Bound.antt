-- How many calls a host makes at most that comes to an epoch.
use Rattle.std.specs.Prelude.{◌≡◌, ◌+◌, ◌*◌, ◌-◌, ℕ, Bool, true, nat_lt, Option, Some, None, if◌then◌else◌}
use Rattle.disk.specs.Disk.{Answer, Told, Done}
use Rattle.torn_block.specs.declared.write_steps.WriteCall.{WriteCall}
use Rattle.torn_block.specs.declared.write_steps.WriteCall.TheVariants.{SyncOpened}
use Rattle.standings.specs.declared.epoch.Epoch.{Epoch}
use Rattle.standings.specs.Reading.{numbers_in}
use Rattle.attempt.specs.WriteCalls.{made}
use Rattle.rounds.specs.declared.round.Stage.{Stage as RoundStage}
use Rattle.rounds.specs.declared.round.Stage.TheVariants as call
use Rattle.coming.specs.declared.end.End.{End}
use Rattle.coming.specs.declared.notes.Notes.{Notes}
use Rattle.coming.specs.declared.notes.Stage.{Stage}
use Rattle.coming.specs.declared.notes.Stage.TheVariants as stage

-- a read of each of the area's rows, a write where the host's block is not zeros, and a sync
abbrev pub clearing_calls : ℕ → ℕ
clearing_calls slots = 2 * (slots + 1) + 1

-- Of a host that is about to begin a look, with this number: three calls for the last look, and before it nine for each number up to the epoch's. Once it clears its blocks, after a look.
abbrev pub calls_to_come : (slots : ℕ) → Epoch → (cleared : Bool) → (number : ℕ) → ℕ
calls_to_come slots e cleared number = 3 + (if nat_lt number e.number then 9 * (e.number - number) + (if cleared then 0 else 3 + clearing_calls slots) else 0)

-- so many of them are left, as far as the round is
abbrev pub left_in_round : RoundStage → (number : ℕ) → Notes → ℕ
left_in_round call.Attaching number c = calls_to_come c.slots c.epoch c.is_cleared number
left_in_round call.Syncing number c = calls_to_come c.slots c.epoch c.is_cleared number - 1
left_in_round call.Reading number c = calls_to_come c.slots c.epoch c.is_cleared number - 2
left_in_round call.Writing number c = (6 - made c.round.steps.due) + calls_to_come c.slots c.epoch c.is_cleared (number + 1)

abbrev pub left_at : Stage → (number : ℕ) → Notes → ℕ
left_at stage.Beating number c = left_in_round c.round.stage number c
left_at (stage.Looking row) number c = 2 * (c.slots + 2 - row) + 1 + calls_to_come c.slots c.epoch true number
left_at (stage.Clearing row) number c = 2 * (c.slots + 2 - row) + calls_to_come c.slots c.epoch true number
left_at stage.Settling number c = 1 + calls_to_come c.slots c.epoch true number

abbrev pub left_by : Option End → (number : ℕ) → Notes → ℕ
left_by None number c = left_at c.stage number c
left_by (Some end) number c = 0

-- how many calls are left at most, where the host's number on the disk is this one
abbrev pub calls_left : (number : ℕ) → Notes → ℕ
calls_left number c = left_by c.end number c

-- the disk tells the host this number, if it reads its standings now
abbrev pub Tells : Stage → Notes → Answer → ℕ → Type 0
Tells stage.Beating c (Told row) number = numbers_in row c.host ≡ number
Tells stage c answer number = Unit {0}

-- the last call of a beat raises it
abbrev pub raised_by : Stage → RoundStage → Option WriteCall → Answer → ℕ → ℕ
raised_by stage.Beating call.Writing (Some SyncOpened) Done number = number + 1
raised_by stage calls due answer number = number

abbrev pub number_after : Notes → Answer → ℕ → ℕ
number_after c answer number = raised_by c.stage c.round.stage c.round.steps.due answer number
