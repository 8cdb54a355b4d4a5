-- Which device call a window makes for a call of the core, and how many of them at most.
use Rattle.std.specs.Prelude.{◌≡◌, ◌⊎◌, ◌+◌, ◌*◌, ◌≤◌, ℕ, length, Option}
use Rattle.disk.specs.Disk.{Call, Read, Write}
use Rattle.torn_block.specs.Layout.{cluster_version}
use Rattle.torn_block.specs.declared.layout.TheConstants.{ROW_LENGTH, BLOCK_LENGTH}
use Rattle.paxos_block.specs.Places.{image_length}
use Rattle.attempt.specs.DeviceCalls.{device_call_of}
use Rattle.attempt.specs.declared.need.Need.{Need}
use Rattle.standings.specs.Epochs.{base_of, standings_place}
use Rattle.standings.specs.Reading.{moved}
use Rattle.standings.specs.Past.{IsRow}
use Rattle.window.specs.declared.sight.Sight.{Sight}
use Rattle.window.specs.declared.step.Step.{Step}
use Rattle.window.specs.declared.window.Window.{Window}
use Rattle.window.specs.Knows.{Pasts, AllKnow, sight_in}
use Rattle.window.specs.Steps.{left_at, read_due, step_by}

-- the call that the core asks for
abbrev pub call_in : Need → Call
call_in need = device_call_of cluster_version need.call

-- A host's call on the image of its epoch: it reads whole rows, and writes within its own block of a row.
abbrev pub IsOwn : (n host : ℕ) → Call → Type 0
IsOwn n host (Read boot at len) = (row : ℕ) × IsRow n row × (at ≡ ROW_LENGTH * row) × (len ≡ ROW_LENGTH)
IsOwn n host (Write boot at from) =
    (row : ℕ) × IsRow n row × (ROW_LENGTH * row + BLOCK_LENGTH * host ≤ at) × (at + length from ≤ ROW_LENGTH * row + BLOCK_LENGTH * host + BLOCK_LENGTH)
IsOwn n host other = Unit {0}

-- It is made as it is, moved into the area. Where it is a read, the standings may be read in its place, under the same boot number.
abbrev pub IsMadeFor : (n area : ℕ) → (wanted call : Call) → Type 0
IsMadeFor n area (Read boot at len) call = (call ≡ Read boot (base_of n area + at) len) ⊎ (call ≡ Read boot (standings_place n area) ROW_LENGTH)
IsMadeFor n area wanted call = call ≡ moved (base_of n area) wanted

-- so many device calls are made for a call at most
abbrev pub most_for : Call → ℕ
most_for (Read boot at len) = 5
most_for other = 1

-- OF A WINDOW

-- the length of its epoch's image
abbrev pub length_of : Window → ℕ
length_of w = image_length cluster_version w.standpoint.slots

abbrev pub sight_of : Window → ℕ → Option Sight
sight_of w disk = sight_in w.sights disk

-- Each thing that it keeps is so by these pasts of the disks.
abbrev pub Follows : Window → Pasts → Type 0
Follows w pasts = AllKnow (length_of w) w.standpoint.epoch w.standpoint.host w.sights w.reading w.row w.has_passed pasts

abbrev pub step_of : Window → (disk boot at : ℕ) → Step
step_of w disk boot at = step_by w.reading (sight_of w disk) disk boot at

-- the device call that is due for this call of the core on a disk
abbrev pub due_for : Window → (disk : ℕ) → Call → Call
due_for w disk (Read boot at len) = read_due (length_of w) w.standpoint.epoch.area boot at len (step_of w disk boot at)
due_for w disk wanted = moved (base_of (length_of w) w.standpoint.epoch.area) wanted

-- and so many are due for it at most
abbrev pub left_for : Window → (disk : ℕ) → Call → ℕ
left_for w disk (Read boot at len) = left_at (step_of w disk boot at)
left_for w disk wanted = 1
