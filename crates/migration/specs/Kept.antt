-- What a migration keeps, and when that is what follows from a list of answers.
use Rattle.std.specs.Prelude.{◌≡◌, ◌<◌, ◌-◌, ◌+◌, ℕ, Bool, true, false, List, [], ◌∷◌, ◌++◌, map, drop, Option, Some, None, slice_get, slice_index_or, if◌then◌else◌}
use Rattle.disk.specs.Disk as device
use Rattle.disk.specs.declared.boot.Boot.{Boot}
use Rattle.torn_block.specs.Layout.{cluster_version}
use Rattle.paxos_block.specs.Headers.{header_saying}
use Rattle.paxos_block.specs.Places.{place_of, VoteOf}
use Rattle.attempt.specs.declared.heard.Heard as code_heard
use Rattle.attempt.specs.declared.heard.Heard.TheVariants as answer
pub use Rattle.attempt.specs.DeviceCalls.{device_answer}
use Rattle.paxos_block.specs.Shape.{Shape}
use Rattle.migration.specs.Fits.{HasRoom}
use Rattle.migration.specs.Heard.{Progress, at_first, heard}
use Rattle.migration.specs.History.{IsHistory}
use Rattle.paxos_block.specs.Image.{Setup, header_of, block_for}
use Rattle.migration.specs.Plan.{Kind, Attaching, Putting, Syncing, Opening, Due, on, blocks_from, header_calls, opens, filling, opening, each, call_of}
use Rattle.migration.specs.declared.end.End.{End}
use Rattle.migration.specs.declared.end.End.TheVariants.{Migrated, MigrationFailed}
use Rattle.migration.specs.declared.notes.Notes.{Notes}
use Rattle.migration.specs.declared.notes.Stage as stages
use Rattle.migration.specs.declared.notes.Stage.TheVariants as stage

abbrev pub setup_by : Shape → ℕ → List (List ℕ) → Setup
setup_by config cluster log = record { disks = config.disks; slots = config.slots; cluster = cluster; log = log }

abbrev pub setup_of : Notes → Setup
setup_of n = setup_by n.config n.cluster n.log.items

-- THE CALLS THAT ARE LEFT

-- from the block of this slot on
abbrev pub left_from : Notes → ℕ → List Kind
left_from n slot = map Putting (blocks_from slot (drop slot n.log.items)) ++ Syncing ∷ header_calls (setup_of n) n.disk

-- on the disk that is visited
abbrev pub left_here : stages.Stage → Notes → List Kind
left_here stage.Attaching n = Attaching ∷ left_from n 0
left_here stage.PuttingBlock n = left_from n n.slot
left_here stage.SyncingBlocks n = Syncing ∷ header_calls (setup_of n) n.disk
left_here stage.PuttingHeader n = header_calls (setup_of n) n.disk
left_here stage.SyncingHeader n = Syncing ∷ []
left_here stage.OpeningGate n = opens
left_here stage.SyncingGate n = Syncing ∷ []

-- on those behind it; gates are opened behind all other calls
abbrev pub gates_later : Notes → List Due
gates_later n = each opening (n.disk + 1) (n.config.disks - (n.disk + 1))

abbrev pub fills_later : Notes → List Due
fills_later n = each (filling (setup_of n)) (n.disk + 1) (n.config.disks - (n.disk + 1)) ++ each opening 0 n.config.disks

abbrev pub left_later : stages.Stage → Notes → List Due
left_later stage.Attaching n = fills_later n
left_later stage.PuttingBlock n = fills_later n
left_later stage.SyncingBlocks n = fills_later n
left_later stage.PuttingHeader n = fills_later n
left_later stage.SyncingHeader n = fills_later n
left_later stage.OpeningGate n = gates_later n
left_later stage.SyncingGate n = gates_later n

abbrev pub left_by : Option End → Notes → List Due
left_by (Some Migrated) n = []
left_by (Some MigrationFailed) n = on n.disk (left_here n.stage n) ++ left_later n.stage n
left_by None n = on n.disk (left_here n.stage n) ++ left_later n.stage n

abbrev pub has_failed : Option End → Bool
has_failed (Some Migrated) = false
has_failed (Some MigrationFailed) = true
has_failed None = false

abbrev pub boot_in : List Boot → ℕ → ℕ
boot_in boots d = (slice_index_or boots d (record { number = 0 })).number

-- these calls are left
abbrev pub going_on : Notes → List Due → Progress
going_on n rest = record { rest = rest; boot = boot_in n.boots; failed = false }

-- how far it has come
abbrev pub progress_of : Notes → Progress
progress_of n = record { rest = left_by n.end n; boot = boot_in n.boots; failed = has_failed n.end }

-- WHAT IS KEPT AT ANY TIME

-- the bytes that are written next are at hand
abbrev pub HasBytes : stages.Stage → Notes → Type 0
HasBytes stage.PuttingBlock n = (value : List ℕ) × (slice_get n.log.items n.slot ≡ Some value) × (n.block ≡ block_for value)
HasBytes stage.PuttingHeader n = n.header ≡ header_saying cluster_version (header_of (setup_of n) n.disk)
HasBytes other n = Unit {0}

pub record IsSound (n : Notes) : Type 0 where
  pub room : HasRoom (setup_of n)
  pub visits_one : n.disk < n.config.disks
  pub bytes : HasBytes n.stage n

-- THE CALL THAT IS DUE

abbrev pub kind_at : stages.Stage → Notes → Kind
kind_at stage.Attaching n = Attaching
kind_at stage.PuttingBlock n = Putting (place_of cluster_version (VoteOf n.slot 0), n.block)
kind_at stage.SyncingBlocks n = Syncing
kind_at stage.PuttingHeader n = Putting (1, drop 1 n.header)
kind_at stage.SyncingHeader n = Syncing
kind_at stage.OpeningGate n = Opening
kind_at stage.SyncingGate n = Syncing

abbrev pub call_due : Notes → ℕ × device.Call
call_due n = (n.disk, call_of (boot_in n.boots n.disk) (kind_at n.stage n))

-- an answer of the kind that the call may get
abbrev pub FitsStage : stages.Stage → code_heard.Heard (List ℕ) → Type 0
FitsStage at (answer.Fault fault) = Unit {0}
FitsStage stage.Attaching (answer.Booted boot) = Unit {0}
FitsStage stage.Attaching other = ⊥
FitsStage at (answer.Booted boot) = ⊥
FitsStage at answer.Done = Unit {0}
FitsStage at (answer.Told bytes) = ⊥

-- WHAT FOLLOWS FROM THE ANSWERS

-- it has failed, or no call is left
abbrev pub end_in : List Due → Option End
end_in [] = Some Migrated
end_in (due ∷ rest) = None

abbrev pub end_by : Progress → Option End
end_by p = if p.failed then Some MigrationFailed else end_in p.rest

-- The answers lead to this: each is to the call that was due, and what is kept is what was heard by them.
pub record LeadsTo (s : Setup) (answers : List device.Answer) (n : Notes) : Type 0 where
  pub of : setup_of n ≡ s
  pub history : IsHistory (at_first s) answers
  pub progress : progress_of n ≡ heard (at_first s) answers
