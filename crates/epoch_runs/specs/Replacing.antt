-- From which epoch on a disk may take part that is put in the place of another.
use Rattle.std.specs.Prelude.{◌≡◌, ◌+◌, ◌*◌, ◌<◌, ◌≤◌, ◌^◌, ℕ, Bool, true, false, List, [], ◌∷◌, length}
use Rattle.lock_command.specs.declared.record.TheConstants.{LOCKS}
use Rattle.lock_table.specs.declared.clients.TheConstants.{CLIENTS}
use Rattle.paxos_block.specs.Shape.{Shape}
use Rattle.attempt.specs.Numbers.{count}
use Rattle.endless.specs.Lived.{part}
use Rattle.epoch_deeds.specs.Knowing.{image_of}
use Rattle.epoch_runs.specs.Living.{lived_of}
use Rattle.epoch_runs.specs.World.{Entry, Replaces, World, opening, ShowsNoneAbove, model_crashes, power_losses, GoesTo}

-- Half of the disks or more, each of which takes part in the next epoch, show no number above an epoch.
pub record HalfShowNoneAbove (newest : ℕ) (c : Shape) (w : World) : Type 0 where
  pub those : ℕ → Bool
  pub half : c.disks ≤ 2 * count c.disks those
  pub takes_part : (k : ℕ) → k < c.disks → those k ≡ true → w.first k ≤ newest + 1
  pub none : (k : ℕ) → k < c.disks → those k ≡ true → ShowsNoneAbove newest (image_of c) (w.disk k)

-- Then nobody has learned that next epoch whole, and no core has called any disk in a later one. So another disk may take part from two epochs above on. From the next one on it may
-- not: there a core may have called the disk in whose place it is put.
abbrev pub NobodyGetsAhead : Type 0
NobodyGetsAhead =
    (c : Shape) (entries : List Entry) (w : World) (newest : ℕ) → LOCKS + CLIENTS ≤ c.slots → GoesTo model_crashes c (opening c) entries w → HalfShowNoneAbove newest c w →
    (k e : ℕ) → newest + 2 ≤ e → w.called k e ≡ false

-- So it is over losses of power.
abbrev pub NobodyGetsAheadOverLosses : Type 0
NobodyGetsAheadOverLosses =
    (c : Shape) (entries : List Entry) (w : World) (newest : ℕ) → LOCKS + CLIENTS ≤ c.slots → GoesTo power_losses c (opening c) entries w → ((e : ℕ) → length (part e (lived_of c entries)) < 2 ^ 62) →
    HalfShowNoneAbove newest c w → (k e : ℕ) → newest + 2 ≤ e → w.called k e ≡ false

-- At first all disks show no number above 0, and each may be replaced from epoch 2 on.
abbrev pub FreshDisksMayBeReplaced : Type 0
FreshDisksMayBeReplaced =
    (c : Shape) → HalfShowNoneAbove 0 c (opening c) × ((k : ℕ) → k < c.disks → (w : World) × GoesTo model_crashes c (opening c) (Replaces k 2 0 ∷ []) w × (w.first k ≡ 2))
