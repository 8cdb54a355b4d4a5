use Rattle.std.specs.Prelude.{IsSome}
use Rattle.std.proofs.Common.{◌≡◌, ◌≤◌, ◌⊎◌, ℕ, length, slice_get, Some, None}
use Rattle.epoch_host.specs.Ending.{Ends, TableIsThere}
use Rattle.epoch_host.specs.Walking.{IsSame}
use Rattle.epoch_images.specs.Working.{HasDoneSince, room_of}
use Rattle.epoch_images.proofs.Doing.{IsOnWay}
use Rattle.epoch_images.proofs.operation.drive.Given as goal

abbrev pub invariant-loop-made : goal.invariant-loop-made
invariant-loop-made g l = record {
  done : HasDoneSince g.D.Disk.gives (record { host = l.fn.host; disks = l.fn.disks; firsts = l.fn.firsts }) (record { host = l.host; disks = l.disks; firsts = l.fn.firsts }) (IsOnWay l.host l.host.said);
  same : IsSame l.fn.host l.host;
  keeps : (l.host.task ≡ None) ⊎ (l.host.task ≡ Some l.fn.task);
  told : l.host.task ≡ None → IsSome l.host.said;
  ends : Ends (Some l.fn.task) l.host;
  there : TableIsThere l.host l.host.said;
  as_many : length l.disks ≡ length l.fn.disks;
  large : (k : ℕ) (d : g.row.D.Denot) → slice_get l.disks k ≡ Some d → room_of l.fn.host.config ≤ (g.D.Disk.device d).size;
}
