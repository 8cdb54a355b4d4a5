use Rattle.std.proofs.Common.{◌≡◌, ◌≤◌, ℕ, Some, length, slice_get, vec_capacity}
use Rattle.disk.specs.FileStates.{FileState}
use Rattle.torn_block.specs.Layout.{cluster_version}
use Rattle.paxos_block.specs.Places.{image_length}
use Rattle.folders.proofs.format.new_devices.Given as goal

abbrev pub invariant-loop-disk : goal.invariant-loop-disk
invariant-loop-disk g l = record {
  as_many : length l.devices.items ≡ l.disk;
  room : l.fn.config.disks ≤ vec_capacity l.devices;
  each : (k : ℕ) (device : FileState) → slice_get l.devices.items k ≡ Some device → image_length cluster_version l.fn.config.slots ≤ device.size;
}
