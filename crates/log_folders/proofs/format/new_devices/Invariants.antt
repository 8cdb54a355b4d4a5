use Rattle.std.proofs.Common.{◌≡◌, ◌≤◌, ℕ, Some, length, slice_get, vec_capacity}
use Rattle.disk.specs.FileStates.{FileState}
use Rattle.log_folders.specs.NewSets.{size_for}
use Rattle.log_folders.proofs.format.new_devices.Given as goal

abbrev pub invariant-loop-disk : goal.invariant-loop-disk
invariant-loop-disk g l = record {
  as_many : length l.devices.items ≡ l.disk;
  room : l.fn.set.config.disks ≤ vec_capacity l.devices;
  each : (k : ℕ) (device : FileState) → slice_get l.devices.items k ≡ Some device → size_for l.fn.set ≤ device.size;
}
