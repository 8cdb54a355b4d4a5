use Rattle.std.proofs.Common.{◌≡◌, ◌≤◌, ℕ, Some, length, slice_get, vec_capacity}
use Rattle.disk.specs.FileStates.{FileState}
use Rattle.endless_image.specs.Sizes.{size_of}
use Rattle.in_place.proofs.in_place.long_devices.Given as goal

abbrev pub invariant-loop-disk : goal.invariant-loop-disk
invariant-loop-disk g l = record {
  as_many : length l.devices.items ≡ l.disk;
  room : l.set.disks ≤ vec_capacity l.devices;
  each : (k : ℕ) (device : FileState) → slice_get l.devices.items k ≡ Some device → device.size ≡ size_of l.set.slots;
}
