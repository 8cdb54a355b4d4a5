use Rattle.std.proofs.Common.{◌≡◌, ◌≤◌, ℕ, Some, length, slice_get, vec_capacity}
use Rattle.disk.specs.FileStates.{FileState}
use Rattle.torn_block.specs.Layout.{cluster_version}
use Rattle.paxos_block.specs.Places.{image_length}
use Rattle.folder_migration.specs.Migrating.{IsBlank}
use Rattle.folder_migration.proofs.new_folder.make_images.Given as goal

abbrev pub invariant-loop-disk : goal.invariant-loop-disk
invariant-loop-disk g l = record {
  as_many : length l.images.items ≡ l.disk;
  room : l.fn.config.disks ≤ vec_capacity l.images;
  each : (k : ℕ) (image : FileState) → slice_get l.images.items k ≡ Some image → IsBlank (image_length cluster_version l.fn.config.slots) image;
}
