use Rattle.std.proofs.Common.{◌≡◌, ◌≤◌, length, vec_capacity}
use Rattle.folder_migration.proofs.new_folder.open_new_folder.Given as goal

abbrev pub invariant-loop-disk : goal.invariant-loop-disk
invariant-loop-disk g l = record {
  as_many : length l.images.items ≡ l.disk;
  room : l.fn.config.disks ≤ vec_capacity l.images;
}
