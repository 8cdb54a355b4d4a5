use Rattle.std.proofs.Common.{◌≡◌, ℕ, length}
use Rattle.endless_image.specs.declared.any_header.AnyHeader.{AnyHeader}
use Rattle.log_folders.specs.AnyHeaders.{disk_in}
use Rattle.log_folders.specs.AnySets.{AreAnyHeaders, Says}
use Rattle.log_folders.specs.EndlessFolders.{AreAnyDisksOf}
use Rattle.log_folders.proofs.endless_folder.look_at_images.Given as goal

abbrev pub invariant-loop-disk : goal.invariant-loop-disk
invariant-loop-disk g l = record {
  as_many : length l.disks.items ≡ l.disk;
  found : length l.found ≡ 7;
  right : AreAnyHeaders l.found;
  numbers : (k : ℕ) (header : AnyHeader) → Says l.found k header → disk_in header ≡ k;
  images : AreAnyDisksOf l.found l.disks.items;
}
