use Rattle.std.proofs.Common.{◌≡◌, ℕ, length, slice_get, Some, Result}
use Rattle.disk.specs.declared.fault.ImageFault.{ImageFault}
use Rattle.disk.specs.FileStates.{FileState}
use Rattle.paxos_block.specs.declared.header.Header.{Header}
use Rattle.folders.specs.Sets.{AreHeaders, Says}
use Rattle.folders.specs.Folders.{IsDiskOf}
use Rattle.folders.proofs.folder.open_images.Given as goal

abbrev pub invariant-loop-disk : goal.invariant-loop-disk
invariant-loop-disk g l = record {
  as_many : length l.disks.items ≡ l.disk;
  found : length l.found ≡ 7;
  right : AreHeaders l.found;
  numbers : (k : ℕ) (header : Header) → Says l.found k header → header.disk ≡ k;
  images : (k : ℕ) (d : FileState) (image : Result Header ImageFault) → slice_get l.disks.items k ≡ Some d → slice_get l.found k ≡ Some image → IsDiskOf g.L.Layout.version image d;
}
