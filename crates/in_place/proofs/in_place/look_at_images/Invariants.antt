use Rattle.std.proofs.Common.{◌≡◌, length}
use Rattle.in_place.specs.InPlaceFolders.{AreOwn}
use Rattle.in_place.proofs.in_place.look_at_images.Given as goal

abbrev pub invariant-loop-disk : goal.invariant-loop-disk
invariant-loop-disk g l = record {
  found : length l.found ≡ 7;
  own : AreOwn l.found;
}
