use Rattle.std.proofs.Common.{◌≡◌, length}
use Rattle.c_host.specs.Images.{Finds}
use Rattle.c_host.proofs.Shown.{GoBelow}
use Rattle.c_host.proofs.images.found_in.Given as goal

abbrev pub invariant-loop-disk : goal.invariant-loop-disk
invariant-loop-disk l = record {
  all : length l.found ≡ 7;
  found : GoBelow (λ k said image. Finds k image said) l.found l.images.all l.disk;
}
