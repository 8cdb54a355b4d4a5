use Rattle.std.proofs.Common.{◌≡◌, ◌<◌, ℕ, Some, Result, length, slice_get}
use Rattle.disk.specs.declared.fault.ImageFault.{ImageFault}
use Rattle.endless_image.specs.declared.any_header.AnyHeader.{AnyHeader}
use Rattle.c_epochs.specs.Images.{Finds, IsOwn}
use Rattle.c_host.proofs.Shown.{GoBelow}
use Rattle.c_epochs.proofs.images.found_in.Given as goal

abbrev pub invariant-loop-disk : goal.invariant-loop-disk
invariant-loop-disk l = record {
  all : length l.found ≡ 7;
  found : GoBelow (λ k said image. Finds k image said) l.found l.images.all l.disk;
  own : (k : ℕ) (said : Result AnyHeader ImageFault) → k < l.disk → slice_get l.found k ≡ Some said → IsOwn k said;
}
