use Rattle.std.proofs.Common.{◌∙◌, ℕ, Result, Err, IfOk, refl}
use Rattle.std.proofs.lemmas.List.{length-set}
use Rattle.disk.specs.declared.fault.ImageFault.{ImageFault}
use Rattle.disk.specs.declared.fault.ImageFault.TheVariants.{Unreadable}
use Rattle.endless_image.specs.declared.progress.Progress.{Progress}
use Rattle.folders.proofs.Images.{Each-replicate, placed_more}
use Rattle.in_place.specs.InPlaceFolders.{IsOwn}
use Rattle.in_place.proofs.in_place.look_at_images.Goals as goal

pub loop-disk-init : goal.loop-disk-init
loop-disk-init g c = record { found = refl; own = λ k image is. Each-replicate (λ (x : Result Progress ImageFault). (n : ℕ) → IfOk x (IsOwn n)) 7 (Err Unreadable) (λ n. tt) k image is k }

pub loop-disk-preserved : goal.loop-disk-preserved
loop-disk-preserved g c = record {
  found = length-set c.loop-disk.found c.loop-disk.disk c.look_at_image-image.result ∙ c.loop-disk.invariant.found;
  own = placed_more (λ (n : ℕ) (image : Result Progress ImageFault). IfOk image (IsOwn n)) c.loop-disk.found c.loop-disk.disk c.look_at_image-image.result c.look_at_image-image.ensures c.loop-disk.invariant.own;
}
