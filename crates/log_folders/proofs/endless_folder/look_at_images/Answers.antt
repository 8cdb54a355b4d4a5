use Rattle.std.proofs.Common.{◌≡◌, ◌+◌, ◌∷◌, [], ℕ, Some, Ok, Result, List, length, slice_get, slice_set, refl, sym, ◌∙◌, ap, subst}
use Rattle.std.proofs.lemmas.List.{length-set, length-append}
use Rattle.disk.specs.declared.fault.ImageFault.{ImageFault}
use Rattle.disk.specs.FileStates.{FileState}
use Rattle.endless_image.specs.declared.any_header.AnyHeader.{AnyHeader}
use Rattle.folders.proofs.Images.{placed_more, paired_more}
use Rattle.log_folders.specs.AnyHeaders.{IsAnyHeader, disk_in}
use Rattle.log_folders.specs.EndlessFolders.{IsAnyDiskOf}
use Rattle.log_folders.proofs.Opened.{of_ok}
use Rattle.log_folders.proofs.endless_folder.look_at_images.Goals as goal

pub loop-disk-preserved : goal.loop-disk-preserved
loop-disk-preserved g c = record {
  as_many = ap length c.push_reserved.ensures.items ∙ length-append c.loop-disk.disks.items (c.in_ok-header.image ∷ []) ∙ ap (λ (n : ℕ). n + 1) c.loop-disk.invariant.as_many;
  found = length-set c.loop-disk.found c.from-in-loop-disk.result c.in_ok-header.header ∙ c.loop-disk.invariant.found;
  right = λ k header says. placed_more (λ n image. (h : AnyHeader) → image ≡ Ok h → IsAnyHeader h) c.loop-disk.found c.from-in-loop-disk.result c.in_ok-header.header
      (of_ok IsAnyHeader c.in_ok-header.header c.in_ok-header.ensures.right) (λ n image at h is. c.loop-disk.invariant.right n h (at ∙ ap Some is)) k (Ok header) says header refl;
  numbers = λ k header says. placed_more (λ n image. (h : AnyHeader) → image ≡ Ok h → disk_in h ≡ n) c.loop-disk.found c.from-in-loop-disk.result c.in_ok-header.header
      (λ h is. of_ok (λ x. disk_in x ≡ c.loop-disk.disk) c.in_ok-header.header c.in_ok-header.ensures.number h is ∙ sym c.from-in-loop-disk.ensures)
      (λ n image at h is. c.loop-disk.invariant.numbers n h (at ∙ ap Some is)) k (Ok header) says header refl;
  images = λ k d image at_disk at_image. paired_more (λ (x : FileState) (y : Result AnyHeader ImageFault). IsAnyDiskOf y x) c.loop-disk.disks.items c.loop-disk.found c.in_ok-header.image c.in_ok-header.header
      c.in_ok-header.ensures.disk c.loop-disk.invariant.images k d image
      (subst (λ (ds : List FileState). slice_get ds k ≡ Some d) c.push_reserved.ensures.items at_disk)
      (subst (λ (i : ℕ). slice_get (slice_set c.loop-disk.found i c.in_ok-header.header) k ≡ Some image) (c.from-in-loop-disk.ensures ∙ sym c.loop-disk.invariant.as_many) at_image);
}
